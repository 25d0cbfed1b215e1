-- Both lists of domains gone through together: a step, and what is written of it.
use Rattle.std.proofs.Common.{◌≡◌, ◌++◌, List, ℕ, [], ◌∷◌, length, refl, ap, ◌∙◌, append_assoc, append-nil, sym}
use Rattle.std.proofs.lemmas.List.{nil_from_length}
use Rattle.std.proofs.lemmas.List.Concat.{flat_map-append}
use Rattle.std.specs.declared.cmp.Ordering.{Ordering}
use Rattle.std.specs.declared.cmp.Ordering.TheVariants.{Less, Equal, Greater}
use Rattle.spiffe_doc.specs.Authority.{BundleValue}
use Rattle.map_core.specs.Name.{Name, name_cmp}
use Rattle.frame_front.specs.Dump.{Domains}
use Rattle.dump_views.specs.Changes.{Change, Added, Removed}
use Rattle.dump_views.specs.ChangeLines.{line_of, lines_of}
use Rattle.dump_views.specs.Private.Merging.{change_of_both, all_added, by_order, merged_with, merged}

abbrev Domain : Type 0
Domain = Name × BundleValue

pub merged_none : merged [] [] ≡ []
unfolding merged all_added
merged_none = refl

pub merged_only_new : (new : Domain) (news : Domains) → merged [] (new ∷ news) ≡ (new.0, Added new.1) ∷ merged [] news
unfolding merged all_added
merged_only_new new news = refl

pub merged_only_old : (old : Domain) (olds : Domains) → merged (old ∷ olds) [] ≡ (old.0, Removed) ∷ merged olds []
unfolding merged merged_with
merged_only_old old olds = refl

module _ (old new : Domain) (olds news : Domains) where
  pub merged_by_order : merged (old ∷ olds) (new ∷ news) ≡ by_order (name_cmp old.0 new.0) old new (merged olds (new ∷ news)) (merged olds news) (merged (old ∷ olds) news)
  unfolding merged merged_with
  merged_by_order = refl

  by : (o : Ordering) → name_cmp old.0 new.0 ≡ o → merged (old ∷ olds) (new ∷ news) ≡ by_order o old new (merged olds (new ∷ news)) (merged olds news) (merged (old ∷ olds) news)
  by o is = merged_by_order ∙ ap (λ p. by_order p old new (merged olds (new ∷ news)) (merged olds news) (merged (old ∷ olds) news)) is

  pub merged_less : name_cmp old.0 new.0 ≡ Less → merged (old ∷ olds) (new ∷ news) ≡ (old.0, Removed) ∷ merged olds (new ∷ news)
  merged_less is = by Less is

  pub merged_equal : name_cmp old.0 new.0 ≡ Equal → merged (old ∷ olds) (new ∷ news) ≡ change_of_both old new ++ merged olds news
  merged_equal is = by Equal is

  pub merged_greater : name_cmp old.0 new.0 ≡ Greater → merged (old ∷ olds) (new ∷ news) ≡ (new.0, Added new.1) ∷ merged (old ∷ olds) news
  merged_greater is = by Greater is

-- the line of a change is appended, and the lines of the others follow
pub told : (out : List ℕ) (change : Name × Change) (others all : List (Name × Change)) → all ≡ change ∷ others → (out ++ line_of change) ++ lines_of others ≡ out ++ lines_of all
told out change others all is = append_assoc out (line_of change) (lines_of others) ∙ ap (λ t. out ++ lines_of t) (sym is)

pub told_all : (out : List ℕ) (changes others all : List (Name × Change)) → all ≡ changes ++ others → (out ++ lines_of changes) ++ lines_of others ≡ out ++ lines_of all
told_all out changes others all is =
    append_assoc out (lines_of changes) (lines_of others) ∙ ap (λ t. out ++ t) (sym (flat_map-append line_of changes others)) ∙ ap (λ t. out ++ lines_of t) (sym is)

-- ---- a step of both lists, and what is written of it
module _ (out next : List ℕ) (old new : Domains) where
  pub step_none_new : (first : Domain) (news : Domains) → length old ≡ 0 → new ≡ first ∷ news → next ≡ out ++ line_of (first.0, Added first.1)
      → next ++ lines_of (merged old news) ≡ out ++ lines_of (merged old new)
  step_none_new first news none is next_is =
      let no_old = nil_from_length old none in
      ap (λ t. t ++ lines_of (merged old news)) next_is
      ∙ told out (first.0, Added first.1) (merged old news) (merged old new)
      ((λ i. merged (no_old i) (is i)) ∙ merged_only_new first news ∙ ap (λ o. (first.0, Added first.1) ∷ merged o news) (sym no_old))

  pub step_none_old : (first : Domain) (olds : Domains) → old ≡ first ∷ olds → length new ≡ 0 → next ≡ out ++ line_of (first.0, Removed)
      → next ++ lines_of (merged olds new) ≡ out ++ lines_of (merged old new)
  step_none_old first olds is none next_is =
      let no_new = nil_from_length new none in
      ap (λ t. t ++ lines_of (merged olds new)) next_is
      ∙ told out (first.0, Removed) (merged olds new) (merged old new)
      ((λ i. merged (is i) (no_new i)) ∙ merged_only_old first olds ∙ ap (λ n. (first.0, Removed) ∷ merged olds n) (sym no_new))

  module _ (first other : Domain) (olds news : Domains) (old_is : old ≡ first ∷ olds) (new_is : new ≡ other ∷ news) where
    both_are : merged old new ≡ merged (first ∷ olds) (other ∷ news)
    both_are = λ i. merged (old_is i) (new_is i)

    pub step_less : name_cmp first.0 other.0 ≡ Less → next ≡ out ++ line_of (first.0, Removed) → next ++ lines_of (merged olds new) ≡ out ++ lines_of (merged old new)
    step_less order next_is =
        ap (λ t. t ++ lines_of (merged olds new)) next_is
        ∙ told out (first.0, Removed) (merged olds new) (merged old new)
        (both_are ∙ merged_less first other olds news order ∙ ap (λ n. (first.0, Removed) ∷ merged olds n) (sym new_is))

    pub step_equal : name_cmp first.0 other.0 ≡ Equal → next ≡ out ++ lines_of (change_of_both first other) → next ++ lines_of (merged olds news) ≡ out ++ lines_of (merged old new)
    step_equal order next_is =
        ap (λ t. t ++ lines_of (merged olds news)) next_is
        ∙ told_all out (change_of_both first other) (merged olds news) (merged old new) (both_are ∙ merged_equal first other olds news order)

    pub step_greater : name_cmp first.0 other.0 ≡ Greater → next ≡ out ++ line_of (other.0, Added other.1) → next ++ lines_of (merged old news) ≡ out ++ lines_of (merged old new)
    step_greater order next_is =
        ap (λ t. t ++ lines_of (merged old news)) next_is
        ∙ told out (other.0, Added other.1) (merged old news) (merged old new)
        (both_are ∙ merged_greater first other olds news order ∙ ap (λ o. (other.0, Added other.1) ∷ merged o news) (sym old_is))

pub none_left : (out : List ℕ) (olds news : Domains) → length olds ≡ 0 → length news ≡ 0 → out ++ lines_of (merged olds news) ≡ out
none_left out olds news no_old no_new =
    ap (λ (o : Domains). out ++ lines_of (merged o news)) (nil_from_length olds no_old)
    ∙ ap (λ (n : Domains). out ++ lines_of (merged [] n)) (nil_from_length news no_new)
    ∙ ap (λ t. out ++ lines_of t) merged_none ∙ append-nil out
