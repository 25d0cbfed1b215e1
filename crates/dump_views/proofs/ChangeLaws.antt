-- There is one list of changes, and nothing is written of it if and only if nothing changed.
use Rattle.std.proofs.Common.{◌≡◌, List, [], ◌∷◌, ◌++◌, Bool, true, false, Option, Some, None, refl, sym, ap, subst, ◌∙◌}
use Rattle.std.specs.Prelude.{bytes_eq, if◌then◌else◌}
use Rattle.std.specs.Cmp.{tied_itself}
use Rattle.std.specs.Cmp.Lexicographic.{nat_list_cmp_total}
use Rattle.std.specs.declared.cmp.Ordering.TheVariants.{Less, Equal, Greater}
use Rattle.spiffe_doc.specs.Authority.{BundleValue}
use Rattle.spiffe_doc.specs.Equal.{bundle_eq}
use Rattle.spiffe_doc.specs.Private.Equality.{bundle_decides}
use Rattle.map_core.specs.Name.{Name, name_cmp}
use Rattle.frame_front.specs.Dump.{Domains}
use Rattle.dump_views.specs.Changes.{Change, Added, Removed, Changed, held_under, InOrder}
use Rattle.dump_views.specs.ChangeLines.{line_of, lines_of}
use Rattle.dump_views.specs.Laws.{NothingIsSame, ChangesAreOne}
use Rattle.dump_views.specs.Private.Merging.{by_order, merged}
use Rattle.dump_views.proofs.Holdings.{own_name, equal_name, turned, absent, absent_at, at_first, at_other}
use Rattle.dump_views.proofs.MergeLemmas.{merged_only_new, merged_only_old, merged_by_order, merged_equal, merged_none}
use Rattle.dump_views.proofs.MergeLaws.{found}

-- ---- lists in order that hold the same are one
no_some : {A : Type 0} (a : A) → None ≡ Some a → ⊥
no_some a is = cc

same_some : {A : Type 0} (a b : A) → Some a ≡ Some b → a ≡ b
same_some a b is = cc

module _ {A : Type 0} where
  -- the first of one list is the first of the other
  not_less : (a b : Name × A) (xs ys : List (Name × A)) → InOrder (Some b.0) ys → name_cmp a.0 b.0 ≡ Less
      → held_under (a ∷ xs) a.0 ≡ held_under (b ∷ ys) a.0 → ⊥
  not_less a b xs ys order less same =
      no_some a.1 (sym (absent a.0 (b ∷ ys) (less, order)) ∙ sym same ∙ at_first a xs a.0 (own_name a.0))

  tails_hold : (a b : Name × A) (xs ys : List (Name × A)) → InOrder (Some a.0) xs → InOrder (Some b.0) ys → a.0 ≡ b.0
      → ((name : Name) → held_under (a ∷ xs) name ≡ held_under (b ∷ ys) name) → (name : Name) → held_under xs name ≡ held_under ys name
  tails_hold a b xs ys a_order b_order one same name = (elim (bytes_eq a.0 name) as (λ t. bytes_eq a.0 name ≡ t → held_under xs name ≡ held_under ys name) [
    | true ↦ λ t. absent_at a.0 name xs a_order t ∙ sym (absent_at b.0 name ys b_order (subst (λ n. bytes_eq n name ≡ true) one t))
    | false ↦ λ f. sym (at_other a xs name f) ∙ same name ∙ at_other b ys name (subst (λ n. bytes_eq n name ≡ false) one f)
  ]) refl

  held_same : (last other : Option Name) (xs ys : List (Name × A)) → InOrder last xs → InOrder other ys
      → ((name : Name) → held_under xs name ≡ held_under ys name) → xs ≡ ys
  unfolding held_under
  held_same last other [] [] a_order b_order same = refl
  held_same last other [] (b ∷ ys) a_order b_order same = absurd (no_some b.1 (same b.0 ∙ at_first b ys b.0 (own_name b.0)))
  held_same last other (a ∷ xs) [] a_order b_order same = absurd (no_some a.1 (sym (same a.0) ∙ at_first a xs a.0 (own_name a.0)))
  held_same last other (a ∷ xs) (b ∷ ys) a_order b_order same = (elim (name_cmp a.0 b.0) as (λ o. name_cmp a.0 b.0 ≡ o → a ∷ xs ≡ b ∷ ys) [
    | Less ↦ λ less. absurd (not_less a b xs ys b_order.1 less (same a.0))
    | Greater ↦ λ greater. absurd (not_less b a ys xs a_order.1 (turned a.0 b.0 greater) (sym (same b.0)))
    | Equal ↦ λ equal.
        let one = equal_name a.0 b.0 equal in
        let also = own_name b.0 in
        let here : bytes_eq a.0 b.0 ≡ true = subst (λ n. bytes_eq n b.0 ≡ true) (sym one) also in
        let value = same_some a.1 b.1 (sym (at_first a xs b.0 here) ∙ same b.0 ∙ at_first b ys b.0 also) in
        λ i. (one i, value i) ∷ held_same (Some a.0) (Some b.0) xs ys a_order.1 b_order.1 (tails_hold a b xs ys a_order.1 b_order.1 one same) i
  ]) refl

pub changes_are_one : ChangesAreOne
changes_are_one old new changes others are also =
    held_same None None changes others are.in_order also.in_order (λ name. are.exact name ∙ sym (also.exact name))

-- ---- what is written of changes
a_line : (change : Name × Change) → line_of change ≡ [] → ⊥
unfolding line_of
a_line (name, Added bundle) none = cc
a_line (name, Removed) none = cc
a_line (name, Changed old new) none = cc

left_none : {X : Type 0} (xs ys : List X) → xs ++ ys ≡ [] → xs ≡ []
left_none [] ys none = refl
left_none (x ∷ xs) ys none = absurd (let e = none in cc)

nothing_written : (changes : List (Name × Change)) → lines_of changes ≡ [] → changes ≡ []
nothing_written [] none = refl
nothing_written (change ∷ changes) none = absurd (a_line change (left_none (line_of change) (lines_of changes) none))

-- ---- nothing is found if and only if both lists are the same
no_more : {X : Type 0} (x : X) (xs : List X) → x ∷ xs ≡ [] → ⊥
no_more x xs is = cc

same_both : (old new : Name × BundleValue) (others : List (Name × Change)) (b : Bool) → ((if b then [] else (old.0, Changed old.1 new.1) ∷ []) ++ others) ≡ [] → (b ≡ true) × (others ≡ [])
same_both old new others true none = (refl, none)
same_both old new others false none = absurd (no_more (old.0, Changed old.1 new.1) others none)

none_found : (olds news : Domains) → merged olds news ≡ [] → olds ≡ news
none_found [] [] none = refl
none_found [] (new ∷ news) none = absurd (no_more _ _ (sym (merged_only_new new news) ∙ none))
none_found (old ∷ olds) [] none = absurd (no_more _ _ (sym (merged_only_old old olds) ∙ none))
none_found (old ∷ olds) (new ∷ news) none = (elim (name_cmp old.0 new.0) as (λ o. name_cmp old.0 new.0 ≡ o
    → by_order o old new (merged olds (new ∷ news)) (merged olds news) (merged (old ∷ olds) news) ≡ [] → old ∷ olds ≡ new ∷ news) [
      | Less ↦ λ less is. absurd (no_more _ _ is)
      | Equal ↦ λ equal is.
          let same = same_both old new (merged olds news) (bundle_eq old.1 new.1) is in
          let name = equal_name old.0 new.0 equal in
          let bundle = (bundle_decides old.1 new.1).0 same.0 in
          λ i. (name i, bundle i) ∷ none_found olds news same.1 i
      | Greater ↦ λ greater is. absurd (no_more _ _ is)
    ]) refl (sym (merged_by_order old new olds news) ∙ none)

same_found : (items : Domains) → merged items items ≡ []
same_found [] = merged_none
same_found (item ∷ items) =
    merged_equal item item items items (tied_itself nat_list_cmp_total item.0)
    ∙ ap (λ b. (if b then [] else (item.0, Changed item.1 item.1) ∷ []) ++ merged items items) ((bundle_decides item.1 item.1).1 refl)
    ∙ same_found items

pub nothing_is_same : NothingIsSame
nothing_is_same old new changes o n are =
    let one = changes_are_one old new changes (merged old new) are (found old new o n) in (
      λ none. none_found old new (sym one ∙ nothing_written changes none),
      λ same. ap lines_of (one ∙ ap (λ (items : Domains). merged items new) same ∙ same_found new),
    )
