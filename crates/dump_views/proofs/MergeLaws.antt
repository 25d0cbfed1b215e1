-- The changes that are found are those that there are, and no others are.
use Rattle.std.proofs.Common.{◌≡◌, List, [], ◌∷◌, ◌++◌, Bool, true, false, Option, Some, None, refl, sym, ap, subst, ◌∙◌}
use Rattle.std.specs.Prelude.{bytes_eq, if◌then◌else◌}
use Rattle.std.specs.declared.cmp.Ordering.TheVariants.{Less, Equal, Greater}
use Rattle.spiffe_doc.specs.Authority.{BundleValue}
use Rattle.spiffe_doc.specs.Equal.{bundle_eq}
use Rattle.map_core.specs.Name.{Name, name_cmp}
use Rattle.map_core.specs.Laws.{IsAfter, Ascends}
use Rattle.frame_front.specs.Dump.{Domains}
use Rattle.dump_views.specs.Changes.{Change, Added, Removed, Changed, held_under, InOrder, change_between, AreChanges}
use Rattle.dump_views.specs.Private.Merging.{change_of_both, all_added, by_order, merged}
use Rattle.dump_views.proofs.Holdings.{equal_name, turned, after_earlier, absent_at, at_first, at_other}
use Rattle.dump_views.proofs.MergeLemmas.{merged_only_old, merged_by_order}

in_order : (last : Option Name) (items : Domains) → Ascends last items → InOrder last items
in_order last [] ascends = tt
in_order last (item ∷ items) ascends = (ascends.0, in_order (Some item.0) items ascends.1)

-- ---- the changes are in order
added_in_order : (last : Option Name) (news : Domains) → InOrder last news → InOrder last (all_added news)
unfolding all_added
added_in_order last [] order = tt
added_in_order last (new ∷ news) order = (order.0, added_in_order (Some new.0) news order.1)

both_in_order : (last : Option Name) (old new : Name × BundleValue) (others : List (Name × Change)) → IsAfter last old.0 → InOrder (Some old.0) others → InOrder last (change_of_both old new ++ others)
both_in_order last old new others after order = by (bundle_eq old.1 new.1)
  where
    by : (b : Bool) → InOrder last ((if b then [] else (old.0, Changed old.1 new.1) ∷ []) ++ others)
    by true = after_earlier last old.0 others after order
    by false = (after, order)

merged_in_order : (last : Option Name) (olds news : Domains) → InOrder last olds → InOrder last news → InOrder last (merged olds news)
unfolding merged
merged_in_order last [] news o n = added_in_order last news n
merged_in_order last (old ∷ olds) [] o n =
    subst (InOrder last) (sym (merged_only_old old olds)) (o.0, merged_in_order (Some old.0) olds [] o.1 tt)
merged_in_order last (old ∷ olds) (new ∷ news) o n =
    subst (InOrder last) (sym (merged_by_order old new olds news))
    ((elim (name_cmp old.0 new.0) as (λ r. name_cmp old.0 new.0 ≡ r → InOrder last (by_order r old new (merged olds (new ∷ news)) (merged olds news) (merged (old ∷ olds) news))) [
      | Less ↦ λ less. (o.0, merged_in_order (Some old.0) olds (new ∷ news) o.1 (less, n.1))
      | Equal ↦ λ equal. both_in_order last old new (merged olds news) o.0
          (merged_in_order (Some old.0) olds news o.1 (subst (λ name. InOrder (Some name) news) (sym (equal_name old.0 new.0 equal)) n.1))
      | Greater ↦ λ greater. (n.0, merged_in_order (Some new.0) (old ∷ olds) news (turned old.0 new.0 greater, o.1) n.1)
    ]) refl)

-- ---- and say of each name what changed under it
added_exact : (news : Domains) (name : Name) → held_under (all_added news) name ≡ change_between None (held_under news name)
unfolding all_added held_under
added_exact [] name = refl
added_exact (new ∷ news) name = (elim (bytes_eq new.0 name) as (λ b. bytes_eq new.0 name ≡ b → held_under (all_added (new ∷ news)) name ≡ change_between None (held_under (new ∷ news) name)) [
  | true ↦ λ t. at_first (new.0, Added new.1) (all_added news) name t ∙ sym (ap (change_between None) (at_first new news name t))
  | false ↦ λ f. at_other (new.0, Added new.1) (all_added news) name f ∙ added_exact news name ∙ sym (ap (change_between None) (at_other new news name f))
]) refl

-- the change of one name is told first, and those of the others as they are
module _ (old : Name × BundleValue) (olds news : Domains) (name : Name) where
  removed_exact : (others : List (Name × Change)) → InOrder (Some old.0) news → held_under others name ≡ change_between (held_under olds name) (held_under news name)
      → held_under ((old.0, Removed) ∷ others) name ≡ change_between (held_under (old ∷ olds) name) (held_under news name)
  removed_exact others later exact = (elim (bytes_eq old.0 name) as (λ b. bytes_eq old.0 name ≡ b → held_under ((old.0, Removed) ∷ others) name ≡ change_between (held_under (old ∷ olds) name) (held_under news name)) [
    | true ↦ λ t. at_first (old.0, Removed) others name t ∙ sym (λ i. change_between (at_first old olds name t i) (absent_at old.0 name news later t i))
    | false ↦ λ f. at_other (old.0, Removed) others name f ∙ exact ∙ sym (ap (λ h. change_between h (held_under news name)) (at_other old olds name f))
  ]) refl

module _ (new : Name × BundleValue) (olds news : Domains) (name : Name) where
  new_exact : (others : List (Name × Change)) → InOrder (Some new.0) olds → held_under others name ≡ change_between (held_under olds name) (held_under news name)
      → held_under ((new.0, Added new.1) ∷ others) name ≡ change_between (held_under olds name) (held_under (new ∷ news) name)
  new_exact others later exact = (elim (bytes_eq new.0 name) as (λ b. bytes_eq new.0 name ≡ b → held_under ((new.0, Added new.1) ∷ others) name ≡ change_between (held_under olds name) (held_under (new ∷ news) name)) [
    | true ↦ λ t. at_first (new.0, Added new.1) others name t ∙ sym (λ i. change_between (absent_at new.0 name olds later t i) (at_first new news name t i))
    | false ↦ λ f. at_other (new.0, Added new.1) others name f ∙ exact ∙ sym (ap (λ h. change_between (held_under olds name) h) (at_other new news name f))
  ]) refl

module _ (old new : Name × BundleValue) (olds news : Domains) (name : Name) (one_name : old.0 ≡ new.0) where
  both_exact : (others : List (Name × Change)) → InOrder (Some old.0) olds → InOrder (Some new.0) news → held_under others name ≡ change_between (held_under olds name) (held_under news name)
      → held_under (change_of_both old new ++ others) name ≡ change_between (held_under (old ∷ olds) name) (held_under (new ∷ news) name)
  both_exact others later_old later_new exact = (elim (bytes_eq old.0 name) as (λ b. bytes_eq old.0 name ≡ b → held_under (change_of_both old new ++ others) name ≡ change_between (held_under (old ∷ olds) name) (held_under (new ∷ news) name)) [
    | true ↦ λ t.
        let also : bytes_eq new.0 name ≡ true = subst (λ n. bytes_eq n name ≡ true) one_name t in
        let none : held_under others name ≡ None = exact ∙ (λ i. change_between (absent_at old.0 name olds later_old t i) (absent_at new.0 name news later_new also i)) in
        changed_first (bundle_eq old.1 new.1) t none ∙ sym (λ i. change_between (at_first old olds name t i) (at_first new news name also i))
    | false ↦ λ f.
        let also : bytes_eq new.0 name ≡ false = subst (λ n. bytes_eq n name ≡ false) one_name f in
        changed_other (bundle_eq old.1 new.1) f ∙ exact ∙ sym (λ i. change_between (at_other old olds name f i) (at_other new news name also i))
  ]) refl
    where
      changed_first : (b : Bool) → bytes_eq old.0 name ≡ true → held_under others name ≡ None
          → held_under ((if b then [] else (old.0, Changed old.1 new.1) ∷ []) ++ others) name ≡ (if b then None else Some (Changed old.1 new.1))
      changed_first true t none = none
      changed_first false t none = at_first (old.0, Changed old.1 new.1) others name t

      changed_other : (b : Bool) → bytes_eq old.0 name ≡ false
          → held_under ((if b then [] else (old.0, Changed old.1 new.1) ∷ []) ++ others) name ≡ held_under others name
      changed_other true f = refl
      changed_other false f = at_other (old.0, Changed old.1 new.1) others name f

merged_exact : (olds news : Domains) (last : Option Name) → InOrder last olds → InOrder last news → (name : Name) → held_under (merged olds news) name ≡ change_between (held_under olds name) (held_under news name)
unfolding merged held_under
merged_exact [] news last o n name = added_exact news name
merged_exact (old ∷ olds) [] last o n name =
    ap (λ c. held_under c name) (merged_only_old old olds) ∙ removed_exact old olds [] name (merged olds []) tt (merged_exact olds [] (Some old.0) o.1 tt name)
merged_exact (old ∷ olds) (new ∷ news) last o n name =
    ap (λ c. held_under c name) (merged_by_order old new olds news)
    ∙ (elim (name_cmp old.0 new.0) as (λ r. name_cmp old.0 new.0 ≡ r
    → held_under (by_order r old new (merged olds (new ∷ news)) (merged olds news) (merged (old ∷ olds) news)) name ≡ change_between (held_under (old ∷ olds) name) (held_under (new ∷ news) name)) [
      | Less ↦ λ less. removed_exact old olds (new ∷ news) name (merged olds (new ∷ news)) (less, n.1) (merged_exact olds (new ∷ news) (Some old.0) o.1 (less, n.1) name)
      | Equal ↦ λ equal.
          let one_name = equal_name old.0 new.0 equal in
          both_exact old new olds news name one_name (merged olds news) o.1 n.1
          (merged_exact olds news (Some old.0) o.1 (subst (λ d. InOrder (Some d) news) (sym one_name) n.1) name)
      | Greater ↦ λ greater.
          let less = turned old.0 new.0 greater in
          new_exact new (old ∷ olds) news name (merged (old ∷ olds) news) (less, o.1) (merged_exact (old ∷ olds) news (Some new.0) (less, o.1) n.1 name)
    ]) refl

pub found : (old new : Domains) → Ascends None old → Ascends None new → AreChanges old new (merged old new)
found old new o n = record {
  in_order = merged_in_order None old new (in_order None old o) (in_order None new n);
  exact = merged_exact old new None (in_order None old o) (in_order None new n);
}
