-- What stands under a name in a list, and lists that are in order of their names.
use Rattle.std.proofs.Common.{◌≡◌, ◌<◌, ◌≤◌, ◌+◌, ℕ, List, [], ◌∷◌, length, get_or, drop, true, false, cond, Option, Some, None, refl, sym, ap, ◌∙◌}
use Rattle.std.specs.Prelude.{bytes_eq}
use Rattle.std.specs.Cmp.Lexicographic.{bytes_decides, nat_list_cmp_total, texts_ties}
use Rattle.std.specs.Ordering.{ordering_reverse, is_eq}
use Rattle.std.specs.declared.cmp.Ordering.TheVariants.{Less, Equal, Greater}
use Rattle.std.proofs.lemmas.List.{drop_more, drop_all}
use Rattle.map_core.specs.Name.{Name, name_cmp}
use Rattle.map_core.specs.Laws.{IsAfter}
use Rattle.dump_views.specs.Changes.{held_under, InOrder}

-- ---- names
pub same_name : (a b : Name) → bytes_eq a b ≡ true → a ≡ b
same_name a b = (bytes_decides a b).0

pub own_name : (a : Name) → bytes_eq a a ≡ true
own_name a = (bytes_decides a a).1 refl

pub equal_name : (a b : Name) → name_cmp a b ≡ Equal → a ≡ b
equal_name a b tied = same_name a b (texts_ties a b ∙ ap is_eq tied)

pub less_name : (a b : Name) → name_cmp a b ≡ Less → bytes_eq b a ≡ false
less_name a b less = texts_ties b a ∙ ap is_eq (nat_list_cmp_total.antisymm b a) ∙ ap (λ o. is_eq (ordering_reverse o)) less

pub turned : (a b : Name) → name_cmp a b ≡ Greater → name_cmp b a ≡ Less
turned a b greater = nat_list_cmp_total.antisymm b a ∙ ap ordering_reverse greater

-- ---- lists in order
module _ {A : Type 0} where
  -- without the first
  pub skipped : (name : Name) (pair : Name × A) (pairs : List (Name × A)) → InOrder (Some name) (pair ∷ pairs) → InOrder (Some name) pairs
  skipped name pair [] order = tt
  skipped name pair (next ∷ pairs) order = (nat_list_cmp_total.trans name pair.0 next.0 order.0 order.1.0, order.1.1)

  -- after an earlier name
  pub after_earlier : (last : Option Name) (name : Name) (pairs : List (Name × A)) → IsAfter last name → InOrder (Some name) pairs → InOrder last pairs
  after_earlier None name [] after order = tt
  after_earlier None name (pair ∷ pairs) after order = (tt, order.1)
  after_earlier (Some last) name [] after order = tt
  after_earlier (Some last) name (pair ∷ pairs) after order = (nat_list_cmp_total.trans last name pair.0 after order.0, order.1)

  -- nothing stands under a name before the first
  pub absent : (name : Name) (pairs : List (Name × A)) → InOrder (Some name) pairs → held_under pairs name ≡ None
  unfolding held_under
  absent name [] order = refl
  absent name (pair ∷ pairs) order =
      ap (λ b. cond b (Some pair.1) (held_under pairs name)) (less_name name pair.0 order.0) ∙ absent name pairs (skipped name pair pairs order)

  -- what stands beside the first name, and beside another
  pub at_first : (pair : Name × A) (pairs : List (Name × A)) (name : Name) → bytes_eq pair.0 name ≡ true → held_under (pair ∷ pairs) name ≡ Some pair.1
  unfolding held_under
  at_first pair pairs name same = ap (λ b. cond b (Some pair.1) (held_under pairs name)) same

  pub at_other : (pair : Name × A) (pairs : List (Name × A)) (name : Name) → bytes_eq pair.0 name ≡ false → held_under (pair ∷ pairs) name ≡ held_under pairs name
  unfolding held_under
  at_other pair pairs name other = ap (λ b. cond b (Some pair.1) (held_under pairs name)) other

  -- under the first name, and under all later ones, nothing stands among what comes after it
  pub absent_at : (first name : Name) (pairs : List (Name × A)) → InOrder (Some first) pairs → bytes_eq first name ≡ true → held_under pairs name ≡ None
  absent_at first name pairs order same = ap (held_under pairs) (sym (same_name first name same)) ∙ absent first pairs order

  -- ---- from a place on
  pub held_here : (pairs : List (Name × A)) (place : ℕ) (pair : Name × A) (name : Name) → place < length pairs → pair ≡ get_or pairs place pair
      → bytes_eq pair.0 name ≡ true → held_under (drop place pairs) name ≡ Some pair.1
  held_here pairs place pair name within is same =
      ap (λ ps. held_under ps name) (drop_more pairs place pair within)
      ∙ ap (λ p. held_under (p ∷ drop (place + 1) pairs) name) (sym is)
      ∙ at_first pair (drop (place + 1) pairs) name same

  pub held_later : (pairs : List (Name × A)) (place : ℕ) (pair : Name × A) (name : Name) → place < length pairs → pair ≡ get_or pairs place pair
      → bytes_eq pair.0 name ≡ false → held_under (drop place pairs) name ≡ held_under (drop (place + 1) pairs) name
  held_later pairs place pair name within is other =
      ap (λ ps. held_under ps name) (drop_more pairs place pair within)
      ∙ ap (λ p. held_under (p ∷ drop (place + 1) pairs) name) (sym is)
      ∙ at_other pair (drop (place + 1) pairs) name other

  pub held_nowhere : (pairs : List (Name × A)) (place : ℕ) (name : Name) → length pairs ≤ place → held_under (drop place pairs) name ≡ None
  unfolding held_under
  held_nowhere pairs place name past = ap (λ ps. held_under ps name) (drop_all place pairs past)
