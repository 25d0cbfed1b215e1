-- The rule when a store begins, and what it says at the end.
use Rattle.std.proofs.Common.{◌≡◌, ℕ, zero, suc, ◌+◌, ◌/◌, ◌%◌, ◌^◌, ◌<◌, ◌≤◌, List, [], ◌∷◌, map, replicate, length, get_or, Some, None, sym, refl, ap, ◌∙◌, subst, ⊎_elim, arith}
use mathlib.Core.Option.{some, some-injective, some-ne-none}
use lib.ListN.{get_elem?, length-map, length-replicate}
use Rattle.std.specs.List.{All}
use Rattle.std.specs.Arc.{arc_value}
use Rattle.std.specs.declared.sync.Arc.{Arc}
use Rattle.atomic_table.specs.Table.{State, Me, step, Act, keeps, takes, gives, stepped, rest, put_back, Allows, Splits, Joins, opening, Final}
use Rattle.atomic_table.specs.Table as Holds
use Rattle.std.specs.FinMap as finite
use Rattle.map_core.specs.PlainMap.{PlainMap}
use Rattle.map_core.proofs.Maps.{part-empty}
use Rattle.shard_store.specs.declared.change.Change.{Change}
use Rattle.shard_store.specs.declared.change.View.{View}
use Rattle.shard_store.specs.Numbers.{IsPart}
use Rattle.shard_store.specs.Rule.{first_view, SlotValue, IsView, MeetsRule}
use Rattle.shard_store.specs.Private.Fresh.{IsEmptyVersion}
use Rattle.shard_store.specs.Steps.{Sees, HasAllNumbers}
use Rattle.shard_store.proofs.Changes.{not_some}
use Rattle.shard_store.proofs.Kept.{alone_holds, sees_list}

module _ (Z : Type 0) where
  slot_there : (xs : List (SlotValue Z)) (i : ℕ) (d : SlotValue Z) → i < length xs → get_elem? (map some xs) i ≡ some (some (get_or xs i d))
  slot_there [] i d h = absurd (omega arith)
  slot_there (x ∷ xs) zero d h = refl
  slot_there (x ∷ xs) (suc i) d h = slot_there xs i d (omega arith)

  shows_nothing : (n i : ℕ) → IsPart n i [] finite.empty
  shows_nothing n i = sym (part-empty n i)

  first_seat : (j : ℕ) (v : View) → get_elem? (first_view ∷ []) j ≡ some v → (j ≡ 0) × (first_view ≡ v)
  first_seat zero v e = (refl, some-injective first_view v e)
  first_seat (suc j) v e = absurd (some-ne-none v (sym e))

  pub opens : (ws : List ℕ) (xs : List (SlotValue Z)) → ws ≡ replicate (length xs) 0 → All IsEmptyVersion xs → MeetsRule (opening ws xs first_view)
  opens ws xs zeros empty = record {
    list = [];
    holder = λ i. 0;
    paired = ap length zeros ∙ (length-replicate (length xs) 0 ∙ sym (length-map xs some));
    numbered = tt;
    each_shard = λ i l. let inside : i < length xs = subst (λ (n : ℕ). i < n) (length-map xs some) l in let none : get_or ws i 0 ≡ 0 = ap (λ (l : List ℕ). get_or l i 0) zeros ∙ zero_at (length xs) i in
        let e = empty i None inside in record {
          counted = ap (λ (n : ℕ). n / 2) none;
          limited = subst (λ (n : ℕ). n / 2 ≤ 2 ^ 62) (sym none) (omega arith);
          free = λ _. (e.0, slot_there xs i None inside ∙ ap (λ (x : SlotValue Z). some (some x)) e.1, subst (IsPart (length (map some xs)) i []) (sym e.2) (shows_nothing (length (map some xs)) i));
          busy = λ odd. absurd (omega (arith, none));
        };
    each_view = λ j v e. let t = first_seat j v e in subst (IsView (length (map some xs)) ws [] (λ i. 0) j) t.1
        record {
          sees = ([], refl, tt);
          joined = tt;
          limited = λ k b. ⊎_elim (λ (h : (0 ≤ k) × (k < 0 + 4294967296)). omega arith) (λ h. absurd h) b;
          parted = ((λ k a b h. h), tt);
          holds = λ i e. absurd (not_some i e);
        };
    apart = λ j k v w e f x p q. (first_seat j v e).0 ∙ sym (first_seat k w f).0;
  }
    where
      zero_at : (n i : ℕ) → get_or {A = ℕ} (replicate n 0) i 0 ≡ 0
      zero_at zero i = refl
      zero_at (suc n) zero = refl
      zero_at (suc n) (suc i) = zero_at n i

  found_at : {A : Type 0} (l : List A) (i : ℕ) (d : A) → i < length l → get_elem? l i ≡ some (get_or l i d)
  found_at [] i d h = absurd (omega arith)
  found_at (x ∷ xs) zero d h = refl
  found_at (x ∷ xs) (suc i) d h = found_at xs i d (omega arith)

  -- what a table that is closed shows: one list that the pass's log begins, and each free shard's part after it
  pub closes : (id : ℕ) (v : View) (ws : List ℕ) (xs : List (SlotValue Z)) → v.held ≡ None → Final (Holds.Seen MeetsRule id v) ws xs
      → (list : List Change) × Sees v list × ((i : ℕ) (d : SlotValue Z) → i < length xs → get_or ws i 0 % 2 ≡ 0 → (version : Arc PlainMap Z) × (get_or xs i d ≡ Some version) × IsPart (length xs) i list (arc_value version))
      × (HasAllNumbers v → (i : ℕ) → i < length xs → get_or ws i 0 % 2 ≡ 1 → ⊥)
  closes id v ws xs free f = let s = f.0 in let r = f.1.0 in let at = f.1.1 in let words : s.words ≡ ws = f.2 in let deep : length s.homes ≡ length xs = f.3 in (
    r.list,
    sees_list Z s r id v at,
    (λ i d inside even. let here : i < length s.homes = omega arith in let e = (r.each_shard i here).free (ap (λ (l : List ℕ). get_or l i 0 % 2) words ∙ even) in
        (e.0, some-injective (get_or xs i d) (Some e.0) (sym (found_at xs i d inside) ∙ f.4 i (Some e.0) e.1), subst (λ (n : ℕ). IsPart n i r.list (arc_value e.0)) deep e.2)),
    λ alone i inside odd. let here : i < length s.homes = omega arith in not_some i (sym free ∙ alone_holds Z s r id i v at here alone (ap (λ (l : List ℕ). get_or l i 0 % 2) words ∙ odd)),
  )
