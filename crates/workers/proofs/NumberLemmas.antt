-- The passes of all workers have all numbers together.
use Rattle.std.proofs.Common.{◌≡◌, ℕ, ◌+◌, ◌<◌, ◌≤◌, List, [], ◌∷◌, ◌++◌, sym, ap, subst, ◌∙◌, inl, inr, arith, append-nil}
use Rattle.std.proofs.lemmas.Bool.{cases_Bool}
use Rattle.std.proofs.lemmas.Bool.Decides.{nat_tests}
use Rattle.std.specs.Prelude.{nat_le}
use Rattle.std.proofs.lemmas.Grind.{flat_map-append}
use Rattle.shard_store.specs.Changes.{HasNumber}
use Rattle.shard_store.specs.Pass.{PassView}
use Rattle.workers.specs.Closing.{AreAll, ranges_of}

pub has_left : (rs ss : List (ℕ × ℕ)) (k : ℕ) → HasNumber rs k → HasNumber (rs ++ ss) k
has_left [] ss k h = absurd h
has_left (r ∷ rs) ss k (inl h) = inl h
has_left (r ∷ rs) ss k (inr h) = inr (has_left rs ss k h)

pub has_right : (rs ss : List (ℕ × ℕ)) (k : ℕ) → HasNumber ss k → HasNumber (rs ++ ss) k
has_right [] ss k h = h
has_right (r ∷ rs) ss k h = inr (has_right rs ss k h)

ranges_push : (passes : List PassView) (p : PassView) → ranges_of (passes ++ p ∷ []) ≡ ranges_of passes ++ p.seen.ranges
ranges_push passes p =
    flat_map-append (λ (q : PassView). q.seen.ranges) passes (p ∷ []) ∙ ap (λ (r : List (ℕ × ℕ)). ranges_of passes ++ r) (append-nil p.seen.ranges)

-- the passes have the numbers from this one on
abbrev pub HaveFrom : ℕ → List PassView → Type 0
HaveFrom n passes = (k : ℕ) → n ≤ k → k < 4294967296 → HasNumber (ranges_of passes) k

-- one more pass, with a range before them
pub have_before : (passes : List PassView) (p : PassView) (n m size : ℕ) → p.seen.ranges ≡ (m, size) ∷ [] → m + size ≡ n → HaveFrom n passes → HaveFrom m (passes ++ p ∷ [])
have_before passes p n m size ranges next h k from below =
    subst (λ (r : List (ℕ × ℕ)). HasNumber r k) (sym (ranges_push passes p)) (elim (cases_Bool (nat_le n k)) [
      | inl high ↦ has_left (ranges_of passes) p.seen.ranges k (h k (grind (arith, nat_tests, high)) below)
      | inr low ↦ has_right (ranges_of passes) p.seen.ranges k
          (subst (λ (r : List (ℕ × ℕ)). HasNumber r k) (sym ranges) (inl (from, grind (arith, nat_tests, low, next))))
    ])

pub have_all : (passes : List PassView) → HaveFrom 0 passes → AreAll (ranges_of passes)
have_all passes h k below = h k (omega arith) below
