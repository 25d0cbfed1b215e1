-- Reads, and the count of them.
use Rattle.std.proofs.Common.{◌≡◌, ℕ, ◌+◌, ◌^◌, ◌<◌, ◌≤◌, subst, sym, arith}
use Rattle.wire.specs.Counted.{next_read, reads_since, MakesReads}

-- so many reads led from one count to the other
pub record HasRead (old now n : ℕ) : Type 0 where
  pub old_fits : old < 2 ^ 64
  pub fits : now < 2 ^ 64
  pub since : reads_since old now ≡ n

none_since : (a : ℕ) → reads_since a a ≡ 0
none_since a = omega arith

more_since : (a b n : ℕ) → a < 2 ^ 64 → b < 2 ^ 64 → n + 1 < 2 ^ 64 → reads_since a b ≡ n → reads_since a (next_read b) ≡ n + 1
more_since a b n a_fits b_fits few is = omega arith

next_fits : (b : ℕ) → next_read b < 2 ^ 64
next_fits b = omega arith

pub HasRead-none : (a : ℕ) → a < 2 ^ 64 → HasRead a a 0
HasRead-none a fits = record { old_fits = fits; fits = fits; since = none_since a }

pub HasRead-more : (a b next n : ℕ) → HasRead a b n → next ≡ next_read b → n + 1 < 2 ^ 64 → HasRead a next (n + 1)
HasRead-more a b next n so is few =
    subst (λ (m : ℕ). HasRead a m (n + 1)) (sym is)
    (record { old_fits = so.old_fits; fits = next_fits b; since = more_since a b n so.old_fits so.fits few so.since })

-- nothing was read
pub reads_none : (turns a : ℕ) (UsedUp : Type 0) → (UsedUp → ⊥) → MakesReads turns UsedUp a a
reads_none turns a UsedUp never = (omega (arith, none_since a), λ used. absurd (never used))

-- after some reads one more, which ends it
pub reads_last : (turns a b next n : ℕ) (UsedUp : Type 0) → HasRead a b n → next ≡ next_read b → n < turns → turns ≤ 1000000000
    → (UsedUp → ⊥) → MakesReads turns UsedUp a next
reads_last turns a b next n UsedUp so is some few never =
    let more = HasRead-more a b next n so is (omega arith) in
    (omega (arith, more.since), λ used. absurd (never used))

-- all reads were made
pub reads_all : (turns a b n : ℕ) (UsedUp : Type 0) → HasRead a b n → n ≡ turns → MakesReads turns UsedUp a b
reads_all turns a b n UsedUp so all = (omega (arith, so.since), λ used. omega (arith, so.since))
