-- What it tells that a reading gave something.
use Rattle.std.proofs.Common.{◌≡◌, ◌⊎◌, inl, inr, ℕ, Bool, true, false, List, Option, Some, None, refl, eqb-true}
use Rattle.std.specs.Prelude.{bytes_eq, if◌then◌else◌, ◌==◌, option_map}
use Rattle.std.proofs.lemmas.Option.{same_Some, none-some}
use Rattle.std.proofs.lemmas.Slice.Eq.{bytes_eq-Decides}
use Rattle.wire.specs.PayloadReading.{◌>>=◌}

pub bind_some : {A B : Type 0} (o : Option A) (f : A → Option B) (y : B) → (o >>= f) ≡ Some y → (x : A) × (o ≡ Some x) × (f x ≡ Some y)
bind_some None f y is = absurd (none-some y is)
bind_some (Some x) f y is = (x, refl, is)

-- the same, with the rest of a proof
pub bind_cases : {A B P : Type 0} (o : Option A) (f : A → Option B) (y : B) → (o >>= f) ≡ Some y → ((x : A) → o ≡ Some x → f x ≡ Some y → P) → P
bind_cases o f y is rest = let b = bind_some o f y is in rest b.0 b.1 b.2

pub if_some : {A : Type 0} (b : Bool) (x y : Option A) (z : A) → (if b then x else y) ≡ Some z → ((b ≡ true) × (x ≡ Some z)) ⊎ ((b ≡ false) × (y ≡ Some z))
if_some true x y z is = inl (refl, is)
if_some false x y z is = inr (refl, is)

pub same_bytes : (xs ys : List ℕ) → bytes_eq xs ys ≡ true → xs ≡ ys
same_bytes xs ys = (bytes_eq-Decides xs ys).0

pub map_some : {A B : Type 0} (f : A → B) (o : Option A) (y : B) → option_map f o ≡ Some y → (x : A) × (o ≡ Some x) × (f x ≡ y)
map_some f None y is = absurd (none-some y is)
map_some f (Some x) y is = (x, refl, same_Some (f x) y is)

-- the same of a choice by a number
pub number_cases : {A P : Type 0} (number known : ℕ) (x y : Option A) (z : A) → (if number == known then x else y) ≡ Some z → (number ≡ known → x ≡ Some z → P) → (y ≡ Some z → P) → P
number_cases number known x y z is one other = elim (if_some (number == known) x y z is) [
  | inl h ↦ one (eqb-true number known h.0) h.1
  | inr h ↦ other h.1
]

-- and of one by a word
pub word_cases : {A P : Type 0} (word known : List ℕ) (x y : Option A) (z : A) → (if bytes_eq word known then x else y) ≡ Some z → (word ≡ known → x ≡ Some z → P) → (y ≡ Some z → P) → P
word_cases word known x y z is one other = elim (if_some (bytes_eq word known) x y z is) [
  | inl h ↦ one (same_bytes word known h.0) h.1
  | inr h ↦ other h.1
]
