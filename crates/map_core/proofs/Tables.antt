-- What a name holds after a row of the table, by whether the reply tells of a change.
use Rattle.std.proofs.Common.{◌≡◌, ◌≢◌, true, false, List, [], ◌∷◌, ◌++◌, length, length-append, Option, Some, None, Result, Ok, arith, ap}
use Rattle.spiffe_doc.specs.declared.authority.Authority.{Authority}
use Rattle.spiffe_doc.specs.declared.error.AppendError.{AppendError}
use Rattle.spiffe_doc.specs.Authority.{BundleValue}
use Rattle.spiffe_doc.specs.Equal.{bundle_eq}
use Rattle.spiffe_doc.specs.Private.Equality.{bundle_decides}
use Rattle.spiffe_doc.specs.Append.{appended}
use Rattle.map_core.specs.declared.op.Expect.{Expect}
use Rattle.map_core.specs.declared.held.Holding.{Holding}
use Rattle.map_core.specs.declared.held.Holding.TheVariants.{Published, Mark}
use Rattle.map_core.specs.Reply.{is_change}
use Rattle.map_core.specs.Table.{Effect, append_to, set, set_if, append, remove, get}

-- ---- a reply that tells of no change leaves what the name held
abbrev pub Keeps : (Option Holding → Effect) → Type 0
Keeps table = (held : Option Holding) → is_change (table held).reply ≡ false → (table held).held ≡ held

pub set_keeps : (b : BundleValue) (held : Option Holding) → is_change (set b held).reply ≡ false → (set b held).held ≡ held
set_keeps b held h = grind arith

pub set_if_keeps : (expect : Expect) (b : BundleValue) (held : Option Holding) → is_change (set_if expect b held).reply ≡ false → (set_if expect b held).held ≡ held
set_if_keeps expect b held h = grind arith

pub append_keeps : (a : Authority) (held : Option Holding) → is_change (append a held).reply ≡ false → (append a held).held ≡ held
append_keeps a held h = grind arith

pub remove_keeps : (held : Option Holding) → is_change (remove held).reply ≡ false → (remove held).held ≡ held
remove_keeps held h = grind arith

pub get_keeps : (held : Option Holding) → is_change (get held).reply ≡ false → (get held).held ≡ held
get_keeps held h = grind arith

-- ---- a reply that tells of a change comes of a change
abbrev pub Changes : (Option Holding → Effect) → Type 0
Changes table = (held : Option Holding) → is_change (table held).reply ≡ true → (table held).held ≢ held

equal_bundle : (b c : BundleValue) → b ≡ c → bundle_eq b c ≡ true
equal_bundle b c is = (bundle_decides b c).1 is

pub set_changes : (b : BundleValue) (held : Option Holding) → is_change (set b held).reply ≡ true → (set b held).held ≢ held
set_changes b held h = grind (arith, equal_bundle)

pub set_if_changes : (expect : Expect) (b : BundleValue) (held : Option Holding) → is_change (set_if expect b held).reply ≡ true → (set_if expect b held).held ≢ held
set_if_changes expect b held h = grind (arith, equal_bundle)

-- an appended authority makes the list longer
longer_apart : (all : List Authority) (a : Authority) → all ++ a ∷ [] ≢ all
longer_apart all a is = omega (arith, length-append {A = Authority}, ap (length {A = Authority}) is)

-- an appended authority stands last
pub appended-ok : (b longer : BundleValue) (a : Authority) → appended b a ≡ Ok longer → longer.authorities ≡ b.authorities ++ a ∷ []
unfolding appended
appended-ok b longer a e = grind arith

append_to_changes : (b : BundleValue) (a : Authority) (r : Result BundleValue AppendError) → ((longer : BundleValue) → r ≡ Ok longer → longer.authorities ≡ b.authorities ++ a ∷ []) → is_change (append_to b r).reply ≡ true → (append_to b r).held ≢ Some (Published b)
append_to_changes b a r list h = grind (arith, longer_apart)

pub append_changes : (a : Authority) (held : Option Holding) → is_change (append a held).reply ≡ true → (append a held).held ≢ held
append_changes a None h = cc
append_changes a (Some (Mark s)) h = cc
append_changes a (Some (Published b)) h = append_to_changes b a (appended b a) (λ longer e. appended-ok b longer a e) h

pub remove_changes : (held : Option Holding) → is_change (remove held).reply ≡ true → (remove held).held ≢ held
remove_changes held h = grind arith

pub get_changes : (held : Option Holding) → is_change (get held).reply ≡ true → (get held).held ≢ held
get_changes held h = grind arith
