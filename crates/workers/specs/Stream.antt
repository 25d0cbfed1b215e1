-- What the calls of a stream may come to.
use Rattle.std.specs.Prelude.{◌≡◌, ◌≢◌, ℕ, ◌<◌, Bool, true, Result, Ok, Err}
use Rattle.std.specs.IoError.{error_kind}
use Rattle.std.specs.declared.io.Error.{Error}
use Rattle.std.specs.declared.io.ErrorKind.TheVariants.{WouldBlock}

-- whether a read may have to wait, may leave some of its room, or may fail, and whether a write may have to wait, or may fail
pub record StreamLimits : Type 0 where
  pub read_waits : Bool
  pub leaves_room : Bool
  pub read_fails : Bool
  pub write_waits : Bool
  pub write_fails : Bool

-- a call that would have to wait says so, and any other error is a failure
abbrev pub ErrsAs : (waits fails : Bool) → Error → Type 0
ErrsAs waits fails error = (error_kind error ≡ WouldBlock → waits ≡ true) × (error_kind error ≢ WouldBlock → fails ≡ true)

-- a read with so much room
abbrev pub ReadsAs : StreamLimits → ℕ → Result ℕ Error → Type 0
ReadsAs may room (Ok count) = 0 < count → count < room → may.leaves_room ≡ true
ReadsAs may room (Err error) = ErrsAs may.read_waits may.read_fails error

-- a write of some bytes: it is a failure if none is taken
abbrev pub WritesAs : StreamLimits → Result ℕ Error → Type 0
WritesAs may (Ok count) = count ≡ 0 → may.write_fails ≡ true
WritesAs may (Err error) = ErrsAs may.write_waits may.write_fails error
