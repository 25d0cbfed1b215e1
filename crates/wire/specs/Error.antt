-- The numbers of the errors that end a session.
use Rattle.std.specs.Prelude.{ℕ}
use Rattle.wire.specs.declared.error.FrontError.{FrontError}
use Rattle.wire.specs.declared.error.FrontError.TheVariants.{BadLength, Truncated, ReadFault, WriteFault, TurnsUsed, Memory}

abbrev pub front_number : FrontError → ℕ
front_number Memory = 22
front_number BadLength = 50
front_number Truncated = 52
front_number ReadFault = 53
front_number WriteFault = 54
front_number TurnsUsed = 55
