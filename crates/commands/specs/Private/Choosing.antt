-- Why there are not the domains that are wanted.
use Rattle.std.specs.Prelude.{◌≡◌, ℕ, List}
use Rattle.wire.specs.Counted.{next_count}
use Rattle.frame_front.specs.Dump.{Domains}
use Rattle.wire.specs.declared.error.FrontError.TheVariants.{Memory}
use Rattle.commands.specs.declared.fault.Fault.{Fault}
use Rattle.commands.specs.declared.fault.Fault.TheVariants.{Front, NotInDump}
use Rattle.dump_views.specs.Choice.{IsFirstMissing}

abbrev pub NotWanted : Fault → List (List ℕ) → Domains → Type 0
NotWanted (NotInDump number) names items = (place : ℕ) × IsFirstMissing names items place × (number ≡ next_count place)
NotWanted (Front Memory) names items = Unit {0}
NotWanted fault names items = ⊥
