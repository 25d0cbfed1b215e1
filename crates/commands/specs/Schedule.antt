-- Schedules of the lists that the command `refresh` reads.
use Rattle.std.specs.Prelude.{◌≡◌, ℕ, List, length, replicate, Option}
use Rattle.wire.specs.declared.error.FrontError.TheVariants.{Memory}
use Rattle.refresh.specs.declared.list.ListError.{ListError}
use Rattle.refresh.specs.declared.list.ListError.TheVariants as listing
use Rattle.refresh.specs.List.{lines_of, AreListed, IsListFault}
use Rattle.refresh.specs.Schedule.{ScheduleValue}
use Rattle.commands.specs.declared.fault.Fault.{Fault}
use Rattle.commands.specs.declared.fault.Fault.TheVariants.{Front, BadLine, Refresh}
use Rattle.commands.specs.declared.fault.RefreshFault.TheVariants.{BadRelationship}
use Rattle.commands.specs.Input.{IsInput, InputFault}
use Rattle.commands.specs.declared.input.Extent.TheVariants.{Limited}

-- the input is a list, and these are its relationships, each due at 0
abbrev pub Schedules : ScheduleValue → Option (List ℕ) → Option (List ℕ) → Type 0
Schedules schedule left_old left_new =
    (list : List ℕ) × IsInput Limited list left_old left_new × AreListed (lines_of list) schedule.relationships
    × (schedule.due_times ≡ replicate (length schedule.relationships) 0)

-- the fault of a list that is refused
abbrev pub list_fault : ListError → Fault
list_fault (listing.BadLine line) = BadLine line
list_fault (listing.BadRelationship why line) = Refresh (BadRelationship why line)
list_fault listing.Memory = Front Memory

-- why there is no schedule: the input is a list that is refused; or it is not read, or memory ran out
abbrev pub NoSchedule : Fault → Option (List ℕ) → Option (List ℕ) → Type 0
NoSchedule (BadLine line) left_old left_new = (list : List ℕ) × IsInput Limited list left_old left_new × IsListFault (listing.BadLine line) list
NoSchedule (Refresh (BadRelationship why line)) left_old left_new =
    (list : List ℕ) × IsInput Limited list left_old left_new × IsListFault (listing.BadRelationship why line) list
NoSchedule fault left_old left_new = InputFault Limited fault left_old left_new
