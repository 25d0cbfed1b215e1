-- What a log is told of the changes that a worker makes.
use Rattle.std.specs.Prelude.{◌≡◌, ℕ, Bool, true, Option, Some, None, Result, Ok, Err, IfSome, alloc_error}
use Rattle.std.specs.declared.alloc.AllocError.{AllocError}
use Rattle.map_core.specs.declared.op.Op.{Op}
use Rattle.map_core.specs.declared.op.Op.TheVariants.{Set, SetIf, Append, Remove, Get}
use Rattle.map_core.specs.declared.op.Expect.{Expect}
use Rattle.map_core.specs.declared.op.Expect.TheVariants.{Absent}
use Rattle.map_core.specs.declared.reply.Reply.{Reply}
use Rattle.map_core.specs.declared.reply.Reply.TheVariants.{Stored, Appended, Removed, Found, Refused}
use Rattle.map_core.specs.declared.reply.AskError.{AskError}
use Rattle.map_core.specs.declared.reply.AskError.TheVariants.{Memory}
use Rattle.map_core.specs.Name.{Name}
use Rattle.map_core.specs.Table.{expect_sequence}
use Rattle.shard_store.specs.Pass.{SeatedView}
use Rattle.shard_store.specs.Seated.{SeatedAnswer}
use Rattle.workers.specs.declared.log.How.{How}
use Rattle.workers.specs.declared.log.How.TheVariants as how
use Rattle.workers.specs.declared.log.Changed.{Changed}

-- how a bundle was changed, and of which name; what stood there before, if that is known, and what stands there now
pub record ChangeView : Type 0 where
  pub how : How
  pub domain : Name
  pub before : Option Expect
  pub after : Expect

-- the same change, wherever its name lies
abbrev pub change_view : Changed → ChangeView
change_view change = record { how = change.how; domain = change.domain.now; before = change.before; after = change.after }

-- the change that the answer to an operation tells of; none if it tells of none
abbrev pub change_told : Option Expect → Op → Result Reply AskError → Option ChangeView
change_told before (Set d b) (Ok Stored) = Some (record { how = how.Set; domain = d; before = before; after = expect_sequence b.sequence })
change_told before (SetIf d expect b) (Ok Stored) = Some (record { how = how.Set; domain = d; before = before; after = expect_sequence b.sequence })
change_told before (Append d a) (Ok (Appended sequence)) = Some (record { how = how.Appended; domain = d; before = before; after = expect_sequence sequence })
change_told before (Remove d) (Ok Removed) = Some (record { how = how.Removed; domain = d; before = before; after = Absent })
change_told before op answer = None

-- what stands under a name by the answer to a get of it: unknown if the store does not say; and no answer at all if memory ran out
abbrev pub found_in : Result Reply AskError → Result (Option Expect) AllocError
found_in (Ok (Found b)) = Ok (Some (expect_sequence b.sequence))
found_in (Ok (Refused why)) = Ok (Some Absent)
found_in (Err Memory) = Err alloc_error
found_in answer = Ok None

-- The store answered a get of the name, and memory did not run out. By that answer this stood there.
pub record HasLooked (domain : Name) (old new : SeatedView) (before : Option Expect) : Type 0 where
  pub answer : Result Reply AskError
  pub asked : SeatedAnswer old (Get domain) answer new
  pub found : found_in answer ≡ Ok before

-- It was looked at just before the operation was asked, and by the look this stood there before the change.
abbrev pub StoodBefore : Op → Result Reply AskError → SeatedView → SeatedView → ChangeView → Type 0
StoodBefore op answer old new change = (mid : SeatedView) × HasLooked change.domain old mid change.before × SeatedAnswer mid op answer new

module _ {L : Type 0} (tells : L → ℕ → ChangeView → L → Type 0) where
  -- If there is a change and it is wanted, the log is told of it, once; else it is told of nothing.
  abbrev pub IsTold : Bool → ℕ → Option ChangeView → L → L → Type 0
  IsTold true worker (Some change) old new = tells old worker change new
  IsTold wanted worker change old new = new ≡ old

  -- The store answers, and the log is told of the change that the answer tells of. What stood there before is what a look found.
  pub record LoggedAnswer (wants : L → Bool) (worker : ℕ) (old : SeatedView × L) (op : Op) (answer : Result Reply AskError) (new : SeatedView × L) : Type 0 where
    pub answered : SeatedAnswer old.0 op answer new.0
    pub before : Option Expect
    pub stood : wants old.1 ≡ true → IfSome (change_told before op answer) (StoodBefore op answer old.0 new.0)
    pub told : IsTold (wants old.1) worker (change_told before op answer) old.1 new.1
