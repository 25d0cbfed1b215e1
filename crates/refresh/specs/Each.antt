-- What a refresh of each relationship of a schedule does.
use Rattle.std.specs.Prelude.{◌≡◌, ◌≢◌, ◌⊎◌, ℕ, ◌+◌, List, [], ◌∷◌, length, slice_get, slice_set, Bool, true, false, Option, Some, None, Result, Ok, Err, MatchResult, alloc_error}
use Rattle.std.specs.List.{list_all}
use Rattle.std.specs.declared.alloc.AllocError.{AllocError}
use Rattle.map_core.specs.declared.op.Op.{Op}
use Rattle.map_core.specs.declared.reply.Reply.{Reply}
use Rattle.map_core.specs.declared.reply.Reply.TheVariants.{Stored, Unchanged}
use Rattle.map_core.specs.declared.reply.AskError.{AskError}
use Rattle.wire.specs.declared.error.FrontError.TheVariants.{Memory, WriteFault}
use Rattle.wire.specs.Output.{End, TellsUnlessFailed}
use Rattle.refresh.specs.declared.error.RefreshError.{RefreshError}
use Rattle.refresh.specs.declared.error.RefreshError.TheVariants.{Front}
use Rattle.refresh.specs.declared.outcome.Outcome.{Outcome}
use Rattle.refresh.specs.declared.outcome.What.{What}
use Rattle.refresh.specs.declared.outcome.What.TheVariants.{Taken}
use Rattle.refresh.specs.Relationship.{RelationshipValue}
use Rattle.refresh.specs.Refresh.{Refreshes}
use Rattle.refresh.specs.Schedule.{ScheduleValue}
use Rattle.refresh.specs.declared.each.Times.{Times}
use Rattle.refresh.specs.declared.outcome_lines.Remark.{Remark}
use Rattle.refresh.specs.Due.{due_not_before}
use Rattle.refresh.specs.OutcomeLine.{Details, outcome_line}

-- where documents come from, who is asked, when what is due, and where lines go
pub record Scene (S T : Type 0) : Type 0 where
  pub source : S
  pub target : T
  pub schedule : ScheduleValue
  pub lines : End

-- the bundle was set, or an equal one stood there
abbrev pub is_good : What → Bool
is_good (Taken Stored) = true
is_good (Taken Unchanged) = true
is_good what = false

-- so were all
abbrev pub all_are_good : List Outcome → Bool
all_are_good outcomes = list_all (λ outcome. is_good outcome.what) outcomes

-- what a source fetches and may remark; what a target answers, why it can be asked no more, whether its last Set took all
-- authorities from a domain, and whether it only sends; when it is; and how often the writer of the lines had failed before
module _ {S T : Type 0} (fetches : S → RelationshipValue → Option (List ℕ) → S → Type 0) (remark_in : S → Option Remark)
    (answers : T → Op → Result Reply AskError → T → Type 0) (fault_in : T → Option RefreshError) (empties_in : T → Bool) (only_sends : Bool)
    (times : Times) (before : ℕ) where
  -- The relationship at this place is refreshed, and is due then as that came to.
  pub record RefreshesPlace (place : ℕ) (r : RelationshipValue) (result : Result Outcome AllocError) (old new : Scene S T) : Type 0 where
    pub at_place : slice_get old.schedule.relationships place ≡ Some r
    pub refreshes : Refreshes fetches answers r times.time (old.source, old.target) result (new.source, new.target)
    pub due : MatchResult result
        (λ outcome. new.schedule ≡ record { relationships = old.schedule.relationships; due_times = slice_set old.schedule.due_times place outcome.due })
        (λ error. new.schedule ≡ old.schedule)

  -- what the line of an outcome tells, if this is left after it
  abbrev pub details_of : RelationshipValue → Outcome → Scene S T → Details
  details_of r outcome left = record {
    time = times.time;
    due = due_not_before times.time times.at_least outcome.due;
    domain = r.domain;
    is_sent = only_sends;
    has_emptied = empties_in left.target;
    remark = remark_in left.source;
  }

  -- It is refreshed, the target can be asked more, and the line of the outcome follows, unless the writer has failed.
  pub record TellsPlace (place : ℕ) (outcome : Outcome) (old new : Scene S T) : Type 0 where
    pub relationship : RelationshipValue
    pub refreshed : RefreshesPlace place relationship (Ok outcome) old new
    pub goes_on : fault_in new.target ≡ None
    pub told : TellsUnlessFailed before old.lines new.lines (outcome_line (details_of relationship outcome new) outcome.what)

  -- The relationships from this place on are refreshed so, one after the other, with these outcomes.
  abbrev pub TellsFrom : ℕ → List Outcome → Scene S T → Scene S T → Type 0
  TellsFrom place [] old new = new ≡ old
  TellsFrom place (outcome ∷ outcomes) old new =
      (mid : Scene S T) × TellsPlace place outcome old mid × TellsFrom (place + 1) outcomes mid new

  -- Why it ends at this place: there is no memory for its refresh; the target can be asked no more; or its line belongs to the
  -- output, and is not taken.
  abbrev pub EndsAt : Bool → ℕ → RefreshError → Scene S T → Scene S T → Type 0
  EndsAt is_output place fault old new =
      ((r : RelationshipValue) × RefreshesPlace place r (Err alloc_error) old new × (new.lines ≡ old.lines) × (fault ≡ Front Memory))
      ⊎ ((r : RelationshipValue) × (outcome : Outcome) × RefreshesPlace place r (Ok outcome) old new × (new.lines ≡ old.lines) × (fault_in new.target ≡ Some fault))
      ⊎ ((outcome : Outcome) × TellsPlace place outcome old new × (is_output ≡ true) × (new.lines.faults ≢ before) × (fault ≡ Front WriteFault))

  -- Each relationship is refreshed, in order, and all went well if all outcomes are good; or that ends early.
  abbrev pub RefreshesEach : Bool → Result Bool RefreshError → Scene S T → Scene S T → Type 0
  RefreshesEach is_output (Ok all_went_well) old new =
      (outcomes : List Outcome) × TellsFrom 0 outcomes old new × (length outcomes ≡ length old.schedule.relationships)
      × (all_went_well ≡ all_are_good outcomes) × (is_output ≡ true → new.lines.faults ≡ before)
  RefreshesEach is_output (Err fault) old new =
      (outcomes : List Outcome) × (mid : Scene S T) × TellsFrom 0 outcomes old mid × EndsAt is_output (length outcomes) fault mid new
