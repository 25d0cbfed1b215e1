-- Each line has one reading. What a picture shows can be, and fits a page.
use Rattle.std.specs.Prelude.{◌≡◌, ◌≤◌, ◌<◌, ◌+◌, ◌^◌, ℕ, List, [], ◌∷◌, length, get_or, IfSome}
use Rattle.step_core.specs.declared.event.Event.{Event}
use Rattle.step_core.specs.declared.trace.OpRecord.{OpRecord}
use Rattle.step_core.specs.Records.{no_record, IsLinearized}
use Rattle.trace_lines.specs.EventLine.{IsEventOf}
use Rattle.trace_lines.specs.Events.{AreEvents}
use Rattle.trace_lines.specs.Picture.{moments, event_line, caller_line, order_row}

-- a line is that of at most one event
abbrev pub HasOneReading : Type 0
HasOneReading = (line : List ℕ) (a b : Event) → IsEventOf line a → IsEventOf line b → a ≡ b

-- so lines are those of at most one list of events
abbrev pub HaveOneReading : Type 0
HaveOneReading = (lines : List (List ℕ)) (xs ys : List Event) → AreEvents lines xs → AreEvents lines ys → xs ≡ ys

-- Each of these operations takes effect at an event of the run, after those before it, once it has begun and before it has ended.
abbrev pub AreWithin : ℕ → ℕ → List OpRecord → List (ℕ × ℕ) → Type 0
AreWithin events from records [] = Unit {0}
AreWithin events from records (it ∷ others) =
    let r = get_or records it.0 no_record in
    ((from ≤ it.1) × (it.1 < events)) × ((r.first ≤ it.1) × IfSome r.last (λ last. it.1 ≤ last)) × AreWithin events (it.1 + 1) records others

-- so do the operations of a picture, if their order is a linearization
abbrev pub CanTakeEffect : Type 0
CanTakeEffect = (events : ℕ) (records : List OpRecord) (order : List ℕ) → IsLinearized events records order → AreWithin events 0 records (moments 0 records order)

-- a line of at most 80 columns
abbrev pub IsNarrow : List ℕ → Type 0
IsNarrow line = length line ≤ 80

-- each line of a band is
abbrev pub FitPage : Type 0
FitPage = (records : List OpRecord) (order : List ℕ) (from width caller : ℕ) → from ≤ 960 → width ≤ 60 → caller < 2 ^ 32
    → IsNarrow (event_line from width) × IsNarrow (caller_line records from width caller) × IsNarrow (order_row records order from width)
