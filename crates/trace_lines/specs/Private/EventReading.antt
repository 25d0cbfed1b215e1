-- How an event is read from a line.
use Rattle.std.specs.Prelude.{◌≡◌, ◌⊎◌, ℕ, ◌^◌, List, codes, nat_lt, bytes_eq, if◌then◌else◌, Option, Some, None, Result, Ok, Err}
use Rattle.map_core.specs.declared.op.Op.{Op}
use Rattle.step_core.specs.declared.event.Event.{Event}
use Rattle.step_core.specs.declared.event.Event.TheVariants.{Begin, Step, Quit, End}
use Rattle.step_core.specs.declared.event.Why.{Why}
use Rattle.step_core.specs.declared.event.Why.TheVariants.{Held, Memory}
use Rattle.wire.specs.declared.judge.Judged.{Judged}
use Rattle.wire.specs.declared.judge.Judged.TheVariants.{Ask}
use Rattle.wire.specs.declared.refusal.Refusal.{Refusal}
use Rattle.wire.specs.declared.version.Version.TheVariants.{Three}
use Rattle.wire.specs.RequestForm.{Request}
use Rattle.wire.specs.Judge.{judged}
use Rattle.wire.specs.PayloadReading.{◌>>=◌}
use Rattle.wire.specs.Private.RequestReading.{split_word, number_of, read_line}
use Rattle.trace_lines.specs.declared.operation.LineError.{LineError}
use Rattle.trace_lines.specs.declared.operation.LineError.TheVariants as error

-- a reading gives this, or nothing, unless memory ran out
abbrev pub Reads : {A : Type 0} → Result A LineError → Option A → Type 0
Reads (Ok value) given = given ≡ Some value
Reads (Err e) given = (e ≡ error.Memory) ⊎ ((e ≡ error.NoEvent) × (given ≡ None))

-- ---- operations

abbrev pub asked_in : Result Judged Refusal → Option Op
asked_in (Ok (Ask asked)) = Some asked
asked_in judged = None

unfoldable pub operation_of : Request → Option Op
operation_of request = asked_in (judged Three request)

-- ---- events

-- the number below the limit that a word writes in decimal
unfoldable pub number_below : ℕ → List ℕ → Option ℕ
number_below limit word = do
  number ← number_of word
  if nat_lt number limit then Some number else None

unfoldable pub caller_of : List ℕ → Option ℕ
caller_of word = number_below (2 ^ 32) word

unfoldable pub held_of : List ℕ → Option Why
held_of bytes = do
  parts ← split_word bytes
  shard ← number_below 256 parts.0
  revision ← number_of parts.1
  Some (Held shard revision)

abbrev pub why_by_split : List ℕ → Option (List ℕ × List ℕ) → Option Why
why_by_split bytes None = if bytes_eq bytes (codes "memory") then Some Memory else None
why_by_split bytes (Some parts) = if bytes_eq parts.0 (codes "held") then held_of parts.1 else None

unfoldable pub why_of : List ℕ → Option Why
why_of bytes = why_by_split bytes (split_word bytes)

unfoldable pub begin_of : List ℕ → Option Event
begin_of bytes = do
  parts ← split_word bytes
  caller ← caller_of parts.0
  request ← read_line parts.1
  asked ← operation_of request
  Some (Begin caller asked)

unfoldable pub step_of : List ℕ → Option Event
step_of word = do
  caller ← caller_of word
  Some (Step caller)

unfoldable pub end_of : List ℕ → Option Event
end_of word = do
  caller ← caller_of word
  Some (End caller)

unfoldable pub quit_of : List ℕ → Option Event
quit_of bytes = do
  parts ← split_word bytes
  caller ← caller_of parts.0
  why ← why_of parts.1
  Some (Quit caller why)

unfoldable pub event_by_verb : List ℕ → List ℕ → Option Event
event_by_verb verb rest =
    if bytes_eq verb (codes "begin") then begin_of rest
    else if bytes_eq verb (codes "step") then step_of rest
    else if bytes_eq verb (codes "end") then end_of rest
    else if bytes_eq verb (codes "quit") then quit_of rest
    else None

-- the event of a line
unfoldable pub event_of : List ℕ → Option Event
event_of line = do
  parts ← split_word line
  event_by_verb parts.0 parts.1
