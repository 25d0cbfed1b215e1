-- An input of events, a line each.
use Rattle.std.specs.Prelude.{◌≡◌, ℕ, ◌+◌, List, [], ◌∷◌, ◌++◌, length, ◌==◌, if◌then◌else◌}
use Rattle.step_core.specs.declared.event.Event.{Event}
use Rattle.trace_lines.specs.EventLine.{IsEventOf}
use Rattle.trace_lines.specs.declared.events.LinesError.{LinesError}
use Rattle.trace_lines.specs.declared.events.LinesError.TheVariants.{BadLine, Memory}

-- a byte more at the front of the first line
abbrev pub with_byte : ℕ → List (List ℕ) → List (List ℕ)
with_byte byte [] = (byte ∷ []) ∷ []
with_byte byte (line ∷ lines) = (byte ∷ line) ∷ lines

-- The lines of an input, without their line feeds. A line feed ends each, but the last may lack it; an empty input has none.
unfoldable pub lines_in : List ℕ → List (List ℕ)
lines_in [] = []
lines_in (byte ∷ input) = if byte == 10 then [] ∷ lines_in input else with_byte byte (lines_in input)

-- the lines are those of these events, in order
abbrev pub AreEvents : List (List ℕ) → List Event → Type 0
AreEvents [] [] = Unit {0}
AreEvents [] (event ∷ events) = ⊥
AreEvents (line ∷ lines) [] = ⊥
AreEvents (line ∷ lines) (event ∷ events) = IsEventOf line event × AreEvents lines events

-- the line of this number, from 1, is the first that is the line of no event
pub record IsFirstBad (number : ℕ) (lines : List (List ℕ)) : Type 0 where
  pub before : List (List ℕ)
  pub line : List ℕ
  pub after : List (List ℕ)
  pub events : List Event
  pub lines_are : lines ≡ before ++ line ∷ after
  pub number_is : number ≡ length before + 1
  pub each : AreEvents before events
  pub bad : (event : Event) → IsEventOf line event → ⊥

-- why lines are not events
abbrev pub AreNone : LinesError → List (List ℕ) → Type 0
AreNone (BadLine number) lines = IsFirstBad number lines
AreNone Memory lines = Unit {0}
