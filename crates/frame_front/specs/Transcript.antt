-- What a call of `serve` did to its reader, its writer and the map that it asks.
use Rattle.std.specs.Prelude.{ℕ, ◌≤◌, ◌*◌, List, length, Result, Ok, Err, Option, false}
use Rattle.std.specs.Io.KnownBytes.{Appends, Consumes, IsAtEnd}
use Rattle.map_core.specs.declared.op.Op.{Op}
use Rattle.map_core.specs.declared.reply.Reply.{Reply}
use Rattle.map_core.specs.declared.reply.AskError.{AskError}
use Rattle.wire.specs.declared.error.FrontError.{FrontError}
use Rattle.wire.specs.declared.error.FrontError.TheVariants.{Truncated, TurnsUsed}
use Rattle.frame_front.specs.declared.terms.Terms.{Terms}
use Rattle.frame_front.specs.Terms.{begun}
use Rattle.frame_front.specs.Session.{Session}

-- at these ends of a session the reader has no byte left
abbrev pub EndsInput : Result ℕ FrontError → Option (List ℕ) → Type 0
EndsInput (Ok count) left = IsAtEnd left
EndsInput (Err Truncated) left = IsAtEnd left
EndsInput ended left = Unit {0}

-- if the turns are used up, each of them read at least one byte
abbrev pub UsesTurns : Result ℕ FrontError → ℕ → ℕ → Type 0
UsesTurns (Err TurnsUsed) turns bytes = turns ≤ bytes
UsesTurns ended turns bytes = Unit {0}

-- at most so many reads, each of at most 4096 bytes
abbrev pub IsReadIn : ℕ → List ℕ → Type 0
IsReadIn turns read = length read ≤ 4096 * turns

-- A session in version one from the start, which may do all: what it took from the reader and gave to the writer, and from which
-- state of the map to which.
pub record Transcript {S : Type 0} (answers : S → Op → Result Reply AskError → S → Type 0) (result : Result ℕ FrontError) (turns : ℕ)
    (left_old left_new held_old held_new : Option (List ℕ)) (old new : S) : Type 0 where
  pub read : List ℕ
  pub written : List ℕ
  pub terms : Terms
  pub consumes : Consumes left_old left_new read
  pub appends : Appends held_old held_new written
  pub session : Session answers result (begun false, old) (terms, new) read written
  pub few_read : IsReadIn turns read
  pub used : UsesTurns result turns (length read)
  pub ended : EndsInput result left_new
