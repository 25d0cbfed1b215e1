-- One round of a session: what comes of one piece that was read.
use Rattle.std.specs.Prelude.{◌≡◌, ℕ, List, length, Result, Ok, Err}
use Rattle.map_core.specs.declared.op.Op.{Op}
use Rattle.map_core.specs.declared.reply.Reply.{Reply}
use Rattle.map_core.specs.declared.reply.AskError.{AskError}
use Rattle.wire.specs.declared.error.FrontError.{FrontError}
use Rattle.wire.specs.declared.error.FrontError.TheVariants.{BadLength, WriteFault, Memory}
use Rattle.wire.specs.Frame.{IsUnfinished, IsBadLength}
use Rattle.frame_front.specs.Session.{SessionState, Serves, Writes}

-- how far the answering of the frames that are kept is, with these bytes kept after it
abbrev pub RoundEndsAt : Result ℕ FrontError → ℕ → List ℕ → List ℕ → Type 0
RoundEndsAt (Ok count) answered rest kept = (count ≡ answered) × (rest ≡ kept) × IsUnfinished rest
RoundEndsAt (Err BadLength) answered rest kept = IsBadLength rest
RoundEndsAt (Err WriteFault) answered rest kept = Unit {0}
RoundEndsAt (Err Memory) answered rest kept = Unit {0}
RoundEndsAt ended answered rest kept = ⊥

-- The whole frames among the kept bytes were answered, and these bytes written.
pub record Round {S : Type 0} (answers : S → Op → Result Reply AskError → S → Type 0) (result : Result ℕ FrontError)
    (kept_old kept_new : List ℕ) (old new : SessionState S) (written : List ℕ) : Type 0 where
  pub payloads : List (List ℕ)
  pub texts : List (List ℕ)
  pub rest : List ℕ
  pub serves : Serves answers kept_old payloads texts rest old new
  pub ends : RoundEndsAt result (length payloads) rest kept_new
  pub writes : Writes result texts written
