-- One step of a session without ends.
use Rattle.std.specs.Prelude.{◌≡◌, ℕ, ◌<◌, ◌≤◌, List, ◌++◌, length, Bool, Result}
use Rattle.map_core.specs.declared.op.Op.{Op}
use Rattle.map_core.specs.declared.reply.Reply.{Reply}
use Rattle.map_core.specs.declared.reply.AskError.{AskError}
use Rattle.frame_front.specs.declared.live.Step.{Step}
use Rattle.frame_front.specs.declared.live.Step.TheVariants.{Answered, Stops}
use Rattle.wire.specs.Frame.{IsPayload, frame}
use Rattle.frame_front.specs.Live.{LiveView, StopsAt, reply_limit, waiting}
use Rattle.wire.specs.Answers.{is_error_reply}
use Rattle.frame_front.specs.Session.{Answers}

module _ {S : Type 0} (answers : S → Op → Result Reply AskError → S → Type 0) where
  -- The first frame that is kept is answered, and its reply waits after those that waited, which were below the limit.
  pub record AnswersFrame (is_error : Bool) (old new : LiveView) (map_old map_new : S) : Type 0 where
    pub payload : List ℕ
    pub text : List ℕ
    pub stands : old.kept ≡ frame payload ++ new.kept
    pub good : IsPayload payload
    pub answered : Answers answers (old.terms, map_old) payload text (new.terms, map_new)
    pub waits : waiting new ≡ waiting old ++ text
    pub below : length (waiting old) < reply_limit
    pub long : 5 ≤ length text
    pub tells : is_error ≡ is_error_reply text

  -- no frame is answered: what waits stays, though more of it may be ready
  abbrev pub Stays : LiveView → LiveView → S → S → Type 0
  Stays old new map_old map_new = (new.kept ≡ old.kept) × (new.terms ≡ old.terms) × (waiting new ≡ waiting old) × (map_new ≡ map_old)

  abbrev pub Steps : Step → LiveView → LiveView → S → S → Type 0
  Steps (Answered is_error) old new map_old map_new = AnswersFrame is_error old new map_old map_new
  Steps (Stops next) old new map_old map_new = Stays old new map_old map_new × StopsAt next new
