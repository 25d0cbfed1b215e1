-- What is answered where nothing may be changed.
use Rattle.std.specs.Prelude.{◌≡◌, Option, Result}
use Rattle.map_core.specs.declared.op.Op.{Op}
use Rattle.map_core.specs.declared.reply.Reply.{Reply}
use Rattle.map_core.specs.declared.reply.AskError.{AskError}
use Rattle.map_core.specs.Op.{is_read}
use Rattle.map_core.specs.PlainMap.{PlainMap}
use Rattle.map_core.specs.Ask.{AnswersPlainly}
use Rattle.workers.specs.Gate.{AnsweredBehind, gated_answers_plainly}
use Rattle.std.proofs.Common.{refl}

-- To reads the gate is open, and to all else it is shut.
abbrev pub ReadAnswer : {S : Type 0} → (S → Op → Result Reply AskError → S → Type 0) → S → Op → Result Reply AskError → S → Type 0
ReadAnswer answers old op answer new = AnsweredBehind answers (is_read op) old op answer new

-- If a map is shown, what is answered is the plain map's, too.
pub read_answers_plainly : {S : Type 0} (answers : S → Op → Result Reply AskError → S → Type 0) (shows : S → Option PlainMap)
    → AnswersPlainly answers shows → AnswersPlainly (ReadAnswer answers) shows
read_answers_plainly answers shows plainly old op answer new m shown read =
    gated_answers_plainly (λ is_open. is_open ≡ is_read op) answers shows plainly old op answer new m shown (is_read op, refl, read)
