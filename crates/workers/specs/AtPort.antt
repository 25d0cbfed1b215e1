-- What is answered at a port.
use Rattle.std.specs.Prelude.{Bool, true, false, Option, Result}
use Rattle.map_core.specs.declared.op.Op.{Op}
use Rattle.map_core.specs.declared.reply.Reply.{Reply}
use Rattle.map_core.specs.declared.reply.AskError.{AskError}
use Rattle.map_core.specs.PlainMap.{PlainMap}
use Rattle.map_core.specs.Ask.{AnswersPlainly}
use Rattle.workers.specs.ReadOnly.{ReadAnswer, read_answers_plainly}

-- at a port that is for reads only, or for all
abbrev pub PortAnswer : {S : Type 0} → (S → Op → Result Reply AskError → S → Type 0) → Bool → S → Op → Result Reply AskError → S → Type 0
PortAnswer answers true old op answer new = ReadAnswer answers old op answer new
PortAnswer answers false old op answer new = answers old op answer new

-- If a map is shown, what is answered is the plain map's, too.
pub port_answers_plainly : {S : Type 0} (answers : S → Op → Result Reply AskError → S → Type 0) (shows : S → Option PlainMap)
    → AnswersPlainly answers shows → (reads_only : Bool) → AnswersPlainly (PortAnswer answers reads_only) shows
port_answers_plainly answers shows plainly true old op answer new m shown answered = read_answers_plainly answers shows plainly old op answer new m shown answered
port_answers_plainly answers shows plainly false old op answer new m shown answered = plainly old op answer new m shown answered
