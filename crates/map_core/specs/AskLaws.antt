-- The law of `Ask`, for contents, which answer as the plain map that they are, and for whoever shows no map.
use Rattle.std.specs.Prelude.{Option, Some, None, Result, Ok, Err}
use Rattle.std.proofs.Common.{ap, subst}
use Rattle.std.specs.Option.{unwrap_or}
use Rattle.std.proofs.lemmas.Option.{none-some}
use Rattle.map_core.specs.declared.op.Op.{Op}
use Rattle.map_core.specs.declared.reply.Reply.{Reply}
use Rattle.map_core.specs.declared.reply.AskError.{AskError}
use Rattle.map_core.specs.PlainMap.{PlainMap}
use Rattle.map_core.specs.Ask.{AnswersPlainly, PlainAnswer, ContentsAnswer}

plain_answer : (m : PlainMap) (op : Op) (result : Result Reply AskError) (new : PlainMap) → ContentsAnswer m op result new → PlainAnswer m op result (Some new)
plain_answer m op (Ok reply) new answer = (answer.0, ap Some answer.1)
plain_answer m op (Err e) new answer = ap Some answer.1

pub contents_answer_plainly : AnswersPlainly ContentsAnswer (λ m. Some m)
contents_answer_plainly old op result new m shown answer =
    subst (λ (x : PlainMap). PlainAnswer x op result (Some new)) (ap (λ (x : Option PlainMap). unwrap_or x old) shown) (plain_answer old op result new answer)

-- Nothing has to hold of the answers where no map is shown, since others may change it between two calls.
pub shows_nothing : {S : Type 0} (answers : S → Op → Result Reply AskError → S → Type 0) → AnswersPlainly answers (λ s. None)
shows_nothing answers old op result new m shown answered = absurd (none-some m shown)
