use Rattle.std.proofs.Common.{sym, ◌∙◌}
use Rattle.client.proofs.AnswerLemmas.{wrong_code, none_told, begins}
use Rattle.client.proofs.answer.judge_payload.Goals as goal

pub returns-then-not-is_code_for-clause-err : goal.returns-then-not-is_code_for-clause-err
returns-then-not-is_code_for-clause-err c = λ left. wrong_code c.args.op.now c.args.payload.now c.requires.payload (sym c.is_code_for.ensures ∙ c.if-not-is_code_for.true)

pub returns-in_default-clause-err : goal.returns-in_default-clause-err
returns-in_default-clause-err c = λ left.
    none_told c.args.payload.now c.requires.payload c.reply_of_payload.result c.reply_of_payload.ensures.only c.args.op.now (λ a tells. rw c.in_default.is at tells)

pub returns-in_default-2-clause-err : goal.returns-in_default-2-clause-err
returns-in_default-2-clause-err c = λ left.
    none_told c.args.payload.now c.requires.payload c.reply_of_payload.result c.reply_of_payload.ensures.only c.args.op.now
    (λ a tells. let told = rw c.in-Some.is at tells in rw (c.in_ok-first.ensures.value ∙ c.in_default-2.is) at told)

pub returns-clause-ok : goal.returns-clause-ok
returns-clause-ok c =
    let says = rw c.in-Some-2.is at c.in_ok-first.ensures.found in
    begins c.args.payload.now c.requires.payload c.reply_of_payload.result c.reply_of_payload.ensures.only
    c.in-Some.reply c.in-Some.is c.in-Some.ensures.found.0 c.in-Some.ensures.found.1 c.args.op.now (sym c.is_code_for.ensures ∙ c.if-not-is_code_for.false)
    c.in-Some-2.first (c.in_ok-first.ensures.value ∙ c.in-Some-2.is) says
