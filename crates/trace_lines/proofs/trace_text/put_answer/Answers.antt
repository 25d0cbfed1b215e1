use Rattle.std.proofs.Common.{◌≡◌, ◌++◌, ap}
use Rattle.std.specs.List.{flat_map}
use Rattle.wire.specs.Answers.{bundles_of}
use Rattle.wire.specs.ReplyForm.{reply as said, line_of}
use Rattle.trace_lines.specs.TraceText.{answer_words, bundle_words}
use Rattle.trace_lines.proofs.Writes.{hands_on, front_longer, puts_then}
use Rattle.trace_lines.proofs.trace_text.put_answer.Goals as goal

pub returns-in_err-put_form : goal.returns-in_err-put_form
returns-in_err-put_form g c =
    let rest = flat_map bundle_words (bundles_of c.args.answer.now) in
    let is : line_of (said c.of_answer-form.result) ++ rest ≡ answer_words c.args.answer.now = ap (λ f. line_of f ++ rest) c.of_answer-form.ensures.form in
    hands_on c.from_residual.result c.in_err-put_form.field-0.0 _ _ _ c.from_residual.ensures.0 c.from_residual.ensures.1
    (front_longer _ _ _ (line_of (said c.of_answer-form.result)) rest _ is c.in_err-put_form.ensures)

pub returns : goal.returns
returns g c =
    let line = line_of (said c.of_answer-form.result) in
    let rest = flat_map bundle_words c.bundles.result.now in
    let is : line ++ rest ≡ answer_words c.args.answer.now = (λ i. line_of (c.of_answer-form.ensures.form i) ++ flat_map bundle_words (c.bundles.ensures i)) in
    puts_then _ _ _ line rest _ c.in_ok-put_form.ensures is c.put_bundles.result c.put_bundles.ensures
