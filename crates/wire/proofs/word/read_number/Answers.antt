use Rattle.std.proofs.Common.{Some, None, true≢false, sym, ap, ◌∙◌}
use Rattle.std.specs.Prelude.{decimal}
use Rattle.std.proofs.lemmas.Option.{same_Some}
use Rattle.std.proofs.lemmas.Slice.Eq.{bytes_eq-Decides}
use Rattle.wire.proofs.Numbers.{number_is, number_told, text_is, not_refused, decimal_is_utf8, parsed_fits, parsed_is}
use Rattle.wire.proofs.word.read_number.Goals as goal

pub returns-in_err-text-clause-read : goal.returns-in_err-text-clause-read
returns-in_err-text-clause-read c = c.from_residual.ensures ∙ number_is c.args.word.now None tt (λ n small is. absurd (not_refused _ _ _ c.from_utf8.result c.from_utf8.ensures.cases (decimal_is_utf8 c.args.word.now n small is) (c.in_err-text.ensures.value)))

pub returns-in_err-number-clause-read : goal.returns-in_err-number-clause-read
returns-in_err-number-clause-read c = c.from_residual-in_err-number.ensures ∙ number_is c.args.word.now None tt (λ n small is.
    let same = text_is _ c.args.word.now c.from_utf8.result c.in_ok-text.text c.from_utf8.ensures.cases (c.in_ok-text.ensures.value) in
    c.in_err-number.ensures.value ∙ parsed_is c.args.word.now c.in_ok-text.text.now c.parse.result n same c.parse.ensures.value.0 small is)

pub returns-then-eq-clause-read : goal.returns-then-eq-clause-read
returns-then-eq-clause-read c =
    let same = text_is _ c.args.word.now c.from_utf8.result c.in_ok-text.text c.from_utf8.ensures.cases (c.in_ok-text.ensures.value) in
    let fits = parsed_fits c.in_ok-text.text.now c.parse.result c.in_ok-number.number c.parse.ensures.value.0 (c.in_ok-number.ensures.value) in
    let written = sym ((bytes_eq-Decides c.as_bytes.result.now c.args.word.now).0 (sym c.eq.ensures ∙ c.if-eq.true)) ∙ c.as_bytes.ensures.value ∙ c.format.ensures.text in
    number_is c.args.word.now (Some c.in_ok-number.number) (fits, written) (λ n small is. c.in_ok-number.ensures.value ∙ parsed_is c.args.word.now c.in_ok-text.text.now c.parse.result n same c.parse.ensures.value.0 small is)

pub returns-else-eq-clause-read : goal.returns-else-eq-clause-read
returns-else-eq-clause-read c =
    let same = text_is _ c.args.word.now c.from_utf8.result c.in_ok-text.text c.from_utf8.ensures.cases (c.in_ok-text.ensures.value) in
    number_is c.args.word.now None tt (λ n small is.
    let number = same_Some c.in_ok-number.number n (c.in_ok-number.ensures.value ∙ parsed_is c.args.word.now c.in_ok-text.text.now c.parse.result n same c.parse.ensures.value.0 small is) in
    let equal = (bytes_eq-Decides c.as_bytes.result.now c.args.word.now).1 (c.as_bytes.ensures.value ∙ c.format.ensures.text ∙ ap decimal number ∙ sym is) in
    absurd (true≢false (sym equal ∙ sym c.eq.ensures ∙ c.if-eq.false)))

pub returns-in_err-text-clause-number : goal.returns-in_err-text-clause-number
returns-in_err-text-clause-number c = number_told c.args.word.now _ (returns-in_err-text-clause-read c)

pub returns-in_err-number-clause-number : goal.returns-in_err-number-clause-number
returns-in_err-number-clause-number c = number_told c.args.word.now _ (returns-in_err-number-clause-read c)

pub returns-then-eq-clause-number : goal.returns-then-eq-clause-number
returns-then-eq-clause-number c = number_told c.args.word.now _ (returns-then-eq-clause-read c)

pub returns-else-eq-clause-number : goal.returns-else-eq-clause-number
returns-else-eq-clause-number c = number_told c.args.word.now _ (returns-else-eq-clause-read c)
