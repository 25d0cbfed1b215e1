use Rattle.std.proofs.Common.{ℕ, ◌+◌, List, drop, get_or, ap, sym, ◌∙◌}
use Rattle.std.specs.Prelude.{◌==◌}
use Rattle.std.specs.List.{find}
use Rattle.std.proofs.lemmas.List.{at_drop_more}
use Rattle.trace_lines.specs.Picture.{moments, digit_of}
use Rattle.trace_lines.proofs.Pictures.{none_passed}
use Rattle.trace_lines.proofs.picture_row.order_mark.Goals as goal

pub returns-then-event-at : goal.returns-then-event-at
returns-then-event-at c =
    let records = c.args.records.now in
    let order = c.args.order.now in
    let from = c.loop-number.from in
    let place = c.loop-number.number-index in
    let cut = at_drop_more (λ (o : List ℕ). find (λ (m : ℕ × ℕ). m.1 == c.args.event) (moments from records o)) order place 0 c.loop-number-test.true in
    let none = none_passed from records (get_or order place 0) (drop (place + 1) order) c.args.event c.moment-at.result c.if-event-at.true c.moment-at.ensures in
    ap digit_of (sym none ∙ sym cut ∙ c.loop-number.invariant.0)
