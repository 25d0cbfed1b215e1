use Rattle.std.proofs.Common.{[], ◌∷◌, ◌++◌}
use Rattle.std.specs.Prelude.{codes}
use Rattle.std.specs.List.{flat_map}
use Rattle.trace_lines.specs.TraceText.{number_word}
use Rattle.trace_lines.proofs.TraceTexts.{order_in_parts}
use Rattle.trace_lines.proofs.Writes.{hands_on, front_longer, second_cut, third_put}
use Rattle.trace_lines.proofs.trace_text.put_order.Goals as goal

pub returns-in_err-put : goal.returns-in_err-put
returns-in_err-put g c =
    hands_on c.from_residual.result c.in_err-put.field-0.0 _ _ _ c.from_residual.ensures.0 c.from_residual.ensures.1
    (front_longer _ _ _ (codes "order") (flat_map number_word c.args.order.now ++ 10 ∷ []) _ (order_in_parts c.args.order.now) c.in_err-put.ensures)

pub returns-in_err-put_numbers : goal.returns-in_err-put_numbers
returns-in_err-put_numbers g c =
    hands_on c.from_residual-in_err-put_numbers.result c.in_err-put_numbers.field-0.0 _ _ _ c.from_residual-in_err-put_numbers.ensures.0 c.from_residual-in_err-put_numbers.ensures.1
    (second_cut _ _ _ (codes "order") (flat_map number_word c.args.order.now) (10 ∷ []) _ (order_in_parts c.args.order.now) c.in_ok-put.ensures _ c.in_err-put_numbers.ensures)

pub returns : goal.returns
returns g c =
    third_put _ _ _ (codes "order") (flat_map number_word c.args.order.now) (10 ∷ []) _ (order_in_parts c.args.order.now) c.in_ok-put.ensures _ c.in_ok-put_numbers.ensures c.put-2.result c.put-2.ensures
