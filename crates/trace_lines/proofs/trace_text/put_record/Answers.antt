use Rattle.std.proofs.Common.{[], ◌∷◌, ◌++◌}
use Rattle.trace_lines.specs.TraceText.{reply_words}
use Rattle.trace_lines.proofs.TraceTexts.{record_in_parts}
use Rattle.trace_lines.proofs.Writes.{hands_on, front_longer, second_cut, third_put}
use Rattle.trace_lines.proofs.trace_text.put_record.Goals as goal

pub returns-in_err-put : goal.returns-in_err-put
returns-in_err-put g c =
    let is = record_in_parts c.args.number c.args.entry.now c.as_slice.result.now c.record_head-head.result.items c.as_slice.ensures.value c.record_head-head.ensures in
    hands_on c.from_residual.result c.in_err-put.field-0.0 _ _ _ c.from_residual.ensures.0 c.from_residual.ensures.1
    (front_longer _ _ _ (c.as_slice.result.now ++ []) (reply_words c.args.entry.now.reply ++ 10 ∷ []) _ is c.in_err-put.ensures)

pub returns-in_err-put_reply : goal.returns-in_err-put_reply
returns-in_err-put_reply g c =
    let is = record_in_parts c.args.number c.args.entry.now c.as_slice.result.now c.record_head-head.result.items c.as_slice.ensures.value c.record_head-head.ensures in
    hands_on c.from_residual-in_err-put_reply.result c.in_err-put_reply.field-0.0 _ _ _ c.from_residual-in_err-put_reply.ensures.0 c.from_residual-in_err-put_reply.ensures.1
    (second_cut _ _ _ (c.as_slice.result.now ++ []) (reply_words c.args.entry.now.reply) (10 ∷ []) _ is c.in_ok-put.ensures _ c.in_err-put_reply.ensures)

pub returns : goal.returns
returns g c =
    let is = record_in_parts c.args.number c.args.entry.now c.as_slice.result.now c.record_head-head.result.items c.as_slice.ensures.value c.record_head-head.ensures in
    third_put _ _ _ (c.as_slice.result.now ++ []) (reply_words c.args.entry.now.reply) (10 ∷ []) _ is c.in_ok-put.ensures _ c.in_ok-put_reply.ensures c.put-2.result c.put-2.ensures
