use Rattle.std.proofs.Common.{◌++◌, ◌∙◌, refl}
use Rattle.wire.proofs.OutputLemmas.{WritesFront-longer}
use Rattle.trace_lines.proofs.Writes.{wrote_more, hands_on}
use Rattle.trace_lines.specs.Private.Puts.{out_of}
use Rattle.trace_lines.proofs.write_buffer.WriteBuffer.put_late.Goals as goal

pub returns-in_err-send : goal.returns-in_err-send
returns-in_err-send g c = hands_on c.from_residual.result c.in_err-send.field-0.0 _ _ _ c.from_residual.ensures.0 c.from_residual.ensures.1 record {
  fault = c.in_err-send.ensures.fault.0;
  counted = c.in_err-send.ensures.fault.1;
  front = WritesFront-longer _ _ c.args.self.now (c.args.first.now ++ c.args.others.now) c.in_err-send.ensures.front;
}

pub returns : goal.returns
returns g c =
    let mid = out_of g.W.Write.contents c.send.new.out c.send.new.self in
    wrote_more (out_of g.W.Write.contents c.args.out.now c.args.self.now) mid (out_of g.W.Write.contents c.write_both.new.writer c.gather.new.self) (c.args.first.now ++ c.args.others.now)
    c.in_ok-send.ensures.ok c.in_ok-send.ensures.quiet (c.if-gather.ensures.refused refl ∙ c.in_ok-send.ensures.empty) c.write_both.ensures.front
    c.write_both.result c.write_both.ensures.ok c.write_both.ensures.quiet c.write_both.ensures.fault
