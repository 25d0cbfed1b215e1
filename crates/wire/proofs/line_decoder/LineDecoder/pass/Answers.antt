use Rattle.std.proofs.Common.{ap, drop, drop-drop, ◌∙◌}
use Rattle.wire.proofs.line_decoder.LineDecoder.pass.Goals as goal

pub returns : goal.returns
returns c = c.advance-2.ensures.items ∙ ap (drop 1) (c.advance.ensures.items ∙ ap (drop c.args.size) c.self.view_is) ∙ drop-drop 1 c.args.size c.args.self.now
