use Rattle.std.proofs.Common.{◌++◌, ap, ◌∙◌}
use Rattle.wire.proofs.Heads.{fetch_unless_frame}
use Rattle.wire.proofs.request.payload.digest_head.Goals as goal

pub returns-clause-whole : goal.returns-clause-whole
returns-clause-whole c = c.put.ensures ∙ ap (λ b. b ++ c.args.known.now) c.head_of-head.ensures ∙ fetch_unless_frame c.args.known.now c.told-known
