use Rattle.std.proofs.Common.{arith}
use Rattle.wire.proofs.ReplyPayloads.{found_is, only_is}
use Rattle.wire.proofs.reply.payload.reply_of_payload.Goals as goal

pub returns-clause-found : goal.returns-clause-found
returns-clause-found c = found_is c.args.payload.now c.read_payload.result (λ i. grind (arith, c.type_inv.payload i)) c.read_payload.ensures

pub returns-clause-only : goal.returns-clause-only
returns-clause-only c = only_is c.args.payload.now c.read_payload.result c.read_payload.ensures
