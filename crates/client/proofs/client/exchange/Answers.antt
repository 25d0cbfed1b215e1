use Rattle.client.proofs.ClientLemmas.{exchanged}
use Rattle.client.proofs.client.exchange.Goals as goal

pub returns-in-Ok : goal.returns-in-Ok
returns-in-Ok g c = exchanged c.args.op.now _ _ c.in-Ok.ensures.ok c.in-Ok.ensures.quiet c.read_reply.result c.read_reply.ensures
