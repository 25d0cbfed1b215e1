use Rattle.shard_store.proofs.Continue.{answers_continue}
use Rattle.shard_store.proofs.laws.answers_continue.Goals as goal

pub returns : goal.returns
returns c = answers_continue
