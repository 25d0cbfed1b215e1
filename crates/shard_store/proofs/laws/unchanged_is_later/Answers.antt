use Rattle.shard_store.proofs.Continue.{unchanged_later}
use Rattle.shard_store.proofs.laws.unchanged_is_later.Goals as goal

pub returns : goal.returns
returns c = unchanged_later
