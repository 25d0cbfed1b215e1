use Rattle.shard_store.proofs.Changes.{own_changes}
use Rattle.shard_store.proofs.laws.keeps_own_changes.Goals as goal

pub returns : goal.returns
returns c = own_changes
