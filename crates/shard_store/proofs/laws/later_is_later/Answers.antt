use Rattle.shard_store.proofs.Promise.{later_then}
use Rattle.shard_store.proofs.laws.later_is_later.Goals as goal

pub returns : goal.returns
returns c = later_then
