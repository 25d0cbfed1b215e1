use Rattle.shard_store.proofs.Continue.{replies_follow}
use Rattle.shard_store.proofs.laws.replies_follow.Goals as goal

pub returns : goal.returns
returns c = replies_follow
