use Rattle.shard_store.proofs.Promise.{alone_same}
use Rattle.shard_store.proofs.laws.alone_has_seen_all.Goals as goal

pub returns : goal.returns
returns c = λ list s alone extends. alone_same s list alone extends
