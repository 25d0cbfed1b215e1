use Rattle.shard_store.proofs.LastReads.{reads_kept}
use Rattle.shard_store.proofs.last_reads.LastReads.keep.Goals as goal

pub returns : goal.returns
returns c = λ n log told one. reads_kept n c.args.shard log c.args.self.now.by_shard.items c.args.read told one
