use Rattle.std.proofs.Common.{refl, inl}
use Rattle.std.proofs.KnownBytes.{Consumes-nil}
use Rattle.workers.proofs.connection.Connection.read.Goals as goal
use Rattle.workers.proofs.ReadLemmas.{reads_nothing}

pub returns-then-self : goal.returns-then-self
returns-then-self g c = reads_nothing c.args.self.now c.args.self.now.left _ _ _ (Consumes-nil c.args.self.now.left) (c.finish.ensures.none, inl refl, c.finish.ensures.stops)
