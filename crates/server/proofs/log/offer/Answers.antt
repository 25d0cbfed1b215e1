use Rattle.std.proofs.Common.{ℕ, List, subst}
use Rattle.wire.specs.Output.{WritesFront}
use Rattle.server.proofs.LogLines.{front_of}
use Rattle.server.proofs.log.offer.Goals as goal

pub returns-in-Ok-clause-front : goal.returns-in-Ok-clause-front
returns-in-Ok-clause-front g c =
    subst (λ (line : List ℕ). WritesFront (g.N.Write.contents c.args.end.now) (g.N.Write.contents c.write.new.self) line) c.as_slice.ensures.value
    (front_of _ _ c.as_slice.result.now c.in-Ok.count c.in-Ok.ensures.bytes)
