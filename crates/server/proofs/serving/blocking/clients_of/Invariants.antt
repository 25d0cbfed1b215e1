use Rattle.std.proofs.Common.{◌≡◌}
use Rattle.std.specs.Prelude.{vec_len}
use Rattle.server.specs.Serving.{MayTake}
use Rattle.server.proofs.serving.blocking.clients_of.Given as goal

abbrev pub invariant-loop : goal.invariant-loop
invariant-loop l = (vec_len l.all ≡ l.counter) × MayTake l.left l.turns l.all.items
