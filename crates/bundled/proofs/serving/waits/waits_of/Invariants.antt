use Rattle.std.proofs.Common.{◌≡◌, vec_len}
use Rattle.bundled.proofs.serving.waits.waits_of.Given as goal

abbrev pub invariant-loop : goal.invariant-loop
invariant-loop g l = vec_len l.waits.all ≡ l.counter
