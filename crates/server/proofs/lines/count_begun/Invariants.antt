use Rattle.std.proofs.Common.{◌≡◌, take}
use Rattle.std.specs.Prelude.{min}
use Rattle.server.specs.Serve.{begun_by}
use Rattle.server.proofs.lines.count_begun.Given as goal

abbrev pub invariant-loop-worker : goal.invariant-loop-worker
invariant-loop-worker l = l.count ≡ min (begun_by (take l.worker-index l.worked)) 18446744073709551615
