use Rattle.std.proofs.Common.{arith}
use Rattle.shared_map.proofs.Places.{reached}
use Rattle.shared_map.proofs.search.last_from.Goals as goal

pub returns : goal.returns
returns g c =
    let low = c.loop-high.low in
    let high = c.loop-high.high in
    let kept = c.loop-high.invariant in
    reached c.args.name.now c.args.slots.now low high (omega arith) (omega arith) kept.from kept.before
