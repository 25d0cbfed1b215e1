use Rattle.race_demo.proofs.Moments.{halves_told, first_half_told}
use Rattle.race_demo.proofs.judge.is_map.Goals as goal

pub returns-then-is_moment : goal.returns-then-is_moment
returns-then-is_moment c =
    halves_told c.args.reading.now c.requires c.split_at.result.0.now c.split_at.result.1.now c.split_at.ensures.front c.split_at.ensures.back
    c.if-is_moment.ensures c.is_moment-then-is_moment.result c.is_moment-then-is_moment.ensures

pub returns-else-is_moment : goal.returns-else-is_moment
returns-else-is_moment c =
    first_half_told c.args.reading.now c.requires c.split_at.result.0.now c.split_at.result.1.now c.split_at.ensures.front c.split_at.ensures.back c.is_moment.result c.if-is_moment.false c.if-is_moment.ensures
