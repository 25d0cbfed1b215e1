use Rattle.race_demo.proofs.Moments.{moment_told}
use Rattle.race_demo.proofs.judge.is_moment.Goals as goal

pub returns-in-Some : goal.returns-in-Some
returns-in-Some c = moment_told c.in-Some.low.now c.args.readings.now c.is_falling.result c.in-Some.ensures.value c.is_falling.ensures
