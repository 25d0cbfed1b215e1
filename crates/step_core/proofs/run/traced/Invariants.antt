use Rattle.std.proofs.Common.{take}
use Rattle.step_core.specs.Run.{run_of}
use Rattle.step_core.specs.Private.Shown.{IsShown}
use Rattle.step_core.proofs.run.traced.Given as goal

abbrev pub invariant-loop-now : goal.invariant-loop-now
invariant-loop-now l = IsShown l.shards l.rounds l.driver (run_of l.shards l.rounds (take l.now l.events))
