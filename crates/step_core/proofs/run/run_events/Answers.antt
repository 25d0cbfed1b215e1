use Rattle.step_core.proofs.Linearized.{trace_linearized}
use Rattle.step_core.proofs.run.run_events.Goals as goal

pub returns-clause-linearized : goal.returns-clause-linearized
returns-clause-linearized c =
    trace_linearized c.args.shards c.args.rounds c.args.events.now (c.in_ok-trace.trace.ops.items) c.in_ok-trace.trace.order.items c.requires.shards c.in_ok-trace.ensures.ops c.in_ok-trace.ensures.order
