use Rattle.std.proofs.Common.{refl}
use Rattle.commands.proofs.Telling.{ends_after}
use Rattle.bundled.proofs.snapshotting.snapshot_over.Goals as goal

pub returns : goal.returns
returns g c = λ input. record {
  reads = refl;
  ended = c.repeat-end.result;
  few = c.repeat-end.ensures.few;
  ends = ends_after _ c.repeat-end.result c.ended_after.result c.repeat-end.ensures.tells.0 _ _ _ _ c.faults-before.ensures c.requires.err_count c.repeat-end.ensures.tells.1 c.ended_after.ensures.status
      c.ended_after.ensures.tells;
}
