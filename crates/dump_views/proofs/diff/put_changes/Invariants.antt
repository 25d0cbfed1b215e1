use Rattle.std.proofs.Common.{◌≡◌, ◌+◌, ◌++◌, length}
use Rattle.dump_views.specs.ChangeLines.{lines_of}
use Rattle.dump_views.specs.Private.Fronts.{IsFront}
use Rattle.dump_views.specs.Private.Merging.{merged}
use Rattle.dump_views.proofs.diff.put_changes.Given as goal

abbrev pub invariant-loop-olds : goal.invariant-loop-olds
invariant-loop-olds l = record {
  begun : IsFront l.initial.out.items l.out.items;
  so_far : l.out.items ++ lines_of (merged l.olds l.news) ≡ l.initial.out.items ++ lines_of (merged l.old l.new);
}

abbrev pub decreases-loop-olds : goal.decreases-loop-olds
decreases-loop-olds l = length l.olds + length l.news
