use Rattle.std.proofs.Common.{◌≡◌, ◌++◌, length}
use Rattle.std.specs.List.{flat_map}
use Rattle.dump_views.specs.Pem.{base64_of, cut, line}
use Rattle.dump_views.specs.Private.Fronts.{IsFront}
use Rattle.dump_views.proofs.pem.put_lines.Given as goal

abbrev pub invariant-loop-rest : goal.invariant-loop-rest
invariant-loop-rest l = record {
  begun : IsFront l.initial.out.items l.out.items;
  so_far : l.out.items ++ flat_map line (cut (base64_of l.rest)) ≡ l.initial.out.items ++ flat_map line (cut (base64_of l.bytes));
}

abbrev pub decreases-loop-rest : goal.decreases-loop-rest
decreases-loop-rest l = length l.rest
