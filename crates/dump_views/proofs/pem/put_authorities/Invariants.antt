use Rattle.std.proofs.Common.{◌≡◌, ◌++◌}
use Rattle.std.specs.List.{flat_map}
use Rattle.dump_views.specs.Pem.{pem_of_authority}
use Rattle.dump_views.specs.Private.Fronts.{IsFront}
use Rattle.dump_views.proofs.pem.put_authorities.Given as goal

abbrev pub invariant-loop-entry : goal.invariant-loop-entry
invariant-loop-entry l = record {
  begun : IsFront l.initial.out.items l.out.items;
  so_far : l.out.items ++ flat_map pem_of_authority l.entry-iterator ≡ l.initial.out.items ++ flat_map pem_of_authority l.authorities;
}
