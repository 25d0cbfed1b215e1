use Rattle.std.proofs.Common.{refl}
use Rattle.dump_views.specs.Changes.{held_under}
use Rattle.commands.proofs.pem.pem_input.Goals as goal

pub read_dump_into-requires : goal.read_dump_into-requires
unfolding held_under
read_dump_into-requires g c = refl
