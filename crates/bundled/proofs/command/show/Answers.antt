use Rattle.std.proofs.Common.{Err, refl, inl}
use Rattle.wire.specs.declared.error.FrontError.TheVariants.{Memory}
use Rattle.commands.specs.declared.fault.Fault.TheVariants.{Front}
use Rattle.bundled.proofs.command.show.Goals as goal

pub returns-in_default-clause-shows : goal.returns-in_default-clause-shows
returns-in_default-clause-shows g c = λ input. inl record {
  ended = Err (Front Memory);
  ends = ((c.tell.ensures.status, c.tell.ensures.tells), tt);
  reads = refl;
  writes = (refl, refl);
}
