use Rattle.std.proofs.Common.{Err, refl, inl, inr}
use Rattle.wire.specs.declared.error.FrontError.TheVariants.{Memory}
use Rattle.commands.specs.declared.fault.Fault.TheVariants.{Front}
use Rattle.bundled.proofs.command.command_over.Goals as goal

pub returns-in-Err-2 : goal.returns-in-Err-2
returns-in-Err-2 g c = inr (inl record {
  ended = Err (Front Memory);
  ends = ((c.tell.ensures.status, c.tell.ensures.tells), tt);
  reads = refl;
  writes = (refl, refl);
})

pub returns-in_default : goal.returns-in_default
returns-in_default g c = inr (inl record {
  ended = Err (Front Memory);
  ends = ((c.tell-in_default.ensures.status, c.tell-in_default.ensures.tells), tt);
  reads = refl;
  writes = (refl, refl);
})
