use Rattle.std.proofs.Common.{option_copied, Some, ap, ◌∙◌}
use Rattle.map_core.specs.declared.held.Holding.{Holding}
use Rattle.map_core.proofs.Asks.{found_reply}
use Rattle.map_core.proofs.contents.Contents.show.Goals as goal

pub returns-in-Ok : goal.returns-in-Ok
returns-in-Ok g c = (
  c.in-Some-Published.bundle,
  found_reply c.args.self.now c.args.domain.now _ c.in-Some-Published.bundle c.at.ensures (ap option_copied c.in-Some-Published.is ∙ ap (λ (h : Holding). Some h) c.in-Some-Published.field-0-is),
  c.in-Ok.ensures.ok,
)
