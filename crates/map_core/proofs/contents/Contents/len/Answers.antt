use Rattle.std.proofs.Common.{ap, length, ◌∙◌}
use Rattle.std.specs.FinMap.{len-entries}
use Rattle.map_core.specs.PlainMap.{bundles}
use Rattle.map_core.proofs.Apart.{len-apart}
use Rattle.map_core.proofs.contents.Contents.len.Goals as goal

pub returns : goal.returns
returns c =
    c.len.ensures ∙ len-entries c.self.inside.bundles ∙ len-apart c.self.inside.marks c.self.inside.bundles c.self.invariant.0 c.self.invariant.1
    ∙ ap (λ m. length (bundles m)) c.self.view_is
