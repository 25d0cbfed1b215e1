use Rattle.std.proofs.Common.{sym, subst, ◌∙◌}
use Rattle.std.specs.FinMap as finite
use Rattle.map_core.specs.PlainMap.{union}
use Rattle.map_core.specs.Private.Held.{HasNoBundle, HasNoMark}
use Rattle.map_core.proofs.Apart.{no_bundle-empty, no_mark-empty}
use Rattle.map_core.proofs.Unions.{union-empty}
use Rattle.map_core.proofs.contents.Contents.new.Goals as goal

pub invariant_of-result : goal.invariant_of-result
invariant_of-result c = (subst HasNoBundle (sym c.new-2.ensures) no_bundle-empty, subst HasNoMark (sym c.new.ensures) no_mark-empty)

pub returns : goal.returns
returns c = (λ i. union (c.new-2.ensures i) (c.new.ensures i)) ∙ union-empty finite.empty
