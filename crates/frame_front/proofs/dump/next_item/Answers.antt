use Rattle.std.proofs.Common.{sym, ◌∙◌, subst, refl}
use Rattle.spiffe_doc.specs.Authority.{BundleValue}
use Rattle.map_core.specs.Name.{Name}
use Rattle.map_core.specs.Laws.{IsAfter}
use Rattle.std.specs.Prelude.{None}
use Rattle.frame_front.specs.Private.Refusals.{last_of}
use Rattle.frame_front.proofs.DumpLemmas.{no_item}
use Rattle.frame_front.proofs.DomainLists.{some_item, none_item}
use Rattle.frame_front.proofs.dump.next_item.Goals as goal

pub returns-in-Ok-None-clause-none : goal.returns-in-Ok-None-clause-none
returns-in-Ok-None-clause-none c =
    let found = c.in-Some.ensures.found in
    let reading = c.in-Ok-None.ensures in
    no_item (last_of None c.args.domains.now) c.args.bytes.now c.in-Some.payload.now c.in-Some.rest.now found.0 found.1
    (λ item reads after. none_item item (sym (rw c.in-Ok-None.field-0-is at reading) ∙ reads))

pub returns-then-not-follows-clause-none : goal.returns-then-not-follows-clause-none
returns-then-not-follows-clause-none c =
    let found = c.in-Some.ensures.found in
    let reading = c.in-Ok-Some.ensures in
    no_item (last_of None c.args.domains.now) c.args.bytes.now c.in-Some.payload.now c.in-Some.rest.now found.0 found.1
    (λ item reads after. c.if-not-follows.ensures.not_after refl (subst (λ (i : Name × BundleValue). IsAfter (last_of None c.args.domains.now) i.0)
    (some_item item c.in-Ok-Some.item (sym reads ∙ rw c.in-Ok-Some.field-0-is at reading)) after))
