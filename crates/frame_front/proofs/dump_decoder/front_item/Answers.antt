use Rattle.std.proofs.Common.{sym, ◌∙◌, subst, refl}
use Rattle.spiffe_doc.specs.Authority.{BundleValue}
use Rattle.map_core.specs.Name.{Name}
use Rattle.map_core.specs.Laws.{IsAfter}
use Rattle.frame_front.proofs.DomainLists.{some_item, none_item}
use Rattle.frame_front.proofs.DecoderLemmas.{never_item, never_item_behind}
use Rattle.frame_front.proofs.dump_decoder.front_item.Goals as goal

pub returns-in-Err : goal.returns-in-Err
returns-in-Err c = never_item_behind c.args.last.now c.args.frames.now c.in-Err.ensures.fails.1

pub returns-in-Ok-None-read_item : goal.returns-in-Ok-None-read_item
returns-in-Ok-None-read_item c =
    let found = rw c.in-Ok-Some.field-0-is at c.in-Ok-Some.ensures.found in
    let reading = rw c.in-Ok-None-read_item.field-0-is at c.in-Ok-None-read_item.ensures in
    never_item c.args.last.now _ c.in-Ok-Some.payload.now _ found.0 found.1 (λ item reads after. none_item item (sym reading ∙ reads))

pub returns-then-not-is_after : goal.returns-then-not-is_after
returns-then-not-is_after c =
    let found = rw c.in-Ok-Some.field-0-is at c.in-Ok-Some.ensures.found in
    let reading = rw c.in-Ok-Some-read_item.field-0-is at c.in-Ok-Some-read_item.ensures in
    never_item c.args.last.now _ c.in-Ok-Some.payload.now _ found.0 found.1
    (λ item reads after. c.if-not-is_after.ensures.not_after refl (subst (λ (i : Name × BundleValue). IsAfter c.args.last.now i.0)
    (some_item item c.in-Ok-Some-read_item.item (sym reads ∙ reading)) after))
