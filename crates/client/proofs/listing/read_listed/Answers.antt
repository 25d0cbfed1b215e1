use Rattle.std.proofs.Common.{◌≡◌, ◌∙◌, ap, subst, Some}
use Rattle.spiffe_doc.specs.Authority.{BundleValue}
use Rattle.map_core.specs.Name.{Name}
use Rattle.wire.specs.Items.{item_of}
use Rattle.map_core.specs.Laws.{IsAfter}
use Rattle.frame_front.proofs.DumpTexts.{item_payload}
use Rattle.client.proofs.ListingLemmas.{no_item_read, same_read}
use Rattle.client.proofs.listing.read_listed.Goals.{else-is_item-via-then-is_item+else-is_after, else-is_item-via-else-is_item}
use Rattle.client.proofs.listing.read_listed.Goals as goal

pub returns-in_default-clause-none : goal.returns-in_default-clause-none
returns-in_default-clause-none c = λ item name valid after same.
    no_item_read c.args.payload.now (c.in_ok-domain.ensures ∙ c.in_default.is) item name valid same

pub returns-else-is_item-clause-none : goal.returns-else-is_item-clause-none
returns-else-is_item-clause-none c = λ item name valid after same.
    let payload = c.args.payload.now in
    let own : Name × BundleValue = (c.in-Some.domain, c.in-Some.bundle) in
    let read : item_of payload ≡ Some own = c.in_ok-domain.ensures ∙ c.in-Some.is in
    let is_own : item ≡ own = same_read payload own read item name valid same in
    elim c.else-is_item.branch [
      | else-is_item-via-then-is_item+else-is_after w ↦ w.is_after.ensures.not_after w.if-is_after.false (subst (λ (i : Name × BundleValue). IsAfter c.args.last.now i.0) is_own after)
      | else-is_item-via-else-is_item w ↦ c.is_item.ensures.no w.if-is_item.false (same ∙ ap item_payload is_own)
    ]
