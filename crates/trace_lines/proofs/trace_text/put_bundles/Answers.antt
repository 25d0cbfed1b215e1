use Rattle.std.proofs.Common.{◌≡◌, ◌+◌, ◌++◌, drop, sym, ap, ◌∙◌}
use Rattle.std.proofs.lemmas.List.{at_drop_more}
use Rattle.std.specs.List.{flat_map}
use Rattle.trace_lines.specs.TraceText.{bundle_words}
use Rattle.trace_lines.proofs.Writes.{hands_on, goes_on, stops}
use Rattle.trace_lines.proofs.trace_text.put_bundles.Goals as goal

pub returns-in_err-put_bundle : goal.returns-in_err-put_bundle
returns-in_err-put_bundle g c =
    let so = c.loop-item.invariant in
    let rest = flat_map bundle_words (drop (c.loop-item.item-index + 1) c.args.items.now) in
    let cut : flat_map bundle_words (drop c.loop-item.item-index c.args.items.now) ≡ bundle_words c.item-item.result ++ rest =
    at_drop_more (flat_map bundle_words) c.args.items.now c.loop-item.item-index _ c.loop-item-test.true ∙ ap (λ i. bundle_words i ++ rest) (sym c.item-item.is) in
    hands_on c.from_residual.result c.in_err-put_bundle.field-0.0 _ _ _ c.from_residual.ensures.0 c.from_residual.ensures.1 (stops _ _ _ so.0 _ _ _ rest so.1 so.2 cut _ c.in_err-put_bundle.ensures)

pub loop-item-preserved : goal.loop-item-preserved
loop-item-preserved g c =
    let so = c.loop-item.invariant in
    let rest = flat_map bundle_words (drop (c.loop-item.item-index + 1) c.args.items.now) in
    let cut : flat_map bundle_words (drop c.loop-item.item-index c.args.items.now) ≡ bundle_words c.item-item.result ++ rest =
    at_drop_more (flat_map bundle_words) c.args.items.now c.loop-item.item-index _ c.loop-item-test.true ∙ ap (λ i. bundle_words i ++ rest) (sym c.item-item.is) in
    goes_on _ _ _ so.0 _ _ _ rest so.1 so.2 cut c.in_ok-put_bundle.ensures
