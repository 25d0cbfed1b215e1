use Rattle.std.proofs.Common.{◌≡◌, ◌+◌, ◌++◌, ap, sym, ◌∙◌}
use Rattle.std.specs.List.{flat_map}
use Rattle.std.proofs.KnownBytes.{Appends-trans}
use Rattle.std.proofs.lemmas.List.{at_drop_more}
use Rattle.wire.specs.Answers.{item_frame}
use Rattle.frame_front.specs.Private.Pending.{items_left}
use Rattle.frame_front.proofs.GatheredLemmas.{cut_again}
use Rattle.frame_front.proofs.pending.put_pairs.Goals as goal

pub returns-in_err-put-clause-front : goal.returns-in_err-put-clause-front
returns-in_err-put-clause-front g c =
    let so_far = c.loop-place.invariant in
    let pairs = c.args.pairs.now in
    let item = c.index-pairs-place.result in
    let rest = items_left pairs (c.loop-place.place + 1) in
    let step : items_left pairs c.loop-place.place ≡ item_frame item ++ rest =
    at_drop_more (flat_map item_frame) pairs c.loop-place.place item c.loop-place-test.true ∙ ap (λ i. item_frame i ++ rest) (sym c.index-pairs-place.is) in
    let bytes : c.as_slice.result.now ++ c.canonical_text.result.now ≡ item_frame item =
    ap (λ f. f ++ c.canonical_text.result.now) c.as_slice.ensures.value ∙ ap (λ t. c.item_front-front.result.items ++ t) c.canonical_text.ensures.value ∙ c.item_front-front.ensures in
    let wrote = rw bytes at c.in_err-put.ensures.front in
    record {
      front = so_far.0 ++ wrote.front;
      missing = wrote.missing ++ rest;
      split = so_far.2 ∙ ap (λ r. so_far.0 ++ (c.loop-place.ready.items ++ r)) step
          ∙ cut_again so_far.0 c.loop-place.ready.items (item_frame item) rest wrote.front wrote.missing wrote.split;
      appends = Appends-trans _ _ _ so_far.0 wrote.front so_far.1 wrote.appends;
    }

pub loop-place-preserved : goal.loop-place-preserved
loop-place-preserved g c =
    let so_far = c.loop-place.invariant in
    let pairs = c.args.pairs.now in
    let item = c.index-pairs-place.result in
    let rest = items_left pairs (c.loop-place.place + 1) in
    let step : items_left pairs c.loop-place.place ≡ item_frame item ++ rest =
    at_drop_more (flat_map item_frame) pairs c.loop-place.place item c.loop-place-test.true ∙ ap (λ i. item_frame i ++ rest) (sym c.index-pairs-place.is) in
    let bytes : c.as_slice.result.now ++ c.canonical_text.result.now ≡ item_frame item =
    ap (λ f. f ++ c.canonical_text.result.now) c.as_slice.ensures.value ∙ ap (λ t. c.item_front-front.result.items ++ t) c.canonical_text.ensures.value ∙ c.item_front-front.ensures in
    let takes = rw bytes at c.in_ok-put.ensures.ok in (
      so_far.0 ++ takes.sent,
      Appends-trans _ _ _ so_far.0 takes.sent so_far.1 takes.appends,
      so_far.2 ∙ ap (λ r. so_far.0 ++ (c.loop-place.ready.items ++ r)) step
          ∙ cut_again so_far.0 c.loop-place.ready.items (item_frame item) rest takes.sent c.put.new.ready.items takes.split,
      c.in_ok-put.ensures.quiet ∙ so_far.3,
      λ few. c.in_ok-put.ensures.few (so_far.4 few),
    )
