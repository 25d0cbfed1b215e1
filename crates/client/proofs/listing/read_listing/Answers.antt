use Rattle.std.proofs.Common.{rules, ◌≡◌, ◌+◌, ◌++◌, ◌∷◌, [], Some, Err, sym, arith, subst, refl, inl, inr}
use Rattle.std.specs.Prelude.{Option}
use Rattle.std.specs.List.{flat_map}
use Rattle.map_core.specs.Name.{Name}
use Rattle.wire.specs.Answers.{item_frame}
use Rattle.wire.specs.Frame.{frame}
use Rattle.wire.specs.Output.{end_of}
use Rattle.frame_front.specs.Dump.{Domains}
use Rattle.client.specs.declared.client_error.ClientError.TheVariants.{Memory, BadReply}
use Rattle.map_core.specs.Laws.{IsAfter}
use Rattle.client.proofs.ListingLemmas.{Listed, Listed-one, listing_breaks, listing_bad}
use Rattle.client.proofs.ReadingLemmas.{reads_both, stops_at, stops_behind}
use Rattle.client.proofs.listing.read_listing.Goals as goal

pub returns-in_err-payload-clause-err : goal.returns-in_err-payload-clause-err
returns-in_err-payload-clause-err g c =
    let so_far = c.loop-place.invariant.0 in
    let items = c.loop-place.items.items in
    let none = c.in_err-payload.ensures.err in
    let why = c.in_err-payload.field-0.0 in
    let is : c.from_residual.result ≡ Err why = search rules in
    rw is (stops_behind _ _ _ (flat_map item_frame items) so_far.reads _ _ why none (listing_breaks c.args.count items so_far.listing.0 (omega (arith, so_far.listing.2)) why none.read _ none.says))

pub returns-in_err-item-clause-err : goal.returns-in_err-item-clause-err
returns-in_err-item-clause-err g c =
    let is : c.from_residual-in_err-item.result ≡ Err Memory = search rules in
    rw is (stops_at _ Memory _ _ _ (reads_both _ _ _ (flat_map item_frame c.loop-place.items.items) c.loop-place.invariant.0.reads (frame c.in_ok-payload.payload.now) c.in_ok-payload.ensures.ok.1) (inr refl) tt)

pub returns-in_default-clause-err : goal.returns-in_default-clause-err
returns-in_default-clause-err g c =
    let so_far = c.loop-place.invariant.0 in
    let items = c.loop-place.items.items in
    let read = c.in_ok-payload.ensures.ok in
    let none = rw c.in_default.is at c.in_ok-item.ensures.none in
    stops_at _ BadReply _ _ _ (reads_both _ _ _ (flat_map item_frame items) so_far.reads (frame c.in_ok-payload.payload.now) read.1) (inl refl)
    (listing_bad c.args.count items so_far.listing.0 (omega (arith, so_far.listing.2)) c.in_ok-payload.payload.now read.0
    (λ item name valid after. none item name valid (subst (λ (l : Option Name). IsAfter l item.0) (sym so_far.last_is) after)))

pub returns-in_err-copy-clause-err : goal.returns-in_err-copy-clause-err
returns-in_err-copy-clause-err g c =
    let is : c.from_residual-in_err-copy.result ≡ Err Memory = search rules in
    rw is (stops_at _ Memory _ _ _ (reads_both _ _ _ (flat_map item_frame c.loop-place.items.items) c.loop-place.invariant.0.reads (frame c.in_ok-payload.payload.now) c.in_ok-payload.ensures.ok.1) (inr refl) tt)

pub returns-in-Err-clause-err : goal.returns-in-Err-clause-err
returns-in-Err-clause-err g c =
    stops_at _ Memory _ _ _ (reads_both _ _ _ (flat_map item_frame c.loop-place.items.items) c.loop-place.invariant.0.reads (frame c.in_ok-payload.payload.now) c.in_ok-payload.ensures.ok.1) (inr refl) tt

pub loop-place-preserved : goal.loop-place-preserved
loop-place-preserved g c =
    let items = c.loop-place.items.items in
    let item = c.in-Some.item in
    let old = end_of g.R.Read.remaining c.args.reader.now in
    let new = end_of g.R.Read.remaining c.read.new.reader in
    let found = rw c.in-Some.is at c.in_ok-item.ensures.found in
    let one = Listed-one old _ new items c.loop-place.last c.loop-place.place item c.in_ok-payload.payload.now
    c.loop-place.invariant.0 c.in_ok-payload.ensures.ok.1 found.0 found.1 found.2 found.3 in
    let pushed : c.push.new.self.items ≡ items ++ item ∷ [] = c.in_default-push.ensures.items in
    let named : c.in_ok-copy.field-0 ≡ item.0 = c.in_ok-copy.ensures in (
      subst (λ (xs : Domains). Listed old new xs (Some c.in_ok-copy.field-0) (c.loop-place.place + 1)) (sym pushed)
          (subst (λ (n : Name). Listed old new (items ++ item ∷ []) (Some n) (c.loop-place.place + 1)) (sym named) one),
      omega arith,
    )
