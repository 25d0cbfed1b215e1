-- Lemmas on the frames of all bundles.
use Rattle.std.proofs.Common.{◌≡◌, ◌≢◌, ℕ, ◌+◌, ◌<◌, List, [], ◌∷◌, ◌++◌, length, map, take, drop, append_assoc, length-append, arith, refl, sym, ap, ◌∙◌, subst, inl, inr, Ok, Some, None}
use Rattle.std.specs.Prelude.{Option}
use Rattle.std.specs.List.{flat_map, AllByRecursion}
use Rattle.std.specs.Int.{w64, to_be_bytes}
use Rattle.std.proofs.lemmas.List.{take_at, flat_map_more}
use Rattle.std.proofs.Math.Seq.{drop-append_seam}
use Rattle.spiffe_doc.specs.Authority.{BundleValue}
use Rattle.spiffe_doc.specs.Bundle.{IsBundle}
use Rattle.spiffe_doc.specs.Name.{IsName}
use Rattle.map_core.specs.Name.{Name}
use Rattle.map_core.specs.declared.op.Op.{Op}
use Rattle.map_core.specs.declared.reply.Reply.TheVariants.{All}
use Rattle.wire.specs.Frame.{IsPayload, IsUnfinished, frame}
use Rattle.wire.specs.Answers.{answer_frames, item_frame}
use Rattle.frame_front.specs.Dump.{Domains, AreValid}
use Rattle.spiffe_doc.specs.Text.{text_of}
use Rattle.wire.specs.Items.{item_in, item_of, unless_refused}
use Rattle.map_core.specs.Laws.{IsAfter, Ascends}
use Rattle.client.specs.Reading.{NoFrame}
use Rattle.client.specs.Answer.{Answer, IsValidAnswer, is_code_for}
use Rattle.client.specs.Client.{Breaks}
use Rattle.client.specs.Private.Answers.{IsCountOfAll}
use Rattle.client.specs.Private.Listing.{IsListing, NoListing, BreaksListing}
use Rattle.client.specs.Private.Reads.{ReadsWhole, ReadsReply}
use Rattle.wire.specs.Output.{End}
use Rattle.client.proofs.ReadingLemmas.{reads_both}
use Rattle.client.specs.declared.client_error.ClientError.{ClientError}
use Rattle.client.specs.declared.client_error.ClientError.TheVariants.{Memory, BadLength, BadReply, Truncated, ReadFault, WriteFault}
use Rattle.wire.proofs.FrameLemmas.{frame_first, none_at_end}
use Rattle.frame_front.specs.Private.Refusals.{last_of}
use Rattle.frame_front.proofs.DomainLists.{last_of-one, Ascends-one, some_item, none_item}
use Rattle.wire.proofs.RequestPayloads.{named_read}
use Rattle.wire.proofs.Readings.{named_bundle-item}
use Rattle.frame_front.proofs.DumpTexts.{item_payload, IsPayload-item, same_item}
use Rattle.client.proofs.MapAnswers.{first_code}

-- ---- domains that were read

-- if more domains begin with the frames of fewer, the next one stands there
items_front : (xs ys : Domains) (rest : List ℕ) → AreValid xs → AreValid ys → length xs < length ys → flat_map item_frame ys ≡ flat_map item_frame xs ++ rest
    → (y : Name × BundleValue) × (more : Domains) × (ys ≡ xs ++ y ∷ more) × (rest ≡ frame (item_payload y) ++ flat_map item_frame more)
items_front [] [] rest vx vy less same = absurd (omega (arith, less))
items_front [] (y ∷ ys) rest vx vy less same = (y, ys, refl, sym same)
items_front (x ∷ xs) [] rest vx vy less same = absurd (omega (arith, less))
items_front (x ∷ xs) (y ∷ ys) rest vx vy less same =
    let first = frame_first (item_payload y) (item_payload x) (flat_map item_frame ys) (flat_map item_frame xs ++ rest)
    (IsPayload-item y vy.0.0 vy.0.1) (IsPayload-item x vx.0.0 vx.0.1) (same ∙ append_assoc (item_frame x) (flat_map item_frame xs) rest) in
    let item : y ≡ x = same_item y x vy.0.1 vx.0.1 first.0 in
    let others = items_front xs ys rest vx.1 vy.1 (omega (arith, less)) first.1 in
    (others.0, others.1, λ i. item i ∷ others.2 i, others.3)

valid_at : (xs : Domains) (y : Name × BundleValue) (more : Domains) → AreValid (xs ++ y ∷ more) → IsName y.0 × IsBundle y.1
valid_at [] y more valid = valid.0
valid_at (x ∷ xs) y more valid = valid_at xs y more valid.1

ascends_at : (last : Option Name) (xs : Domains) (y : Name × BundleValue) (more : Domains) → Ascends last (xs ++ y ∷ more) → IsAfter (last_of last xs) y.0
ascends_at last [] y more ascending = ascending.0
ascends_at last (x ∷ xs) y more ascending = ascends_at (Some x.0) xs y more ascending.1

flat_items : (xs : Domains) → flat_map item_frame xs ≡ flat_map frame (map item_payload xs)
flat_items [] = refl
flat_items (x ∷ xs) = ap (λ r. item_frame x ++ r) (flat_items xs)

each_item : (xs : Domains) → AreValid xs → AllByRecursion IsPayload (map item_payload xs)
each_item [] valid = tt
each_item (x ∷ xs) valid = (IsPayload-item x valid.0.0 valid.0.1, each_item xs valid.1)

module _ (count : ℕ) (items : Domains) (valid : AreValid items) (fewer : length items < count) where
  listing_cut : (cut : List ℕ) → IsUnfinished cut → NoListing count (flat_map item_frame items ++ cut)
  listing_cut cut unfinished others all same =
      let front = items_front items others cut valid all.0 (omega (arith, fewer, all.2)) same in
      let next = valid_at items front.0 front.1 (subst AreValid front.2 all.0) in
      none_at_end (item_payload front.0) (flat_map item_frame front.1) cut (IsPayload-item front.0 next.0 next.1) front.3 (inl unfinished)

  -- if no frame was read, the next domain was not
  pub listing_breaks : (why : ClientError) (cut : List ℕ) (left : Option (List ℕ)) → NoFrame why cut left → BreaksListing count why (flat_map item_frame items ++ cut) left
  listing_breaks Truncated cut left none = (listing_cut cut none.0, none.1)
  listing_breaks ReadFault cut left none = listing_cut cut none
  listing_breaks BadLength cut left none =
      (map item_payload items, cut, record { whole = ap (λ f. f ++ cut) (flat_items items); each = each_item items valid; ends = inr none.0 }, none.0)
  listing_breaks BadReply cut left none = absurd none
  listing_breaks WriteFault cut left none = absurd none
  listing_breaks Memory cut left none = absurd none

  -- a payload of no next domain
  pub listing_bad : (payload : List ℕ) → IsPayload payload
      → ((item : Name × BundleValue) → IsName item.0 → IsBundle item.1 → IsAfter (last_of None items) item.0 → payload ≢ item_payload item)
      → (rest : List ℕ) → NoListing count ((flat_map item_frame items ++ frame payload) ++ rest)
  listing_bad payload good none rest others all same =
      let front = items_front items others (frame payload ++ rest) valid all.0 (omega (arith, fewer, all.2)) (same ∙ append_assoc (flat_map item_frame items) (frame payload) rest) in
      let next = valid_at items front.0 front.1 (subst AreValid front.2 all.0) in
      let first = frame_first payload (item_payload front.0) rest (flat_map item_frame front.1) good (IsPayload-item front.0 next.0 next.1) front.3 in
      none front.0 next.0 next.1 (ascends_at None items front.0 front.1 (subst (Ascends None) front.2 all.1)) first.0

pub valid_more : (xs : Domains) (y : Name × BundleValue) → AreValid xs → IsName y.0 → IsBundle y.1 → AreValid (xs ++ y ∷ [])
valid_more [] y valid name sound = ((name, sound), tt)
valid_more (x ∷ xs) y valid name sound = (valid.0, valid_more xs y valid.1 name sound)

-- bytes that are two parts, cut where the first ends
pub joined_parts : (bytes first others : List ℕ) → bytes ≡ first ++ others → (take (length first) bytes ≡ first) × (drop (length first) bytes ≡ others)
joined_parts bytes first others same =
    (ap (take (length first)) same ∙ take_at first others (length first) refl, ap (drop (length first)) same ∙ drop-append_seam first others)

-- the payload of a valid domain is read as that domain
item_of-payload : (y : Name × BundleValue) → IsName y.0 → IsBundle y.1 → item_of (item_payload y) ≡ Some y
unfolding item_of
item_of-payload y name sound = ap item_in (named_read y.0 (text_of y.1)) ∙ ap unless_refused (named_bundle-item y.0 y.1 name sound)

-- if no domain is read, none stands
pub no_item_read : (payload : List ℕ) → item_of payload ≡ None → (y : Name × BundleValue) → IsName y.0 → IsBundle y.1 → payload ≢ item_payload y
no_item_read payload none y name sound same = none_item y (sym none ∙ ap item_of same ∙ item_of-payload y name sound)

-- if another text of a domain is read, none stands
pub same_read : (payload : List ℕ) (x : Name × BundleValue) → item_of payload ≡ Some x → (y : Name × BundleValue) → IsName y.0 → IsBundle y.1 → payload ≡ item_payload y → y ≡ x
same_read payload x read y name sound same = some_item y x (sym (item_of-payload y name sound) ∙ sym (ap item_of same) ∙ read)

-- What was read so far: the frames of valid domains, in order of their names, and the last name.
pub record Listed (old new : End) (items : Domains) (last : Option Name) (place : ℕ) : Type 0 where
  pub listing : IsListing place items
  pub reads : ReadsWhole old new (flat_map item_frame items)
  pub last_is : last ≡ last_of None items

-- one domain more
pub Listed-one : (old mid new : End) (items : Domains) (last : Option Name) (place : ℕ) (y : Name × BundleValue) (payload : List ℕ) → Listed old mid items last place
    → ReadsWhole mid new (frame payload) → frame payload ≡ item_frame y → IsAfter last y.0 → IsName y.0 → IsBundle y.1
    → Listed old new (items ++ y ∷ []) (Some y.0) (place + 1)
Listed-one old mid new items last place y payload listed took same after name sound = record {
  listing = (
    valid_more items y listed.listing.0 name sound,
    Ascends-one None items y listed.listing.1 (subst (λ (l : Option Name). IsAfter l y.0) listed.last_is after),
    omega (arith, listed.listing.2, length-append items (y ∷ [])),
  );
  reads = subst (ReadsWhole old new) (ap (λ f. flat_map item_frame items ++ f) same ∙ flat_map_more item_frame [] items y) (reads_both old mid new (flat_map item_frame items) listed.reads (frame payload) took);
  last_is = sym (last_of-one None items y);
}

-- ---- the whole reply

module _ (op : Op) (payload : List ℕ) (good : IsPayload payload) (count : ℕ) (begins : IsCountOfAll op payload count) where
  -- an answer that begins with the number has so many domains
  all_listing : (a : Answer) (read : List ℕ) → IsValidAnswer a → answer_frames a ≡ frame payload ++ read
      → (items : Domains) × IsListing count items × (flat_map item_frame items ≡ read)
  all_listing a read valid same =
      let is = begins.only a read valid same in
      let sound : IsValidAnswer (Ok (All is.0)) = subst IsValidAnswer is.1 valid in
      let head : 97 ∷ to_be_bytes w64 (length is.0) ≡ payload = ap (λ n. 97 ∷ to_be_bytes w64 n) is.2 ∙ sym begins.is in
      let first = frame_first payload payload (flat_map item_frame is.0) read good good (ap (λ p. frame p ++ flat_map item_frame is.0) (sym head) ∙ ap answer_frames (sym is.1) ∙ same) in
      (is.0, (sound.0, sound.1, is.2), first.1)

  pub all_breaks : (why : ClientError) (read : List ℕ) (left : Option (List ℕ)) → BreaksListing count why read left
      → Breaks op answer_frames why (frame payload ++ read) left
  all_breaks Truncated read left breaks =
      (λ a may sound same. let l = all_listing a read sound same in breaks.0 l.0 l.1 l.2, breaks.1)
  all_breaks ReadFault read left breaks = λ a may sound same. let l = all_listing a read sound same in breaks l.0 l.1 l.2
  all_breaks BadReply read left breaks = λ rest a may sound same.
      let l = all_listing a (read ++ rest) sound (same ∙ append_assoc (frame payload) read rest) in breaks rest l.0 l.1 l.2
  all_breaks BadLength read left breaks = (
    payload ∷ breaks.0,
    breaks.1,
    record {
      whole = ap (λ r. frame payload ++ r) breaks.2.whole ∙ sym (append_assoc (frame payload) (flat_map frame breaks.0) breaks.1);
      each = (good, breaks.2.each);
      ends = breaks.2.ends;
    },
    breaks.3,
  )
  all_breaks WriteFault read left breaks = absurd breaks
  all_breaks Memory read left breaks = tt

  -- all bundles are read
  pub is_all : (items : Domains) (old mid new : End) → IsListing count items → ReadsWhole old mid (frame payload) → ReadsWhole mid new (flat_map item_frame items)
      → ReadsReply op answer_frames (Ok (Ok (All items))) old new
  is_all items old mid new listing number frames = (
    ap (is_code_for op) (first_code 97 (to_be_bytes w64 (length items)) (flat_map item_frame items)) ∙ begins.may,
    (listing.0, listing.1, omega (arith, listing.2, begins.fits)),
    subst (ReadsWhole old new) (ap (λ p. frame p ++ flat_map item_frame items) (begins.is ∙ ap (λ n. 97 ∷ to_be_bytes w64 n) (sym listing.2)))
        (reads_both old mid new (frame payload) number (flat_map item_frame items) frames),
  )
