-- Lemmas on dumps that come in pieces.
use Rattle.std.proofs.Common.{◌≡◌, ◌≢◌, ◌⊎◌, ℕ, zero, suc, ◌+◌, ◌<◌, ◌≤◌, List, [], ◌∷◌, ◌++◌, length, take, drop, append-nil, append_assoc, length-append, arith, refl, sym, ap, ◌∙◌, inl, inr, subst, Some, None}
use Rattle.std.specs.Prelude.{Option}
use Rattle.std.specs.Int.{w32, from_be_bytes}
use Rattle.std.specs.List.{flat_map}
use Rattle.std.proofs.lemmas.List.{take-append-le}
use Rattle.spiffe_doc.specs.Authority.{BundleValue}
use Rattle.spiffe_doc.specs.Bundle.{IsBundle}
use Rattle.map_core.specs.Name.{Name}
use Rattle.map_core.specs.Laws.{IsAfter}
use Rattle.wire.specs.Frame.{IsPayload, IsUnfinished, IsBadLength, IsGoodLength, frame, length_field}
use Rattle.wire.specs.Items.{item_of}
use Rattle.wire.proofs.FrameLemmas.{none_at_end, length-frame}
use Rattle.frame_front.specs.Dump.{Domains, HaveValidBundles, IsBadDump, IsDump, count_of}
use Rattle.frame_front.specs.DumpDecoder.{HasNone, IsAt}
use Rattle.frame_front.specs.Private.DumpReading.{AreBytes, HasRead, IsSpoilt, StandsFirst}
use Rattle.frame_front.specs.Private.Refusals.{NoItem, NoCount, last_of}
use Rattle.frame_front.specs.declared.dump_decoder.Stage.{Stage}
use Rattle.frame_front.specs.declared.dump_decoder.Stage.TheVariants.{Head, Items, Spoilt}
use Rattle.frame_front.proofs.DomainLists.{last_of-one}
use Rattle.frame_front.proofs.DumpLemmas.{HasRead-none, HasRead-then, HasRead-whole, HasRead-bound, wrong_next, too_much, bad_head, no_count, no_item}

pub AreBytes-append : (xs ys : List ℕ) → AreBytes xs → AreBytes ys → AreBytes (xs ++ ys)
AreBytes-append [] ys front back i = back i
AreBytes-append (x ∷ xs) ys front back zero = front 0
AreBytes-append (x ∷ xs) ys front back (suc i) = AreBytes-append xs ys (λ j. front (suc j)) back i

-- more bytes behind what is left
HasRead-fed : (came kept piece : List ℕ) (count place : ℕ) (items : Domains) → HasRead came count kept place items → HasRead (came ++ piece) count (kept ++ piece) place items
HasRead-fed came kept piece count place items so_far = record {
  head = so_far.head;
  payloads = so_far.payloads;
  whole = ap (λ xs. xs ++ piece) so_far.whole ∙ append_assoc (flat_map frame (so_far.head ∷ so_far.payloads)) kept piece;
  each = so_far.each;
  counted = so_far.counted;
  read = so_far.read;
  ascending = so_far.ascending;
  valid = so_far.valid;
  placed = so_far.placed;
}

pub IsAt-fed : (stage : Stage) (came kept piece : List ℕ) (place : ℕ) (last : Option Name) (items : Domains) → AreBytes piece
    → IsAt stage came kept place last items → IsAt stage (came ++ piece) (kept ++ piece) place last items
IsAt-fed Head came kept piece place last items bytes at = (ap (λ k. k ++ piece) at.0, at.1, at.2, at.3)
IsAt-fed (Items count) came kept piece place last items bytes at = (HasRead-fed came kept piece count place items at.0, at.1, at.2)
IsAt-fed (Spoilt wrong) came kept piece place last items bytes at = λ more fits.
    subst (λ xs. IsBadDump xs wrong) (sym (append_assoc came piece more)) (at (piece ++ more) (AreBytes-append piece more bytes fits))

pub IsAt-same : (stage other : Stage) (came kept : List ℕ) (place : ℕ) (last : Option Name) (items : Domains) → stage ≡ other
    → IsAt stage came kept place last items → IsAt other came kept place last items
IsAt-same stage other came kept place last items same at = subst (λ s. IsAt s came kept place last items) same at

pub spoilt-fed : (stage : Stage) (wrong : ℕ) (came kept piece : List ℕ) (place : ℕ) (last : Option Name) (items : Domains) → stage ≡ Spoilt wrong → AreBytes piece
    → IsAt stage came kept place last items → IsAt stage (came ++ piece) kept place last items
spoilt-fed stage wrong came kept piece place last items same bytes at =
    IsAt-same (Spoilt wrong) stage (came ++ piece) kept place last items (sym same)
    (IsAt-fed (Spoilt wrong) came kept piece place last items bytes (IsAt-same stage (Spoilt wrong) came kept place last items same at))

pub HasNone-same : (stage other : Stage) (kept : List ℕ) (place : ℕ) → stage ≡ other → HasNone stage kept place → HasNone other kept place
HasNone-same stage other kept place same none = subst (λ s. HasNone s kept place) same none

pub long_some : (xs : List ℕ) → 0 < length xs → xs ≢ []
long_some [] some same = absurd (omega (arith, some))
long_some (x ∷ xs) some same = cc same

-- what stands first stands there still when more follows
stands_still : (kept payload rest more : List ℕ) → kept ≡ frame payload ++ rest → kept ++ more ≡ frame payload ++ (rest ++ more)
stands_still kept payload rest more stands = ap (λ k. k ++ more) stands ∙ append_assoc (frame payload) rest more

pub never_count : (kept payload rest : List ℕ) → IsPayload payload → kept ≡ frame payload ++ rest → count_of payload ≡ None → (more : List ℕ) → NoCount (kept ++ more)
never_count kept payload rest good stands none more = no_count (kept ++ more) payload (rest ++ more) good (stands_still kept payload rest more stands) none

pub never_item : (last : Option Name) (kept payload rest : List ℕ) → IsPayload payload → kept ≡ frame payload ++ rest
    → ((item : Name × BundleValue) → item_of payload ≡ Some item → IsAfter last item.0 → ⊥) → (more : List ℕ) → NoItem last (kept ++ more)
never_item last kept payload rest good stands none more =
    no_item last (kept ++ more) payload (rest ++ more) good (stands_still kept payload rest more stands) none

-- a bad length stays one
bad_still : (kept more : List ℕ) → IsBadLength kept → IsBadLength (kept ++ more)
unfolding length_field
bad_still kept more stop =
    let long : 4 ≤ length kept = stop.has_length in
    let same : take 4 (kept ++ more) ≡ take 4 kept = rw take-append-le in
    record {
      has_length = omega (arith, long, length-append kept more);
      bad = λ good. stop.bad (subst IsGoodLength (ap (from_be_bytes w32) same) good);
    }

pub no_count_at_end : (bytes : List ℕ) → IsUnfinished bytes ⊎ IsBadLength bytes → NoCount bytes
no_count_at_end bytes ends = λ payload rest good stands. absurd (none_at_end payload rest bytes good stands ends)

pub no_item_at_end : (last : Option Name) (bytes : List ℕ) → IsUnfinished bytes ⊎ IsBadLength bytes → NoItem last bytes
no_item_at_end last bytes ends = λ payload rest item good stands reads. absurd (none_at_end payload rest bytes good stands ends)

pub never_count_behind : (kept : List ℕ) → IsBadLength kept → (more : List ℕ) → NoCount (kept ++ more)
never_count_behind kept stop more = no_count_at_end (kept ++ more) (inr (bad_still kept more stop))

pub never_item_behind : (last : Option Name) (kept : List ℕ) → IsBadLength kept → (more : List ℕ) → NoItem last (kept ++ more)
never_item_behind last kept stop more = no_item_at_end last (kept ++ more) (inr (bad_still kept more stop))

-- a frame that stands first is kept whole
pub frame_kept : (bytes payload : List ℕ) (size : ℕ) → StandsFirst bytes payload size → 4 + size ≤ length bytes
frame_kept bytes payload size first =
    omega (arith, first.sized, ap length first.stands, length-frame payload (drop (4 + size) bytes), length-append payload (drop (4 + size) bytes))

-- ---- the steps

pub count_taken : (came kept payload rest : List ℕ) (count place : ℕ) (last : Option Name) (items : Domains)
    → IsAt Head came kept place last items → IsPayload payload → kept ≡ frame payload ++ rest → count_of payload ≡ Some count
    → IsAt (Items count) came rest place last items
count_taken came kept payload rest count place last items at good stands counted =
    let read : HasRead came count rest 0 [] = HasRead-none came payload rest count good (sym at.0 ∙ stands) counted in
    let named : last ≡ last_of None items = at.3 ∙ sym (ap (last_of None) at.1) in
    let placed : HasRead came count rest place [] = subst (λ (n : ℕ). HasRead came count rest n []) (sym at.2) read in
    (subst (λ (xs : Domains). HasRead came count rest place xs) (sym at.1) placed, named, omega (arith, at.2))

pub head_spoilt : (came kept : List ℕ) (place : ℕ) (last : Option Name) (items : Domains) → AreBytes came
    → IsAt Head came kept place last items → ((more : List ℕ) → NoCount (kept ++ more)) → IsSpoilt came 0
head_spoilt came kept place last items bytes at wrong = λ more fits.
    bad_head (came ++ more) (AreBytes-append came more bytes fits) (subst (λ k. NoCount (k ++ more)) at.0 (wrong more))

some_still : (kept more : List ℕ) → kept ≢ [] → kept ++ more ≢ []
some_still [] more some same = some refl
some_still (x ∷ kept) more some same = cc same

module _ (came kept : List ℕ) (count place : ℕ) (last : Option Name) (items : Domains) (bytes : AreBytes came)
    (at : IsAt (Items count) came kept place last items) where
  pub more_spoils : place ≡ count → kept ≢ [] → IsSpoilt came (place + 1)
  more_spoils full some = λ more fits.
      too_much (came ++ more) count (kept ++ more) place items (HasRead-fed came kept more count place items at.0)
      (AreBytes-append came more bytes fits) full (some_still kept more some)

  pub wrong_spoils : place ≢ count → ((more : List ℕ) → NoItem last (kept ++ more)) → IsSpoilt came (place + 1)
  wrong_spoils short wrong = λ more fits.
      wrong_next (came ++ more) count (kept ++ more) place items (HasRead-fed came kept more count place items at.0)
      (AreBytes-append came more bytes fits) (omega (arith, short, at.2)) (subst (λ l. NoItem l (kept ++ more)) at.1 (wrong more))

  pub item_taken : (payload rest : List ℕ) (item : Name × BundleValue) → place ≢ count → IsPayload payload → kept ≡ frame payload ++ rest
      → item_of payload ≡ Some item → IsAfter last item.0 → IsBundle item.1
      → IsAt (Items count) came rest (place + 1) (Some item.0) (items ++ item ∷ [])
  item_taken payload rest item short good stands reads after valid = (
    HasRead-then came count kept place items at.0 payload rest item (place + 1) (items ++ item ∷ []) good stands reads
        (subst (λ l. IsAfter l item.0) at.1 after) valid refl refl,
    sym (last_of-one None items item),
    omega (arith, short, at.2),
  )

  -- the place is no more than what came
  pub place_below : place < length came
  place_below = HasRead-bound came count kept place items at.0

  pub taken_whole : place ≡ count → kept ≡ [] → IsDump came items × HaveValidBundles items
  taken_whole full none = (HasRead-whole came count kept place items at.0 full none, at.0.valid)

  pub ended_short : place ≢ count → IsUnfinished kept → IsBadDump came (place + 1)
  ended_short short unfinished =
      wrong_next came count kept place items at.0 bytes (omega (arith, short, at.2))
      (subst (λ l. NoItem l kept) at.1 (no_item_at_end last kept (inl unfinished)))

  pub ended_long : place ≡ count → kept ≢ [] → IsBadDump came (place + 1)
  ended_long full some = too_much came count kept place items at.0 bytes full some

pub ended_at_head : (came kept : List ℕ) (place : ℕ) (last : Option Name) (items : Domains) → AreBytes came
    → IsAt Head came kept place last items → IsUnfinished kept → IsBadDump came 0
ended_at_head came kept place last items bytes at unfinished =
    bad_head came bytes (subst NoCount at.0 (no_count_at_end kept (inl unfinished)))

pub ended_spoilt : (came : List ℕ) (wrong : ℕ) → IsSpoilt came wrong → IsBadDump came wrong
ended_spoilt came wrong spoilt = subst (λ xs. IsBadDump xs wrong) (append-nil came) (spoilt [] (λ i. omega arith))
