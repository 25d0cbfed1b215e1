-- Lemmas on dumps.
use Rattle.std.proofs.Common.{◌≡◌, ◌≢◌, ◌⊎◌, ℕ, ◌+◌, ◌<◌, ◌≤◌, List, [], ◌∷◌, ◌++◌, length, get_or, get_or-drop, drop, append-nil, append_assoc, length-append, arith, refl, sym, ap, ◌∙◌, inl, inr, subst, Some, None}
use Rattle.std.specs.Prelude.{Option}
use Rattle.std.specs.List.{AllByRecursion, flat_map}
use Rattle.spiffe_doc.specs.Authority.{BundleValue}
use Rattle.spiffe_doc.specs.Bundle.{IsBundle}
use Rattle.map_core.specs.Name.{Name}
use Rattle.wire.specs.Frame.{IsPayload, HasFrames, frame, stream_of}
use Rattle.frame_front.specs.Dump.{Domains, count_of, ReadsItems, IsDump, IsDumpFront, IsBadDump}
use Rattle.wire.specs.Items.{item_of}
use Rattle.frame_front.specs.Private.DumpReading.{HasRead}
use Rattle.frame_front.specs.Private.Refusals.{NoItem, NoCount, last_of}
use Rattle.map_core.specs.Laws.{IsAfter, Ascends}
use Rattle.std.proofs.Math.Seq.{drop-append_seam}
use Rattle.std.proofs.lemmas.Bool.Decides.{nat_tests}
use Rattle.std.specs.Prelude.{◌==◌, true, false}
use Rattle.wire.proofs.FrameLemmas.{frames_unique, frame_first}
use Rattle.wire.proofs.FramesExist.{frames, has_frames}
use Rattle.frame_front.proofs.SessionLemmas.{stream_of-append, each-append, fewer_than_bytes}
use Rattle.frame_front.proofs.DomainLists.{cons_head, cons_tail, ReadsItems-length, ReadsItems-one, Ascends-one, valid-one, stream-one}

-- what follows the domains read is one more, if the payloads are read further
next_read : (ps : List (List ℕ)) (items others : Domains) (p : List ℕ) (more : List (List ℕ)) (last : Option Name)
    → ReadsItems ps items → ReadsItems (ps ++ p ∷ more) others → Ascends last others
    → (item : Name × BundleValue) × (item_of p ≡ Some item) × IsAfter (last_of last items) item.0
next_read [] [] [] p more last read further ascending = absurd further
next_read [] [] (o ∷ os) p more last read further ascending = (o, further.0, ascending.0)
next_read [] (i ∷ is) others p more last read further ascending = absurd read
next_read (q ∷ ps) [] others p more last read further ascending = absurd read
next_read (q ∷ ps) (i ∷ is) [] p more last read further ascending = absurd further
next_read (q ∷ ps) (i ∷ is) (o ∷ os) p more last read further ascending =
    let same : o ≡ i = some_same o i (sym further.0 ∙ read.0) in
    next_read ps is os p more (Some i.0) read.1 further.1 (subst (λ (x : Name × BundleValue). Ascends (Some x.0) os) same ascending.1)
  where
    some_same : (a b : Name × BundleValue) → Some a ≡ Some b → a ≡ b
    some_same a b same = cc

some_count : (a b : ℕ) → Some a ≡ Some b → a ≡ b
some_count a b same = cc

-- the frames of the dump are those read, and those of the rest
HasRead-frames : (dump : List ℕ) (head : List ℕ) (payloads ps : List (List ℕ)) (rest r : List ℕ) → dump ≡ stream_of (head ∷ payloads) rest
    → AllByRecursion IsPayload (head ∷ payloads) → HasFrames rest ps r → HasFrames dump ((head ∷ payloads) ++ ps) r
HasRead-frames dump head payloads ps rest r whole each framed = record {
  whole = whole ∙ ap (stream_of (head ∷ payloads)) framed.whole ∙ sym (stream_of-append (head ∷ payloads) ps r);
  each = each-append (head ∷ payloads) ps each framed.each;
  ends = framed.ends;
}

module _ (dump : List ℕ) (count : ℕ) (rest : List ℕ) (place : ℕ) (items : Domains) (so_far : HasRead dump count rest place items) where
  front_good : place ≤ count → IsDumpFront (so_far.head ∷ so_far.payloads)
  front_good few = (count, items, so_far.counted, so_far.read, so_far.ascending, omega (arith, so_far.placed))

  -- a dump has these frames, and then those of the rest
  dump_is : (ps : List (List ℕ)) (r : List ℕ) (others : Domains) → HasFrames rest ps r → IsDump dump others
      → (length others ≡ count) × (r ≡ []) × ReadsItems (so_far.payloads ++ ps) others
  dump_is ps r others framed other =
      let same = frames_unique dump (other.head ∷ other.payloads) ((so_far.head ∷ so_far.payloads) ++ ps) [] r other.framed
      (HasRead-frames dump so_far.head so_far.payloads ps rest r so_far.whole so_far.each framed) in
      let heads : other.head ≡ so_far.head = cons_head other.head so_far.head _ _ same.0 in
      let tails : other.payloads ≡ so_far.payloads ++ ps = cons_tail other.head so_far.head _ _ same.0 in
      (some_count (length others) count (sym other.counted ∙ ap count_of heads ∙ so_far.counted), sym same.1, subst (λ qs. ReadsItems qs others) tails other.read)

  -- no further domain is read if none stands
  none_further : NoItem (last_of None items) rest → (p : List ℕ) (more : List (List ℕ)) (r : List ℕ) (others : Domains) → HasFrames rest (p ∷ more) r
      → ReadsItems (so_far.payloads ++ p ∷ []) others ⊎ ReadsItems (so_far.payloads ++ p ∷ more) others → Ascends None others → ⊥
  none_further wrong p more r others framed further ascending =
      let next : (item : Name × BundleValue) × (item_of p ≡ Some item) × IsAfter (last_of None items) item.0 = elim further [
        | inl one ↦ next_read so_far.payloads items others p [] None so_far.read one ascending
        | inr all ↦ next_read so_far.payloads items others p more None so_far.read all ascending
      ] in
      wrong p (stream_of more r) next.0 framed.each.0 (framed.whole ∙ append_assoc (frame p) (flat_map frame more) r) next.1 next.2

  -- the next frame is wrong, or missing
  module _ (dump_fits : (i : ℕ) → get_or dump i 0 < 256) where
    fits : (i : ℕ) → get_or rest i 0 < 256
    fits i =
        let front = flat_map frame (so_far.head ∷ so_far.payloads) in
        let is : rest ≡ drop (length front) dump = sym (drop-append_seam front rest) ∙ ap (drop (length front)) (sym so_far.whole) in
        subst (λ r. get_or r i 0 < 256) (sym is) (rw get_or-drop (dump_fits (length front + i)))

    pub wrong_next : place < count → NoItem (last_of None items) rest → IsBadDump dump (place + 1)
    wrong_next few wrong =
        let others = (frames rest).payloads in
        let framed = has_frames rest fits in record {
          front = so_far.head ∷ so_far.payloads;
          others = others;
          rest = (frames rest).rest;
          framed = HasRead-frames dump so_far.head so_far.payloads others rest (frames rest).rest so_far.whole so_far.each framed;
          placed = omega (arith, so_far.placed, ReadsItems-length so_far.payloads items so_far.read);
          good = front_good (omega (arith, few));
          bad = λ p more is front.
              none_further wrong p more (frames rest).rest front.1 (subst (λ ps. HasFrames rest ps (frames rest).rest) is framed) (inl front.3) front.4;
          none = λ found other. missing_next others (frames rest).rest framed found other few wrong;
        }
      where
        missing_next : (ps : List (List ℕ)) (r : List ℕ) → HasFrames rest ps r → (found : Domains) → IsDump dump found → place < count → NoItem (last_of None items) rest → ⊥
        missing_next [] r framed found other few wrong =
            let is = dump_is [] r found framed other in
            absurd (omega (
              arith,
              few,
              is.0,
              so_far.placed,
              ReadsItems-length so_far.payloads items so_far.read,
              ReadsItems-length (so_far.payloads ++ []) found is.2,
              length-append so_far.payloads [],
            ))
        missing_next (p ∷ more) r framed found other few wrong =
            let is = dump_is (p ∷ more) r found framed other in
            none_further wrong p more r found framed (inr is.2) other.ascending

    -- something follows the last domain
    pub too_much : place ≡ count → rest ≢ [] → IsBadDump dump (place + 1)
    too_much full some =
        let others = (frames rest).payloads in
        let framed = has_frames rest fits in record {
          front = so_far.head ∷ so_far.payloads;
          others = others;
          rest = (frames rest).rest;
          framed = HasRead-frames dump so_far.head so_far.payloads others rest (frames rest).rest so_far.whole so_far.each framed;
          placed = omega (arith, so_far.placed, ReadsItems-length so_far.payloads items so_far.read);
          good = front_good (omega (arith, full));
          bad = λ p more is front.
              let same : front.0 ≡ count = some_count front.0 count (sym front.2 ∙ so_far.counted) in
              absurd (omega (
                arith,
                full,
                same,
                front.5,
                so_far.placed,
                ReadsItems-length so_far.payloads items so_far.read,
                ReadsItems-length (so_far.payloads ++ p ∷ []) front.1 front.3,
                length-append so_far.payloads (p ∷ []),
              ));
          none = λ found other. more_follows others (frames rest).rest framed found other full some;
        }
      where
        more_follows : (ps : List (List ℕ)) (r : List ℕ) → HasFrames rest ps r → (found : Domains) → IsDump dump found → place ≡ count → rest ≢ [] → ⊥
        more_follows [] r framed found other full some =
            let is = dump_is [] r found framed other in
            some (framed.whole ∙ is.1)
        more_follows (p ∷ more) r framed found other full some =
            let is = dump_is (p ∷ more) r found framed other in
            absurd (omega (
              arith,
              full,
              is.0,
              so_far.placed,
              ReadsItems-length so_far.payloads items so_far.read,
              ReadsItems-length (so_far.payloads ++ p ∷ more) found is.2,
              length-append so_far.payloads (p ∷ more),
            ))

  -- one more domain
  pub HasRead-then : (payload rest_new : List ℕ) (item : Name × BundleValue) (place_new : ℕ) (items_new : Domains) → IsPayload payload → rest ≡ frame payload ++ rest_new
      → item_of payload ≡ Some item → IsAfter (last_of None items) item.0 → IsBundle item.1 → items_new ≡ items ++ item ∷ []
      → place_new ≡ place + 1 → HasRead dump count rest_new place_new items_new
  HasRead-then payload rest_new item place_new items_new good stands reads after valid added placed =
      subst (HasRead dump count rest_new place_new) (sym added) (record {
        head = so_far.head;
        payloads = so_far.payloads ++ payload ∷ [];
        whole = so_far.whole ∙ ap (stream_of (so_far.head ∷ so_far.payloads)) stands ∙ sym (stream-one (so_far.head ∷ so_far.payloads) payload rest_new);
        each = each-append (so_far.head ∷ so_far.payloads) (payload ∷ []) so_far.each (good, tt);
        counted = so_far.counted;
        read = ReadsItems-one so_far.payloads items payload item so_far.read reads;
        ascending = Ascends-one None items item so_far.ascending after;
        valid = valid-one items item so_far.valid valid;
        placed = omega (arith, placed, so_far.placed, length-append items (item ∷ []));
      })

  -- all domains are read
  pub HasRead-whole : place ≡ count → rest ≡ [] → IsDump dump items
  HasRead-whole full none = record {
    head = so_far.head;
    payloads = so_far.payloads;
    framed = record {
      whole = so_far.whole ∙ ap (stream_of (so_far.head ∷ so_far.payloads)) none;
      each = so_far.each;
      ends = inl (record { good = λ h. absurd (omega (arith, h)); short = λ h. absurd (omega (arith, h)) });
    };
    counted = so_far.counted ∙ ap Some (sym full ∙ so_far.placed);
    read = so_far.read;
    ascending = so_far.ascending;
  }

  -- the place is no more than the bytes
  pub HasRead-bound : place < length dump
  HasRead-bound = omega (arith, so_far.placed, ReadsItems-length so_far.payloads items so_far.read, fewer_than_bytes (so_far.head ∷ so_far.payloads) rest, ap length so_far.whole)

-- only the count is read
pub HasRead-none : (dump head rest : List ℕ) (count : ℕ) → IsPayload head → dump ≡ frame head ++ rest → count_of head ≡ Some count → HasRead dump count rest 0 []
HasRead-none dump head rest count good stands counted = record {
  head = head;
  payloads = [];
  whole = stands ∙ ap (λ f. f ++ rest) (sym (append-nil (frame head)));
  each = (good, tt);
  counted = counted;
  read = tt;
  ascending = tt;
  valid = tt;
  placed = refl;
}

none_some : (c : ℕ) → None ≡ Some c → ⊥
none_some c same = cc

-- a frame that reads so is the one that stands first
pub no_count : (bytes head rest : List ℕ) → IsPayload head → bytes ≡ frame head ++ rest → count_of head ≡ None → NoCount bytes
no_count bytes head rest good stands none = λ p r good_p same. ap count_of (sym (frame_first head p rest r good good_p (sym stands ∙ same)).0) ∙ none

pub no_item : (last : Option Name) (bytes head rest : List ℕ) → IsPayload head → bytes ≡ frame head ++ rest
    → ((item : Name × BundleValue) → item_of head ≡ Some item → IsAfter last item.0 → ⊥) → NoItem last bytes
no_item last bytes head rest good stands none = λ p r item good_p same reads after.
    none item (ap item_of (frame_first head p rest r good good_p (sym stands ∙ same)).0 ∙ reads) after

-- no count stands first
pub bad_head : (dump : List ℕ) → ((i : ℕ) → get_or dump i 0 < 256) → NoCount dump → IsBadDump dump 0
bad_head dump fits wrong =
    let framed = has_frames dump fits in record {
      front = [];
      others = (frames dump).payloads;
      rest = (frames dump).rest;
      framed = framed;
      placed = refl;
      good = tt;
      bad = λ p more is front.
          let first = subst (λ ps. HasFrames dump ps (frames dump).rest) is framed in
          none_some front.0 (sym (wrong p (stream_of more (frames dump).rest) first.each.0 (first.whole ∙ append_assoc (frame p) (flat_map frame more) (frames dump).rest)) ∙ front.2);
      none = λ items other.
          none_some (length items) (sym (wrong other.head (stream_of other.payloads []) other.framed.each.0
          (other.framed.whole ∙ append_assoc (frame other.head) (flat_map frame other.payloads) [])) ∙ other.counted);
    }

pub nothing_left : (xs : List ℕ) → true ≡ (length xs == 0) → xs ≡ []
nothing_left [] empty = refl
nothing_left (x ∷ xs) empty = let none : length (x ∷ xs) ≡ 0 = grind (arith, nat_tests, empty) in absurd (omega (arith, none))

pub some_left : (xs : List ℕ) → false ≡ (length xs == 0) → xs ≢ []
some_left xs some none =
    let same : false ≡ true = some ∙ ap (λ ys. length ys == 0) none in
    cc
