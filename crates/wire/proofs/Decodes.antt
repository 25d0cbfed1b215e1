-- A stream of frames, piece by piece.
use Rattle.std.proofs.Common.{◌+◌, ◌≤◌, length, ◌<◌, ◌≡◌, ℕ, arith, List, [], ◌∷◌, ◌++◌, Option, Result, Ok, Err, refl, sym, ap, subst, ◌∙◌, append_assoc, append-nil, length-append}
use Rattle.std.specs.Io.KnownBytes.{Appends, Consumes}
use Rattle.std.specs.List.{AllByRecursion}
use Rattle.std.proofs.lemmas.List.Concat.{flat_map-append}
use Rattle.std.proofs.KnownBytes.{Appends-nil, Appends-trans, Consumes-nil, Consumes-trans}
use Rattle.wire.specs.Frame.{frame, IsPayload, IsUnfinished}
use Rattle.wire.specs.Output.{WritesFront}
use Rattle.wire.proofs.OutputLemmas.{WritesFront-then}
use Rattle.wire.specs.Decoding.{IsLineOf}
use Rattle.wire.specs.DecodedStream.{DecodesStream, IsWritten, frames_in, lines_out}
use Rattle.wire.specs.Encoding.{count_after}
use Rattle.wire.specs.Counted.{next_count}
use Rattle.wire.specs.declared.decode.DecodeError.{DecodeError}
use Rattle.wire.specs.declared.decode.DecodeError.TheVariants.{BadFrame, Front}
use Rattle.wire.specs.declared.error.FrontError.TheVariants.{BadLength, Truncated, Memory, ReadFault, WriteFault, TurnsUsed}
use Rattle.wire.specs.Private.Decoders.{FramesSoFar, DecodesKept, EndsKept, DecodedSoFar}

-- ---- lists of frames

frames_append : (xs ys : List (List ℕ × List ℕ)) → frames_in (xs ++ ys) ≡ frames_in xs ++ frames_in ys
frames_append xs ys = flat_map-append (λ item. frame item.0) xs ys

lines_append : (xs ys : List (List ℕ × List ℕ)) → lines_out (xs ++ ys) ≡ lines_out xs ++ lines_out ys
lines_append xs ys = flat_map-append (λ item. item.1) xs ys

each_append : (xs ys : List (List ℕ × List ℕ)) → AllByRecursion IsWritten xs → AllByRecursion IsWritten ys → AllByRecursion IsWritten (xs ++ ys)
each_append [] ys a b = b
each_append (x ∷ xs) ys a b = (a.0, each_append xs ys a.1 b)

after_append : (frames : ℕ) (xs ys : List (List ℕ × List ℕ)) → count_after frames (xs ++ ys) ≡ count_after (count_after frames xs) ys
after_append frames [] ys = refl
after_append frames (x ∷ xs) ys = after_append (next_count frames) xs ys

-- ---- one frame more

pub begins : (kept out : List ℕ) (frames : ℕ) → FramesSoFar kept frames kept frames out out
begins kept out frames = record { items = []; kept_is = refl; each = tt; now_is = sym (append-nil out); frames_are = refl }

pub goes_on : (old mid new : List ℕ) (frames_old frames_mid frames_new : ℕ) (before now after payload line : List ℕ) → FramesSoFar old frames_old mid frames_mid before now
    → mid ≡ frame payload ++ new → frames_new ≡ next_count frames_mid → IsLineOf payload line → after ≡ now ++ (line ++ 10 ∷ []) → FramesSoFar old frames_old new frames_new before after
goes_on old mid new frames_old frames_mid frames_new before now after payload line so stands counted is_line written = record {
  items = so.items ++ (payload, line ++ 10 ∷ []) ∷ [];
  kept_is = so.kept_is ∙ ap (λ k. frames_in so.items ++ k) stands ∙ sym (append_assoc (frames_in so.items) (frame payload) new)
      ∙ ap (λ f. (frames_in so.items ++ f) ++ new) (sym (append-nil (frame payload))) ∙ ap (λ f. f ++ new) (sym (frames_append so.items ((payload, line ++ 10 ∷ []) ∷ [])));
  each = each_append so.items ((payload, line ++ 10 ∷ []) ∷ []) so.each ((line, is_line, refl), tt);
  now_is = written ∙ ap (λ n. n ++ (line ++ 10 ∷ [])) so.now_is ∙ append_assoc before (lines_out so.items) (line ++ 10 ∷ [])
      ∙ ap (λ f. before ++ (lines_out so.items ++ f)) (sym (append-nil (line ++ 10 ∷ []))) ∙ ap (λ f. before ++ f) (sym (lines_append so.items ((payload, line ++ 10 ∷ []) ∷ [])));
  frames_are = counted ∙ ap next_count so.frames_are ∙ sym (after_append frames_old so.items ((payload, line ++ 10 ∷ []) ∷ []));
}

-- a frame whose payload has no line
pub unlined : (old mid new kept_new : List ℕ) (frames_old frames_mid frames_new : ℕ) (before now payload : List ℕ) (so : FramesSoFar old frames_old mid frames_mid before now)
    → IsPayload payload → mid ≡ frame payload ++ new → ((line : List ℕ) → IsLineOf payload line → ⊥) → DecodesKept (Err (BadFrame frames_mid)) old frames_old kept_new frames_new (lines_out so.items)
unlined old mid new kept_new frames_old frames_mid frames_new before now payload so good stands none = record {
  items = so.items;
  rest = mid;
  kept_is = so.kept_is;
  each = so.each;
  written_is = refl;
  ends = (so.frames_are, (payload, new, good, stands, none));
  counts = λ never. absurd (cc never);
}

-- ---- a stream

pub nothing : (left held : Option (List ℕ)) → DecodesStream (Err (Front Memory)) left left held held
nothing left held = record { items = []; rest = []; each = tt; consumes = Consumes-nil left; ends = tt; writes = Appends-nil held; used = tt }

module _ (left mid new held sent : Option (List ℕ)) (kept : List ℕ) (frames turns : ℕ) (so : DecodedSoFar left mid held sent kept frames turns) (piece : List ℕ) (came : Consumes mid new piece) where
  came_in_all : Consumes left new (frames_in so.items ++ (kept ++ piece))
  came_in_all = subst (Consumes left new) (append_assoc (frames_in so.items) kept piece) (Consumes-trans left mid new (frames_in so.items ++ kept) piece so.consumes came)

  -- the piece is not kept
  pub not_fed : DecodesStream (Err (Front Memory)) left new held sent
  not_fed = record { items = so.items; rest = kept ++ piece; each = so.each; consumes = came_in_all; ends = tt; writes = so.appends; used = tt }

  module _ (taken : Result (Unit {0}) DecodeError) (kept_new : List ℕ) (frames_new : ℕ) (written : List ℕ) (decodes : DecodesKept taken (kept ++ piece) frames kept_new frames_new written) where
    each_now : AllByRecursion IsWritten (so.items ++ decodes.items)
    each_now = each_append so.items decodes.items so.each decodes.each

    read_now : frames_in so.items ++ (kept ++ piece) ≡ frames_in (so.items ++ decodes.items) ++ decodes.rest
    read_now = ap (λ b. frames_in so.items ++ b) decodes.kept_is ∙ sym (append_assoc (frames_in so.items) (frames_in decodes.items) decodes.rest) ∙ ap (λ b. b ++ decodes.rest) (sym (frames_append so.items decodes.items))

    consumes_now : Consumes left new (frames_in (so.items ++ decodes.items) ++ decodes.rest)
    consumes_now = subst (Consumes left new) read_now came_in_all

    lines_now : lines_out so.items ++ written ≡ lines_out (so.items ++ decodes.items)
    lines_now = ap (λ b. lines_out so.items ++ b) decodes.written_is ∙ sym (lines_append so.items decodes.items)

    frames_now : count_after frames decodes.items ≡ count_after 0 (so.items ++ decodes.items)
    frames_now = ap (λ n. count_after n decodes.items) so.frames_are ∙ sym (after_append 0 so.items decodes.items)

    appends_now : (whole : Option (List ℕ)) → Appends sent whole written → Appends held whole (lines_out (so.items ++ decodes.items))
    appends_now whole appends = subst (Appends held whole) lines_now (Appends-trans held sent whole (lines_out so.items) written so.appends appends)

    -- each turn reads at least one byte
    longer : (rest : List ℕ) → decodes.rest ≡ rest → 0 < length piece → turns + 1 ≤ length (frames_in (so.items ++ decodes.items) ++ rest)
    longer rest is some =
        let read : length (frames_in (so.items ++ decodes.items) ++ decodes.rest) ≡ length (frames_in so.items ++ (kept ++ piece)) = ap length (sym read_now) in
        let same : length (frames_in (so.items ++ decodes.items) ++ decodes.rest) ≡ length (frames_in (so.items ++ decodes.items) ++ rest) = ap (λ (r : List ℕ). length (frames_in (so.items ++ decodes.items) ++ r)) is in
        omega (arith, some, so.each_turn, read, same, length-append (frames_in so.items) (kept ++ piece), length-append kept piece, length-append (frames_in so.items) kept)

    pub not_sent : (cut : Option (List ℕ)) → WritesFront sent cut written → DecodesStream (Err (Front WriteFault)) left new held cut
    not_sent cut front = record {
      items = so.items ++ decodes.items;
      rest = decodes.rest;
      each = each_now;
      consumes = consumes_now;
      ends = tt;
      writes = subst (WritesFront held cut) lines_now (WritesFront-then held sent cut (lines_out so.items) written so.appends front);
      used = tt;
    }

    pub goes_on_stream : (whole : Option (List ℕ)) → Appends sent whole written → taken ≡ Ok tt → 0 < length piece → DecodedSoFar left new held whole kept_new frames_new (turns + 1)
    goes_on_stream whole appends is some =
        let ends = subst (λ (t : Result (Unit {0}) DecodeError). EndsKept t (count_after frames decodes.items) decodes.rest kept_new) is decodes.ends in
        record {
          items = so.items ++ decodes.items;
          each = each_now;
          consumes = subst (λ k. Consumes left new (frames_in (so.items ++ decodes.items) ++ k)) (sym ends.1) consumes_now;
          unfinished = subst IsUnfinished (sym ends.1) ends.0;
          appends = appends_now whole appends;
          frames_are = decodes.counts is ∙ frames_now;
          each_turn = longer kept_new (sym ends.1) some;
        }

    stopped_so : (whole : Option (List ℕ)) → Appends sent whole written → (error : DecodeError) → EndsKept (Err error) (count_after frames decodes.items) decodes.rest kept_new → DecodesStream (Err error) left new held whole
    stopped_so whole appends (BadFrame place) ends = record { items = so.items ++ decodes.items; rest = decodes.rest; each = each_now; consumes = consumes_now; ends = (ends.0 ∙ frames_now, ends.1); writes = appends_now whole appends; used = tt }
    stopped_so whole appends (Front BadLength) ends = record { items = so.items ++ decodes.items; rest = decodes.rest; each = each_now; consumes = consumes_now; ends = ends; writes = appends_now whole appends; used = tt }
    stopped_so whole appends (Front Memory) ends = record { items = so.items ++ decodes.items; rest = decodes.rest; each = each_now; consumes = consumes_now; ends = tt; writes = appends_now whole appends; used = tt }
    stopped_so whole appends (Front Truncated) ends = absurd ends
    stopped_so whole appends (Front ReadFault) ends = absurd ends
    stopped_so whole appends (Front WriteFault) ends = absurd ends
    stopped_so whole appends (Front TurnsUsed) ends = absurd ends

    pub stopped : (whole : Option (List ℕ)) → Appends sent whole written → (error : DecodeError) → taken ≡ Err error → DecodesStream (Err error) left new held whole
    stopped whole appends error is =
        stopped_so whole appends error (subst (λ (t : Result (Unit {0}) DecodeError). EndsKept t (count_after frames decodes.items) decodes.rest kept_new) is decodes.ends)
