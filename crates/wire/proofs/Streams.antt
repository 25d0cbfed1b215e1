-- A stream of lines, piece by piece.
use Rattle.std.proofs.Common.{◌≡◌, true, false, inl, inr, ℕ, ◌+◌, ◌<◌, ◌≤◌, take, length, List, [], ◌∷◌, ◌++◌, Option, Result, Ok, Err, refl, sym, ap, subst, ◌∙◌, arith, append_assoc, append-nil, length-append}
use Rattle.std.specs.Io.KnownBytes.{Appends, Consumes, IsAtEnd}
use Rattle.std.specs.List.{AllByRecursion}
use Rattle.std.proofs.lemmas.List.Concat.{flat_map-append}
use Rattle.std.proofs.KnownBytes.{Appends-nil, Appends-trans, Consumes-nil, Consumes-trans}
use Rattle.wire.specs.Output.{WritesFront}
use Rattle.wire.proofs.OutputLemmas.{WritesFront-then}
use Rattle.wire.specs.Counted.{next_count}
use Rattle.wire.specs.declared.error.FrontError.TheVariants.{Memory, ReadFault, TurnsUsed, WriteFault, BadLength, Truncated}
use Rattle.wire.specs.Encoding.{EncoderState, Gives, EncodesLine, EncodesNext, Finishes, lines_of, frames_of, count_after}
use Rattle.wire.specs.EncodedStream.{EncodesStream}
use Rattle.wire.specs.declared.encoder.EncodeError.{EncodeError}
use Rattle.wire.specs.declared.encoder.EncodeError.TheVariants as lines
use Rattle.wire.specs.declared.stream.StreamError.{StreamError}
use Rattle.wire.specs.declared.stream.StreamError.TheVariants as streams
use Rattle.wire.specs.RequestForm.{IsOneLine}
use Rattle.wire.specs.Private.Encoders.{EncodesKept, EncodesLast, KeptSoFar, StreamSoFar, stream_error}
use Rattle.wire.proofs.Encoders.{each_then, frames_of_then, lines_of_then, lines_then}

-- nothing was read or written
pub nothing : (gives : Gives) (left held : Option (List ℕ)) → EncodesStream gives (Err (streams.Front Memory)) left left held held
nothing gives left held = record { items = []; rest = []; last = []; each = tt; consumes = Consumes-nil left; ends = refl; writes = Appends-nil held; used = tt }

-- ---- lists of lines

lines_append : (xs ys : List (List ℕ × List ℕ)) → lines_of (xs ++ ys) ≡ lines_of xs ++ lines_of ys
lines_append xs ys = flat_map-append (λ item. item.0 ++ 10 ∷ []) xs ys

frames_append : (xs ys : List (List ℕ × List ℕ)) → frames_of (xs ++ ys) ≡ frames_of xs ++ frames_of ys
frames_append xs ys = flat_map-append (λ item. item.1) xs ys

each_append : (gives : Gives) (xs ys : List (List ℕ × List ℕ)) → AllByRecursion (EncodesLine gives) xs → AllByRecursion (EncodesLine gives) ys → AllByRecursion (EncodesLine gives) (xs ++ ys)
each_append gives [] ys a b = b
each_append gives (x ∷ xs) ys a b = (a.0, each_append gives xs ys a.1 b)

after_append : (lines : ℕ) (xs ys : List (List ℕ × List ℕ)) → count_after lines (xs ++ ys) ≡ count_after (count_after lines xs) ys
after_append lines [] ys = refl
after_append lines (x ∷ xs) ys = after_append (next_count lines) xs ys

-- ---- the lines that are kept

pub begins : (gives : Gives) (old : EncoderState) (held : Option (List ℕ)) (waiting : List ℕ) → waiting ≡ [] → KeptSoFar gives old old held held waiting
begins gives old held waiting none = record { items = []; sent = []; each = tt; kept_is = refl; lines_are = refl; appends = Appends-nil held; frames_are = sym none }

module _ (gives : Gives) (old mid : EncoderState) (held mid_held : Option (List ℕ)) (waiting : List ℕ) (so : KeptSoFar gives old mid held mid_held waiting) where
  -- what waits is sent, with the frame of the line at hand
  all_sent : (written more : List ℕ) (new_held : Option (List ℕ)) → more ≡ waiting ++ written → Appends mid_held new_held more → Appends held new_held (frames_of so.items ++ written)
  all_sent written more new_held is appends =
      subst (Appends held new_held) (ap (λ m. so.sent ++ m) is ∙ sym (append_assoc so.sent waiting written) ∙ ap (λ f. f ++ written) (sym so.frames_are)) (Appends-trans held mid_held new_held so.sent more so.appends appends)

  part_sent : (written more : List ℕ) (cut : Option (List ℕ)) → more ≡ waiting ++ written → WritesFront mid_held cut more → WritesFront held cut (frames_of so.items ++ written)
  part_sent written more cut is front =
      subst (WritesFront held cut) (ap (λ m. so.sent ++ m) is ∙ sym (append_assoc so.sent waiting written) ∙ ap (λ f. f ++ written) (sym so.frames_are)) (WritesFront-then held mid_held cut so.sent more so.appends front)

  -- one line more
  pub goes_on : (new : EncoderState) (written more left sent : List ℕ) (new_held : Option (List ℕ)) → EncodesNext gives (Ok true) mid new written → more ≡ waiting ++ written → more ≡ sent ++ left → Appends mid_held new_held sent → KeptSoFar gives old new held new_held left
  goes_on new written more left sent new_held next is cut appends =
      let item : List ℕ × List ℕ = (next.0, written) in
      record {
        items = so.items ++ item ∷ [];
        sent = so.sent ++ sent;
        each = each_then gives so.items item so.each next.2;
        kept_is = so.kept_is ∙ ap (λ k. lines_of so.items ++ k) next.1 ∙ sym (lines_of_then so.items item new.kept);
        lines_are = next.3 ∙ ap next_count so.lines_are ∙ sym (lines_then old.lines so.items item);
        appends = Appends-trans held mid_held new_held so.sent sent so.appends appends;
        frames_are = frames_of_then so.items item ∙ ap (λ f. f ++ written) so.frames_are ∙ append_assoc so.sent waiting written ∙ ap (λ m. so.sent ++ m) (sym is ∙ cut) ∙ sym (append_assoc so.sent sent left);
      }

  -- the line is taken out, but the writer fails
  pub cut_off : (new : EncoderState) (written more : List ℕ) (cut : Option (List ℕ)) → EncodesNext gives (Ok true) mid new written → more ≡ waiting ++ written → WritesFront mid_held cut more → EncodesKept gives (Err (streams.Front WriteFault)) old new held cut
  cut_off new written more cut next is front =
      let item : List ℕ × List ℕ = (next.0, written) in
      record {
        items = so.items ++ item ∷ [];
        rest = new.kept;
        each = each_then gives so.items item so.each next.2;
        kept_is = so.kept_is ∙ ap (λ k. lines_of so.items ++ k) next.1 ∙ sym (lines_of_then so.items item new.kept);
        ends = tt;
        writes = subst (WritesFront held cut) (sym (frames_of_then so.items item)) (part_sent written more cut is front);
      }

  -- no line is taken out, and the writer fails
  pub not_sent : (new : EncoderState) (written more : List ℕ) (cut : Option (List ℕ)) → written ≡ [] → more ≡ waiting ++ written → WritesFront mid_held cut more → EncodesKept gives (Err (streams.Front WriteFault)) old new held cut
  not_sent new written more cut none is front = record {
    items = so.items;
    rest = mid.kept;
    each = so.each;
    kept_is = so.kept_is;
    ends = tt;
    writes = subst (WritesFront held cut) (ap (λ w. frames_of so.items ++ w) none ∙ append-nil (frames_of so.items)) (part_sent written more cut is front);
  }

  all_frames : (written more : List ℕ) (new_held : Option (List ℕ)) → written ≡ [] → more ≡ waiting ++ written → Appends mid_held new_held more → Appends held new_held (frames_of so.items)
  all_frames written more new_held none is appends =
      subst (Appends held new_held) (ap (λ w. frames_of so.items ++ w) none ∙ append-nil (frames_of so.items)) (all_sent written more new_held is appends)

  -- no line is whole
  pub all_encoded : (new : EncoderState) (written more : List ℕ) (new_held : Option (List ℕ)) → EncodesNext gives (Ok false) mid new written → more ≡ waiting ++ written → Appends mid_held new_held more → EncodesKept gives (Ok tt) old new held new_held
  all_encoded new written more new_held next is appends = record {
    items = so.items;
    rest = mid.kept;
    each = so.each;
    kept_is = so.kept_is;
    ends = (next.0, ap (λ (s : EncoderState). s.kept) next.2, ap (λ (s : EncoderState). s.lines) next.2 ∙ so.lines_are);
    writes = all_frames written more new_held next.3 is appends;
  }

  -- the line becomes nothing
  pub stopped : (error : EncodeError) (new : EncoderState) (written more : List ℕ) (new_held : Option (List ℕ)) → EncodesNext gives (Err error) mid new written → more ≡ waiting ++ written → Appends mid_held new_held more → EncodesKept gives (Err (stream_error error)) old new held new_held
  stopped (lines.BadLine n) new written more new_held next is appends = record {
    items = so.items;
    rest = mid.kept;
    each = so.each;
    kept_is = so.kept_is;
    ends = (next.0.0 ∙ ap next_count so.lines_are, next.0.1);
    writes = all_frames written more new_held next.2 is appends;
  }
  stopped (lines.Unreadable n) new written more new_held next is appends = record {
    items = so.items;
    rest = mid.kept;
    each = so.each;
    kept_is = so.kept_is;
    ends = (next.0.0 ∙ ap next_count so.lines_are, next.0.1);
    writes = all_frames written more new_held next.2 is appends;
  }
  stopped lines.Memory new written more new_held next is appends = record {
    items = so.items;
    rest = mid.kept;
    each = so.each;
    kept_is = so.kept_is;
    ends = tt;
    writes = all_frames written more new_held next.2 is appends;
  }

-- ---- the last line

module _ (gives : Gives) (state : EncoderState) (held : Option (List ℕ)) (out : List ℕ) (empty : out ≡ []) where
  pub last_stopped : (error : EncodeError) (written after : List ℕ) → Finishes gives (Err error) state written → EncodesLast gives (Err (stream_error error)) state held held
  last_stopped (lines.BadLine n) written after finishes = record { last = []; ends = (finishes.0, finishes.1, refl); writes = Appends-nil held }
  last_stopped (lines.Unreadable n) written after finishes = record { last = []; ends = (finishes.0, finishes.1, refl); writes = Appends-nil held }
  last_stopped lines.Memory written after finishes = record { last = []; ends = refl; writes = Appends-nil held }

  pub last_sent : (written after : List ℕ) (whole : Option (List ℕ)) → Finishes gives (Ok tt) state written → after ≡ out ++ written → Appends held whole after → EncodesLast gives (Ok tt) state held whole
  last_sent written after whole finishes is appends = record { last = written; ends = finishes; writes = subst (Appends held whole) (is ∙ ap (λ o. o ++ written) empty) appends }

  pub last_cut_off : (written after : List ℕ) (cut : Option (List ℕ)) → Finishes gives (Ok tt) state written → after ≡ out ++ written → WritesFront held cut after → EncodesLast gives (Err (streams.Front WriteFault)) state held cut
  last_cut_off written after cut finishes is front = record { last = written; ends = finishes; writes = subst (WritesFront held cut) (is ∙ ap (λ o. o ++ written) empty) front }

-- ---- how it ends between two pieces

module _ (gives : Gives) (left mid new held sent : Option (List ℕ)) (state : EncoderState) (turns : ℕ) (so : StreamSoFar gives left mid held sent state turns) where
  -- ---- at the end of the reader

  at_end : Consumes mid new [] → Consumes left new (lines_of so.items ++ state.kept)
  at_end none = subst (Consumes left new) (append-nil (lines_of so.items ++ state.kept)) (Consumes-trans left mid new (lines_of so.items ++ state.kept) [] so.consumes none)

  pub finished : (ended : Result (Unit {0}) StreamError) (whole : Option (List ℕ)) → EncodesLast gives ended state sent whole → Consumes mid new [] → IsAtEnd new → EncodesStream gives ended left new held whole
  finished (Ok done) whole last none end = record {
    items = so.items;
    rest = state.kept;
    last = last.last;
    each = so.each;
    consumes = at_end none;
    ends = (end, (so.one_line, last.ends));
    writes = Appends-trans held sent whole (frames_of so.items) last.last so.appends last.writes;
    used = tt;
  }
  finished (Err (streams.BadLine n)) whole last none end = record {
    items = so.items;
    rest = state.kept;
    last = last.last;
    each = so.each;
    consumes = at_end none;
    ends = (last.ends.0 ∙ ap next_count so.lines_are, last.ends.2, inr (end, last.ends.1));
    writes = Appends-trans held sent whole (frames_of so.items) last.last so.appends last.writes;
    used = tt;
  }
  finished (Err (streams.Unreadable n)) whole last none end = record {
    items = so.items;
    rest = state.kept;
    last = last.last;
    each = so.each;
    consumes = at_end none;
    ends = (last.ends.0 ∙ ap next_count so.lines_are, last.ends.2, inr (end, last.ends.1));
    writes = Appends-trans held sent whole (frames_of so.items) last.last so.appends last.writes;
    used = tt;
  }
  finished (Err (streams.Front Memory)) whole last none end = record {
    items = so.items;
    rest = state.kept;
    last = last.last;
    each = so.each;
    consumes = at_end none;
    ends = last.ends;
    writes = Appends-trans held sent whole (frames_of so.items) last.last so.appends last.writes;
    used = tt;
  }
  finished (Err (streams.Front WriteFault)) whole last none end = record {
    items = so.items;
    rest = state.kept;
    last = last.last;
    each = so.each;
    consumes = at_end none;
    ends = inr (so.one_line, last.ends);
    writes = WritesFront-then held sent whole (frames_of so.items) last.last so.appends last.writes;
    used = tt;
  }
  finished (Err (streams.Front ReadFault)) whole last none end = absurd last.ends
  finished (Err (streams.Front TurnsUsed)) whole last none end = absurd last.ends
  finished (Err (streams.Front BadLength)) whole last none end = absurd last.ends
  finished (Err (streams.Front Truncated)) whole last none end = absurd last.ends

  -- a piece that cannot be kept
  pub not_kept : (piece : List ℕ) → Consumes mid new piece → EncodesStream gives (Err (streams.Front Memory)) left new held sent
  not_kept piece came = record {
    items = so.items;
    rest = state.kept ++ piece;
    last = [];
    each = so.each;
    consumes = subst (Consumes left new) (append_assoc (lines_of so.items) state.kept piece) (Consumes-trans left mid new (lines_of so.items ++ state.kept) piece so.consumes came);
    ends = refl;
    writes = subst (Appends held sent) (sym (append-nil (frames_of so.items))) so.appends;
    used = tt;
  }

  -- ---- with one piece more

  module _ (piece : List ℕ) (fed next : EncoderState) (whole : Option (List ℕ)) (kept : fed.kept ≡ state.kept ++ piece) (same_lines : fed.lines ≡ state.lines) (came : Consumes mid new piece) where
    module _ (ended : Result (Unit {0}) StreamError) (encodes : EncodesKept gives ended fed next sent whole) where
      abbrev items_now : List (List ℕ × List ℕ)
      items_now = so.items ++ encodes.items

      each_now : AllByRecursion (EncodesLine gives) items_now
      each_now = each_append gives so.items encodes.items so.each encodes.each

      read_now : (lines_of so.items ++ state.kept) ++ piece ≡ lines_of items_now ++ encodes.rest
      read_now =
          append_assoc (lines_of so.items) state.kept piece ∙ ap (λ b. lines_of so.items ++ b) (sym kept ∙ encodes.kept_is) ∙ sym (append_assoc (lines_of so.items) (lines_of encodes.items) encodes.rest)
          ∙ ap (λ b. b ++ encodes.rest) (sym (lines_append so.items encodes.items))

      consumes_now : Consumes left new (lines_of items_now ++ encodes.rest)
      consumes_now = subst (Consumes left new) read_now (Consumes-trans left mid new (lines_of so.items ++ state.kept) piece so.consumes came)

      lines_now : count_after fed.lines encodes.items ≡ count_after 0 items_now
      lines_now = ap (λ n. count_after n encodes.items) (same_lines ∙ so.lines_are) ∙ sym (after_append 0 so.items encodes.items)

      appends_now : Appends sent whole (frames_of encodes.items) → Appends held whole (frames_of items_now)
      appends_now appends = subst (Appends held whole) (sym (frames_append so.items encodes.items)) (Appends-trans held sent whole (frames_of so.items) (frames_of encodes.items) so.appends appends)

      -- each turn reads at least one byte
      longer : (rest : List ℕ) → encodes.rest ≡ rest → 0 < length piece → turns + 1 ≤ length (lines_of items_now ++ rest)
      longer rest is some =
          let read : length (lines_of items_now ++ encodes.rest) ≡ length ((lines_of so.items ++ state.kept) ++ piece) = ap length (sym read_now) in
          let same : length (lines_of items_now ++ encodes.rest) ≡ length (lines_of items_now ++ rest) = ap (λ (r : List ℕ). length (lines_of items_now ++ r)) is in
          omega (arith, some, so.each_turn, read, same, length-append (lines_of so.items ++ state.kept) piece)

    -- all that came has become frames, but for a line that has no end yet
    pub reads_on : EncodesKept gives (Ok tt) fed next sent whole → 0 < length piece → StreamSoFar gives left new held whole next (turns + 1)
    reads_on encodes some =
        record {
          items = items_now (Ok tt) encodes;
          each = each_now (Ok tt) encodes;
          consumes = subst (λ k. Consumes left new (lines_of (items_now (Ok tt) encodes) ++ k)) (sym encodes.ends.1) (consumes_now (Ok tt) encodes);
          appends = appends_now (Ok tt) encodes encodes.writes;
          lines_are = encodes.ends.2 ∙ lines_now (Ok tt) encodes;
          one_line = subst IsOneLine (sym encodes.ends.1) encodes.ends.0;
          each_turn = longer (Ok tt) encodes next.kept (sym encodes.ends.1) some;
        }

    pub ends_early : (error : StreamError) → EncodesKept gives (Err error) fed next sent whole → EncodesStream gives (Err error) left new held whole
    ends_early (streams.BadLine n) encodes = record {
      items = items_now (Err (streams.BadLine n)) encodes;
      rest = encodes.rest;
      last = [];
      each = each_now (Err (streams.BadLine n)) encodes;
      consumes = consumes_now (Err (streams.BadLine n)) encodes;
      ends = (encodes.ends.0 ∙ ap next_count (lines_now (Err (streams.BadLine n)) encodes), refl, inl encodes.ends.1);
      writes = subst (Appends held whole) (sym (append-nil (frames_of (items_now (Err (streams.BadLine n)) encodes)))) (appends_now (Err (streams.BadLine n)) encodes encodes.writes);
      used = tt;
    }
    ends_early (streams.Unreadable n) encodes = record {
      items = items_now (Err (streams.Unreadable n)) encodes;
      rest = encodes.rest;
      last = [];
      each = each_now (Err (streams.Unreadable n)) encodes;
      consumes = consumes_now (Err (streams.Unreadable n)) encodes;
      ends = (encodes.ends.0 ∙ ap next_count (lines_now (Err (streams.Unreadable n)) encodes), refl, inl encodes.ends.1);
      writes = subst (Appends held whole) (sym (append-nil (frames_of (items_now (Err (streams.Unreadable n)) encodes)))) (appends_now (Err (streams.Unreadable n)) encodes encodes.writes);
      used = tt;
    }
    ends_early (streams.Front Memory) encodes = record {
      items = items_now (Err (streams.Front Memory)) encodes;
      rest = encodes.rest;
      last = [];
      each = each_now (Err (streams.Front Memory)) encodes;
      consumes = consumes_now (Err (streams.Front Memory)) encodes;
      ends = refl;
      writes = subst (Appends held whole) (sym (append-nil (frames_of (items_now (Err (streams.Front Memory)) encodes)))) (appends_now (Err (streams.Front Memory)) encodes encodes.writes);
      used = tt;
    }
    ends_early (streams.Front WriteFault) encodes = record {
      items = items_now (Err (streams.Front WriteFault)) encodes;
      rest = encodes.rest;
      last = [];
      each = each_now (Err (streams.Front WriteFault)) encodes;
      consumes = consumes_now (Err (streams.Front WriteFault)) encodes;
      ends = inl refl;
      writes = subst (WritesFront held whole) (sym (frames_append so.items encodes.items) ∙ sym (append-nil (frames_of (items_now (Err (streams.Front WriteFault)) encodes))))
          (WritesFront-then held sent whole (frames_of so.items) (frames_of encodes.items) so.appends encodes.writes);
      used = tt;
    }
    ends_early (streams.Front ReadFault) encodes = absurd encodes.ends
    ends_early (streams.Front TurnsUsed) encodes = absurd encodes.ends
    ends_early (streams.Front BadLength) encodes = absurd encodes.ends
    ends_early (streams.Front Truncated) encodes = absurd encodes.ends

-- a read of nothing
pub none_came : (a b : Option (List ℕ)) (buf : List ℕ) (n : ℕ) → n ≡ 0 → Consumes a b (take n buf) → Consumes a b []
none_came a b buf n is came = subst (λ (m : ℕ). Consumes a b (take m buf)) is came

-- a read of a piece
pub some_came : (a b : Option (List ℕ)) (buf piece : List ℕ) (n : ℕ) → piece ≡ take n buf → Consumes a b (take n buf) → Consumes a b piece
some_came a b buf piece n is came = subst (Consumes a b) (sym is) came
