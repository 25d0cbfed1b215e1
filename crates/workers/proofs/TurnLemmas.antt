-- The parts of a turn, one after the other.
use Rattle.std.proofs.Common.{◌≡◌, ℕ, ◌+◌, ◌-◌, ◌*◌, ◌≤◌, List, [], ◌∷◌, ◌++◌, length, refl, sym, ap, ◌∙◌, arith, append_assoc, append-nil, length-append, subst, inl, inr, Result, Ok, Err}
use Rattle.std.specs.Prelude.{◌<◌, ◌⊎◌, Option, Bool, true, false}
use Rattle.std.specs.Io.KnownBytes.{Appends, Consumes}
use Rattle.std.proofs.KnownBytes.{Appends-nil, Appends-trans, Consumes-nil, Consumes-trans}
use Rattle.std.proofs.lemmas.Grind.{flat_map-append}
use Rattle.map_core.specs.declared.op.Op.{Op}
use Rattle.map_core.specs.declared.reply.Reply.{Reply}
use Rattle.map_core.specs.declared.reply.AskError.{AskError}
use Rattle.wire.specs.declared.error.FrontError.{FrontError}
use Rattle.wire.specs.declared.error.FrontError.TheVariants.{BadLength, Truncated, ReadFault, WriteFault, TurnsUsed, Memory}
use Rattle.wire.specs.Frame.{IsBadLength}
use Rattle.frame_front.specs.declared.answered.Answered.{Answered}
use Rattle.frame_front.specs.Live.{LiveAnswers, LiveView, Sends, StopsAt, most_frames, most_kept}
use Rattle.frame_front.specs.LiveCalls.{LiveCall, DoesAll, piece_of, bytes_of, Answer, Feed, Send, fed, sent, frames_of, frame_bytes_of}
use Rattle.workers.specs.declared.turn_end.TurnEnd.{TurnEnd}
use Rattle.workers.specs.declared.turn_end.TurnEnd.TheVariants.{Waits, Again, Over}
use Rattle.workers.specs.Connection.{ConnectionView, EndsFor, EndsHere, EndsShort, HadShare, IsLost, LosesOnly, MakesReads, StopsFor, Turn, WaitsFor, counted, room_bytes, turn_bytes}
use Rattle.workers.specs.Reads.{reads_for, reads_of}
use Rattle.workers.specs.Stream.{StreamLimits}
use Rattle.workers.specs.declared.limited.Limited.{Limited}
use Rattle.workers.specs.Private.Limited.{stream_of, turns_of, written_of}
use Rattle.workers.specs.Private.Goes.{Goes, GoesOn, ReadsAs, Round, StaysShort, StaysSo, StopsIn}
use Rattle.workers.proofs.ReadLemmas.{makes_then}

-- a connection over a stream, and its session
abbrev pub view_of : {E : Type 0} (may : E → StreamLimits) (left held : E → Option (List ℕ)) → LiveView → (answered : ℕ) → Limited E → (has_ended has_lost is_closing : Bool) → ConnectionView
view_of may left held live answered end has_ended has_lost is_closing = record {
  live = live;
  answered = answered;
  written = written_of end;
  turns = turns_of end;
  has_ended = has_ended;
  has_lost = has_lost;
  is_closing = is_closing;
  may = may (stream_of end);
  left = left (stream_of end);
  held = held (stream_of end);
}

pub frames_append : (xs ys : List LiveCall) → frames_of (xs ++ ys) ≡ frames_of xs + frames_of ys
frames_append [] ys = omega arith
frames_append (x ∷ xs) ys = omega (arith, frames_append xs ys)

pub frame_bytes_append : (xs ys : List LiveCall) → frame_bytes_of (xs ++ ys) ≡ frame_bytes_of xs + frame_bytes_of ys
frame_bytes_append [] ys = omega arith
frame_bytes_append (x ∷ xs) ys = omega (arith, frame_bytes_append xs ys)

pub reads_append : (xs ys : List LiveCall) → reads_of (xs ++ ys) ≡ reads_of xs + reads_of ys
reads_append [] ys = omega arith
reads_append (x ∷ xs) ys = omega (arith, reads_append xs ys)

pub sent_append : (xs ys : List LiveCall) → length (sent (xs ++ ys)) ≡ length (sent xs) + length (sent ys)
sent_append xs ys = ap length (flat_map-append bytes_of xs ys) ∙ length-append (sent xs) (sent ys)

-- a round more
share_then : (rounds : ℕ) (xs ys : List LiveCall) → HadShare rounds xs → HadShare 1 ys → HadShare (rounds + 1) (xs ++ ys)
share_then rounds xs ys h k = (
  h.0 + k.0,
  omega (arith, h.1, k.1, reads_append xs ys),
  omega (arith, h.2, k.2, sent_append xs ys),
)

-- some calls, and then others, of which the last read was a short one
short_after : (xs ys : List LiveCall) → EndsShort ys → EndsShort (xs ++ ys)
short_after xs ys s = record {
  before = xs ++ s.before;
  piece = s.piece;
  after = s.after;
  parts = ap (λ (l : List LiveCall). xs ++ l) s.parts ∙ sym (append_assoc xs s.before (Feed s.piece ∷ s.after));
  some = s.some;
  short = s.short;
  no_more = s.no_more;
}

-- or others that have no read
short_before : (xs ys : List LiveCall) → EndsShort xs → reads_of ys ≡ 0 → EndsShort (xs ++ ys)
short_before xs ys s none = record {
  before = s.before;
  piece = s.piece;
  after = s.after ++ ys;
  parts = ap (λ (l : List LiveCall). l ++ ys) s.parts ∙ append_assoc s.before (Feed s.piece ∷ s.after) ys;
  some = s.some;
  short = s.short;
  no_more = omega (arith, reads_append s.after ys, s.no_more, none);
}

-- a connection that waits since it has read so, waits since it has read otherwise
waits_by : (P Q : Type 0) (c : ConnectionView) → (P → Q) → WaitsFor P c → WaitsFor Q c
waits_by P Q c f (inl writes) = inl writes
waits_by P Q c f (inr reads) = inr (reads.0, reads.1, reads.2, reads.3, by reads.4)
  where
    by : (c.may.read_waits ≡ true) ⊎ ((c.may.leaves_room ≡ true) × (c.is_closing ≡ false) × P) → (c.may.read_waits ≡ true) ⊎ ((c.may.leaves_room ≡ true) × (c.is_closing ≡ false) × Q)
    by (inl waits) = inl waits
    by (inr short) = inr (short.0, short.1, f short.2)

stops_by : (P Q : Type 0) (after : TurnEnd) (c : ConnectionView) → (P → Q) → StopsIn P after c → StopsIn Q after c
stops_by P Q Waits c f stops = waits_by P Q c f stops
stops_by P Q Again c f stops = absurd stops
stops_by P Q (Over result) c f stops = stops

pub stays_then : (a b c : ConnectionView) → StaysSo a b → StaysSo b c → StaysSo a c
stays_then a b c p q = (q.0 ∙ p.0, q.1 ∙ p.1)

pub loses_then : (lost : List ℕ) (a b c : ConnectionView) → LosesOnly [] a b → LosesOnly lost b c → LosesOnly lost a c
loses_then lost a b c p q e = now (q e)
  where
    before : (a.has_lost ≡ true) ⊎ (0 < length {A = ℕ} []) → (a.has_lost ≡ true) ⊎ (0 < length lost)
    before (inl older) = inl older
    before (inr none) = absurd (omega (arith, none))

    now : (b.has_lost ≡ true) ⊎ (0 < length lost) → (a.has_lost ≡ true) ⊎ (0 < length lost)
    now (inl earlier) = before (p earlier)
    now (inr some) = inr some

-- the input ends where it has not ended before
pub ends_then : (a b c : ConnectionView) → b.has_ended ≡ a.has_ended → EndsHere b c → EndsHere a c
ends_then a b c same (inl before) = inl (before ∙ same)
ends_then a b c same (inr now) = inr now

not_so : (b : Bool) → b ≡ false → b ≡ true → ⊥
not_so b is e = cc

-- Frames of so many bytes were answered before a round of a turn, fewer than its share unless its input has ended, and of so many
-- in the round.
abbrev pub IsInShare : (had has : ℕ) → ConnectionView → Type 0
IsInShare had has a = (a.has_ended ≡ false → had < turn_bytes) × (has ≤ most_kept)

-- a turn goes on only while so much of its share is left
pub in_share : (left had has : ℕ) (a b : ConnectionView) → b.has_ended ≡ a.has_ended → left ≡ turn_bytes - had → (b.has_ended ≡ true) ⊎ (0 < left) → has ≤ most_kept → IsInShare had has a
in_share left had has a b same is (inl over) few = (λ unended. absurd (not_so b.has_ended (same ∙ unended) over), few)
in_share left had has a b same is (inr some) few = (λ unended. omega (arith, is, some), few)

module _ {S : Type 0} (answers : S → Op → Result Reply AskError → S → Type 0) where
  pub does_then : (xs ys : List LiveCall) (a b c : LiveView × S) → DoesAll answers xs a b → DoesAll answers ys b c → DoesAll answers (xs ++ ys) a c
  does_then [] ys a b c p q = subst (λ s. DoesAll answers ys s c) p q
  does_then (x ∷ xs) ys a b c p q = (p.0, p.1, does_then xs ys p.0 b c p.2 q)

  module _ (most more total had has : ℕ) (lost : List ℕ) (a b c : ConnectionView) (m n o : S) (p : Goes answers most had [] a b m n) (q : Goes answers more has lost b c n o)
      (enough : most + more ≤ total) (unended : b.has_ended ≡ a.has_ended) where
    pub fed_both : (fed p.calls ++ []) ++ (fed q.calls ++ lost) ≡ fed (p.calls ++ q.calls) ++ lost
    fed_both =
        ap (λ (l : List ℕ). l ++ (fed q.calls ++ lost)) (append-nil (fed p.calls))
        ∙ (sym (append_assoc (fed p.calls) (fed q.calls) lost) ∙ ap (λ (l : List ℕ). l ++ lost) (sym (flat_map-append piece_of p.calls q.calls)))

    -- one part, and then another
    abbrev pub goes_then : Goes answers total (had + has) lost a c m o
    goes_then = record {
      calls = p.calls ++ q.calls;
      does = does_then p.calls q.calls (a.live, m) (b.live, n) (c.live, o) p.does q.does;
      consumes = subst (Consumes a.left c.left) fed_both
          (Consumes-trans a.left b.left c.left (fed p.calls ++ []) (fed q.calls ++ lost) p.consumes q.consumes);
      appends = subst (Appends a.held c.held) (sym (flat_map-append bytes_of p.calls q.calls))
          (Appends-trans a.held b.held c.held (sent p.calls) (sent q.calls) p.appends q.appends);
      written = omega (arith, p.written, q.written, sent_append p.calls q.calls);
      makes = makes_then (reads_of p.calls + 0) (reads_of q.calls + reads_for lost) (reads_of (p.calls ++ q.calls) + reads_for lost) a b c p.makes q.makes
          (omega (arith, reads_append p.calls q.calls));
      answered = omega (arith, p.answered, q.answered, frames_append p.calls q.calls);
      share = omega (arith, p.share, q.share, frames_append p.calls q.calls, enough);
      judged = omega (arith, p.judged, q.judged, frame_bytes_append p.calls q.calls);
      stays = stays_then a b c p.stays q.stays;
      quiet = λ e. sym fed_both ∙ (ap (λ (l : List ℕ). l ++ (fed q.calls ++ lost)) (p.quiet e) ∙ q.quiet (unended ∙ e));
      loses_only = loses_then lost a b c p.loses_only q.loses_only;
    }

  -- What is known of a turn after some rounds and its next part.
  abbrev Further : ℕ → ℕ → Bool → List ℕ → List LiveCall → ConnectionView → ConnectionView → S → S → Type 0
  Further rounds bytes had_left lost calls a c m o = (goes : Goes answers ((rounds + 1) * most_frames) bytes lost a c m o) × (HadShare 1 calls → HadShare (rounds + 1) goes.calls)
      × (EndsShort calls ⊎ StaysShort had_left calls → EndsShort goes.calls)

  -- a turn after some rounds, and the next part of it
  pub goes_on : (rounds had has : ℕ) (had_left : Bool) (lost : List ℕ) (a b c : ConnectionView) (m n o : S) → GoesOn answers rounds had had_left a b m n → (q : Goes answers most_frames has lost b c n o)
      → b.has_ended ≡ a.has_ended → Further rounds (had + has) had_left lost q.calls a c m o
  goes_on rounds had has had_left lost a b c m n o (inl none) q unended =
      subst (λ s. Further rounds (had + has) had_left lost q.calls s c m o) none.1 (subst (λ s. Further rounds (had + has) had_left lost q.calls b c s o) none.2
      (first, λ h. (h.0, omega (arith, none.0, h.1), h.2), short))
    where
      short : EndsShort q.calls ⊎ StaysShort had_left q.calls → EndsShort q.calls
      short (inl s) = s
      short (inr s) = absurd (not_so had_left none.3 s.0)

      first : Goes answers ((rounds + 1) * most_frames) (had + has) lost b c n o
      first = record {
        calls = q.calls;
        does = q.does;
        consumes = q.consumes;
        appends = q.appends;
        written = q.written;
        makes = q.makes;
        answered = q.answered;
        share = omega (arith, q.share);
        judged = omega (arith, q.judged, none.4);
        stays = q.stays;
        quiet = q.quiet;
        loses_only = q.loses_only;
      }
  goes_on rounds had has had_left lost a b c m n o (inr p) q unended = (
    goes_then (rounds * most_frames) most_frames ((rounds + 1) * most_frames) had has lost a b c m n o p.0 q (omega arith) unended,
    λ h. share_then rounds p.0.calls q.calls p.1 h,
    short,
  )
    where
      short : EndsShort q.calls ⊎ StaysShort had_left q.calls → EndsShort (p.0.calls ++ q.calls)
      short (inl s) = short_after p.0.calls q.calls s
      short (inr s) = short_before p.0.calls q.calls (p.2 s.0) s.1

  -- What is known of a round that has sent these bytes, and read nothing.
  abbrev HasSent : ℕ → List ℕ → ConnectionView → ConnectionView → S → S → Type 0
  HasSent judged bytes a c m n = (goes : Goes answers most_frames judged [] a c m n) × (length bytes ≤ length (sent goes.calls)) × (reads_of goes.calls ≡ 0)

  -- frames are answered, and replies written
  pub round_sent : (answered : Answered) (bytes : List ℕ) (live : LiveView) (a c : ConnectionView) (m n : S) → LiveAnswers answers answered a.live live m n → answered.frames ≤ most_frames
      → Sends bytes live c.live → Appends a.held c.held bytes → c.written ≡ counted (a.written + length bytes) → c.left ≡ a.left → c.turns ≡ a.turns → c.answered ≡ counted (a.answered + answered.frames) → StaysSo a c
      → c.has_lost ≡ a.has_lost → HasSent answered.bytes bytes a c m n
  round_sent answered bytes live a c m n does few sends appends written left turns count stays lost =
      let goes : Goes answers most_frames answered.bytes [] a c m n = record {
        calls = Answer answered ∷ Send bytes ∷ [];
        does = ((live, n), does, ((c.live, n), (sends, refl), refl));
        consumes = subst (λ (l : Option (List ℕ)). Consumes a.left l []) (sym left) (Consumes-nil a.left);
        appends = subst (Appends a.held c.held) (sym (append-nil bytes)) appends;
        written = omega (arith, written, length-append bytes []);
        makes = omega (arith, turns);
        answered = omega (arith, count);
        share = omega (arith, few);
        judged = omega arith;
        stays = stays;
        quiet = λ e. refl;
        loses_only = λ e. inl (sym lost ∙ e);
      } in
      (goes, omega (arith, length-append bytes []), refl)

  -- What is known of a round that has read this piece.
  abbrev HasRead : ℕ → List ℕ → List ℕ → ConnectionView → ConnectionView → S → S → Type 0
  HasRead judged piece lost a c m n = (goes : Goes answers most_frames judged lost a c m n) × (reads_for piece ≤ reads_of goes.calls) × (0 < length piece → length piece < room_bytes → EndsShort goes.calls)

  -- and then a piece is read
  pub round_read : (had_left : Bool) (judged : ℕ) (result : Result Bool TurnEnd) (a b c : ConnectionView) (m n : S) → Goes answers most_frames judged [] a b m n → (q : ReadsAs had_left result b c)
      → b.has_ended ≡ a.has_ended → HasRead (judged + 0) q.piece q.lost a c m n
  round_read had_left judged result a b c m n p q unended =
      let reads : Goes answers 0 0 q.lost b c n n = record {
        calls = Feed q.piece ∷ [];
        does = ((c.live, n), (q.feeds, refl), refl);
        consumes = subst (λ (l : List ℕ). Consumes b.left c.left (l ++ q.lost)) (sym (append-nil q.piece)) q.consumes;
        appends = subst (λ (l : Option (List ℕ)). Appends b.held l []) (sym q.held) (Appends-nil b.held);
        written = omega (arith, p.written, q.written);
        makes = subst (λ n. MakesReads n b c) (omega arith) q.makes;
        answered = omega (arith, p.answered, q.answered);
        share = omega arith;
        judged = refl;
        stays = q.stays;
        quiet = λ e. ap (λ (l : List ℕ). l ++ q.lost) (append-nil q.piece) ∙ q.quiet e;
        loses_only = q.loses_only;
      } in (
        goes_then most_frames 0 most_frames judged 0 q.lost a b c m n n p reads (omega arith) unended,
        omega (arith, reads_append p.calls (Feed q.piece ∷ [])),
        λ some short. record { before = p.calls; piece = q.piece; after = []; parts = refl; some = some; short = short; no_more = refl },
      )

  -- what ends the read ends the round
  pub round_ends : (had_left : Bool) (judged : ℕ) (result : Result Bool TurnEnd) (a b c : ConnectionView) (m n : S) (q : ReadsAs had_left result b c)
      → HasRead judged q.piece q.lost a c m n → b.has_ended ≡ a.has_ended → b.turns ≡ a.turns → Round answers had_left judged result a c m n
  round_ends had_left judged (Err after) a b c m n q goes same unread =
      let unmade : (had_left ≡ true) × (c.turns ≡ b.turns) → StaysShort had_left goes.0.calls = λ (h : (had_left ≡ true) × (c.turns ≡ b.turns)). (h.0, omega (arith, goes.0.makes, h.1, unread)) in
      (q.lost, goes.0, q.until.0, ends_then a b c same q.until.1, stops_by ((had_left ≡ true) × (c.turns ≡ b.turns)) (StaysShort had_left goes.0.calls) after c unmade q.until.2)
  round_ends had_left judged (Ok has_left) a b c m n q goes same unread =
      subst (λ (lost : List ℕ). HasRead judged q.piece lost a c m n → Round answers had_left judged (Ok has_left) a c m n) (sym q.until.0)
      (λ g. (g.0, q.until.1 ∙ same, (0, omega (arith, g.1, q.until.2), omega arith), q.until.3, λ e. inl (g.2 q.until.2 (q.until.4 e)))) goes

  -- a turn ends with a round
  pub turn_ends : (most rounds had has : ℕ) (had_left : Bool) (after : TurnEnd) (a b c : ConnectionView) (m n o : S) → rounds < most → IsInShare had has a
      → GoesOn answers rounds had had_left a b m n → b.has_ended ≡ a.has_ended → Round answers had_left has (Err after) b c n o → Turn most answers after a c m o
  turn_ends most rounds had has had_left after a b c m n o few share before same e =
      let further = goes_on rounds had has had_left e.0 a b c m n o before e.1 same in
      let goes = further.0 in
      record {
        calls = goes.calls;
        lost = e.0;
        does = goes.does;
        consumes = goes.consumes;
        appends = goes.appends;
        written = goes.written;
        makes = goes.makes;
        answered = goes.answered;
        share = omega (arith, goes.share, few);
        judges = λ unended. omega (arith, goes.judged, share.0 unended, share.1);
        may = goes.stays.0;
        closing = goes.stays.1;
        loses = e.2;
        ends = ends_then a b c same e.3;
        quiet = goes.quiet;
        loses_only = goes.loses_only;
        why = why after goes.calls (λ s. further.2 (inr s)) e.4;
      }
    where
      why : (after : TurnEnd) (calls : List LiveCall) → (StaysShort had_left e.1.calls → EndsShort calls) → StopsIn (StaysShort had_left e.1.calls) after c → EndsFor most after calls c
      why Waits calls short stops = waits_by (StaysShort had_left e.1.calls) (EndsShort calls) c short stops
      why Again calls short stops = absurd stops
      why (Over result) calls short stops = stops

  -- or after its share of rounds or of bytes
  pub turn_is_over : (most rounds bytes : ℕ) (had_left : Bool) (a b : ConnectionView) (m n : S) → 0 < rounds + bytes → rounds ≤ most → GoesOn answers rounds bytes had_left a b m n → b.has_ended ≡ a.has_ended
      → (a.has_ended ≡ false → bytes < turn_bytes + most_kept) → (rounds ≡ most) ⊎ ((turn_bytes ≤ bytes) × (b.has_ended ≡ false)) → Turn most answers Again a b m n
  turn_is_over most rounds bytes had_left a b m n some few (inl none) same share enough = absurd (omega (arith, some, none.0, none.4))
  turn_is_over most rounds bytes had_left a b m n some few (inr p) same share enough =
      let goes = p.0 in
      record {
        calls = goes.calls;
        lost = [];
        does = goes.does;
        consumes = goes.consumes;
        appends = goes.appends;
        written = goes.written;
        makes = goes.makes;
        answered = goes.answered;
        share = omega (arith, goes.share, few);
        judges = λ unended. omega (arith, goes.judged, share unended);
        may = goes.stays.0;
        closing = goes.stays.1;
        loses = refl;
        ends = inl same;
        quiet = goes.quiet;
        loses_only = goes.loses_only;
        why = why enough;
      }
    where
      why : (rounds ≡ most) ⊎ ((turn_bytes ≤ bytes) × (b.has_ended ≡ false)) → EndsFor most Again p.0.calls b
      why (inl all) = inl (subst (λ r. HadShare r p.0.calls) all p.1)
      why (inr many) = inr (omega (arith, p.0.judged, many.0), many.1)

-- no byte is lost
pub none_lost : (error : FrontError) → IsLost (Over (Err error)) []
none_lost BadLength = refl
none_lost Truncated = refl
none_lost ReadFault = refl
none_lost WriteFault = refl
none_lost TurnsUsed = refl
none_lost Memory = tt

-- what ends a session ends its connection, once all is sent
pub stops_for : (error : FrontError) (bytes : List ℕ) (live : LiveView) (c : ConnectionView) → StopsAt (Err error) live → Sends bytes live c.live → c.live.ready ≡ []
    → StopsFor (Err error) c
stops_for BadLength bytes live c stops sends none = (
  subst IsBadLength (sym sends.1) stops.0,
  ap (λ (l : List ℕ). l ++ c.live.later) none ∙ (sends.3 ∙ stops.1),
)
stops_for Truncated bytes live c stops sends none = absurd stops
stops_for ReadFault bytes live c stops sends none = absurd stops
stops_for WriteFault bytes live c stops sends none = absurd stops
stops_for TurnsUsed bytes live c stops sends none = absurd stops
stops_for Memory bytes live c stops sends none = inl (λ empty. stops (sym sends.3 ∙ empty))
