-- What comes of one read.
use Rattle.std.proofs.Common.{◌≡◌, ◌≢◌, ◌+◌, ℕ, List, [], ◌∷◌, Bool, refl, inl, sym, ap, arith, length, append-nil, Result, Ok, Err}
use Rattle.std.specs.Prelude.{◌<◌, true, false, not, Option}
use Rattle.std.specs.Io.KnownBytes.{Consumes, Keeps}
use Rattle.std.proofs.KnownBytes.{Consumes-nil, Consumes-kept}
use Rattle.wire.specs.declared.error.FrontError.{FrontError}
use Rattle.wire.specs.declared.error.FrontError.TheVariants.{BadLength, Truncated, ReadFault, WriteFault, TurnsUsed, Memory}
use Rattle.wire.proofs.FrameLemmas.{longer_by_frame}
use Rattle.frame_front.specs.Live.{LiveView, Feeds, FinishesAt, live_view}
use Rattle.workers.specs.declared.turn_end.TurnEnd.{TurnEnd}
use Rattle.workers.specs.Connection.{ConnectionView, MakesReads, has_bytes}
use Rattle.workers.specs.Private.Goes.{ReadsAs, ReadsUntil}

pub feeds_nothing : (live : LiveView) → Feeds [] live live
feeds_nothing live = ap (λ (kept : List ℕ). live_view kept live.terms live.ready live.later) (sym (append-nil live.kept))

-- some reads, and then others
pub makes_then : (m n total : ℕ) (a b c : ConnectionView) → MakesReads m a b → MakesReads n b c → m + n ≡ total → MakesReads total a c
makes_then m n total a b c p q e = omega (arith, p, q, e)

-- a connection, of which nothing changes but its stream, and whether its input has ended
abbrev pub after_read : ConnectionView → Option (List ℕ) → Bool → ConnectionView
after_read c left ended = record {
  live = c.live;
  answered = c.answered;
  written = c.written;
  turns = c.turns;
  has_ended = ended;
  has_lost = c.has_lost;
  is_closing = c.is_closing;
  may = c.may;
  left = left;
  held = c.held;
}

-- nothing reaches the session
pub reads_nothing : (c : ConnectionView) (left : Option (List ℕ)) (ended had_left : Bool) (result : Result Bool TurnEnd)
    → Consumes c.left left [] → ReadsUntil had_left result [] [] c (after_read c left ended) → ReadsAs had_left result c (after_read c left ended)
reads_nothing c left ended had_left result consumes until = record {
  piece = [];
  lost = [];
  feeds = feeds_nothing c.live;
  consumes = consumes;
  makes = omega arith;
  held = refl;
  written = refl;
  answered = refl;
  stays = (refl, refl);
  quiet = λ e. refl;
  loses_only = λ e. inl e;
  until = until;
}

-- a read that failed took nothing
pub nothing_taken : (old new : Option (List ℕ)) → Keeps old new → Consumes old new []
nothing_taken old new kept = Consumes-kept old old new [] (Consumes-nil old) kept

-- a frame is begun if there is a byte
some_bytes : (kept : List ℕ) → 0 < length kept → true ≡ has_bytes kept
some_bytes [] some = absurd (omega (arith, some))
some_bytes (byte ∷ kept) some = refl

some_kept : (kept : List ℕ) → kept ≢ [] → true ≡ has_bytes kept
some_kept [] some = absurd (some refl)
some_kept (byte ∷ kept) some = refl

-- what is kept of the input is empty, or not
pub has_begun : (is_empty : Bool) (kept : List ℕ) → FinishesAt (Ok is_empty) kept → not is_empty ≡ has_bytes kept
has_begun true kept none = ap has_bytes (sym none)
has_begun false kept whole = some_bytes kept (omega (arith, ap length whole.3, longer_by_frame whole.0 whole.1))

pub has_begun_badly : (error : FrontError) (kept : List ℕ) → FinishesAt (Err error) kept → true ≡ has_bytes kept
has_begun_badly BadLength kept bad = some_bytes kept (omega (arith, bad.has_length))
has_begun_badly Truncated kept unfinished = some_kept kept unfinished.1
has_begun_badly ReadFault kept never = absurd never
has_begun_badly WriteFault kept never = absurd never
has_begun_badly TurnsUsed kept never = absurd never
has_begun_badly Memory kept never = absurd never
