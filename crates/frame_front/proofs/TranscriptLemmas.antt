-- Lemmas on a call of `serve`: what stands after some turns, and each way to end.
use Rattle.std.proofs.Common.{◌≡◌, ℕ, ◌+◌, ◌*◌, ◌<◌, ◌≤◌, List, [], ◌++◌, length, refl, sym, ap, ◌∙◌, arith, append_assoc, length-append, subst, Result, Ok, Err}
use Rattle.std.specs.Prelude.{Option, false}
use Rattle.std.specs.List.{concat}
use Rattle.std.specs.Io.KnownBytes.{Appends, Consumes}
use Rattle.std.proofs.KnownBytes.{Appends-nil, Appends-trans, Consumes-nil, Consumes-trans}
use Rattle.std.proofs.lemmas.List.Folds.{concat-append}
use Rattle.map_core.specs.declared.op.Op.{Op}
use Rattle.map_core.specs.declared.reply.Reply.{Reply}
use Rattle.map_core.specs.declared.reply.AskError.{AskError}
use Rattle.wire.specs.declared.error.FrontError.{FrontError}
use Rattle.wire.specs.declared.error.FrontError.TheVariants.{BadLength, Truncated, ReadFault, WriteFault, TurnsUsed, Memory}
use Rattle.frame_front.specs.declared.terms.Terms.{Terms}
use Rattle.frame_front.specs.Terms.{begun}
use Rattle.wire.specs.Frame.{IsUnfinished}
use Rattle.frame_front.specs.Session.{SessionState, Serves, EndsAt, Writes}
use Rattle.frame_front.specs.Private.Round.{Round, RoundEndsAt}
use Rattle.frame_front.specs.Transcript.{Transcript, EndsInput, UsesTurns, IsReadIn}
use Rattle.frame_front.proofs.SessionLemmas.{Serves-none, Serves-read, Serves-then, fewer_than_bytes}

-- After some turns all whole frames read are answered, and no bad length follows them.
pub record SoFar {S : Type 0} (answers : S → Op → Result Reply AskError → S → Type 0)
    (left_old left held_old held : Option (List ℕ)) (old now : SessionState S) (kept : List ℕ) (turn answered : ℕ) : Type 0 where
  pub read : List ℕ
  pub payloads : List (List ℕ)
  pub texts : List (List ℕ)
  pub consumes : Consumes left_old left read
  pub appends : Appends held_old held (concat texts)
  pub serves : Serves answers read payloads texts kept old now
  pub unfinished : IsUnfinished kept
  pub counted : answered ≡ length payloads
  pub at_least : turn ≤ length read
  pub at_most : length read ≤ 4096 * turn

pub nothing_unfinished : IsUnfinished []
nothing_unfinished = record { good = λ h. absurd (omega arith); short = λ h. absurd (omega arith) }

-- an error of a round is one of the session
Round-ends : (fault : FrontError) (n m : ℕ) (rest kept : List ℕ) → RoundEndsAt (Err fault) n rest kept → EndsAt (Err fault) m rest
Round-ends BadLength n m rest kept h = h
Round-ends WriteFault n m rest kept h = tt
Round-ends Memory n m rest kept h = tt
Round-ends Truncated n m rest kept h = absurd h
Round-ends ReadFault n m rest kept h = absurd h
Round-ends TurnsUsed n m rest kept h = absurd h

Round-input : (fault : FrontError) (n : ℕ) (rest kept : List ℕ) (left : Option (List ℕ)) → RoundEndsAt (Err fault) n rest kept → EndsInput (Err fault) left
Round-input BadLength n rest kept left h = tt
Round-input WriteFault n rest kept left h = tt
Round-input Memory n rest kept left h = tt
Round-input Truncated n rest kept left h = absurd h
Round-input ReadFault n rest kept left h = tt
Round-input TurnsUsed n rest kept left h = tt

Round-used : (fault : FrontError) (n turns bytes : ℕ) (rest kept : List ℕ) → RoundEndsAt (Err fault) n rest kept → UsesTurns (Err fault) turns bytes
Round-used BadLength n turns bytes rest kept h = tt
Round-used WriteFault n turns bytes rest kept h = tt
Round-used Memory n turns bytes rest kept h = tt
Round-used Truncated n turns bytes rest kept h = tt
Round-used ReadFault n turns bytes rest kept h = tt
Round-used TurnsUsed n turns bytes rest kept h = absurd h

abbrev pub ended_by : FrontError → Result ℕ FrontError
ended_by fault = Err fault

more_bytes : (result : Result ℕ FrontError) (turns a b : ℕ) → a ≤ b → UsesTurns result turns a → UsesTurns result turns b
more_bytes (Ok count) turns a b le h = tt
more_bytes (Err BadLength) turns a b le h = tt
more_bytes (Err Truncated) turns a b le h = tt
more_bytes (Err ReadFault) turns a b le h = tt
more_bytes (Err WriteFault) turns a b le h = tt
more_bytes (Err Memory) turns a b le h = tt
more_bytes (Err TurnsUsed) turns a b le h = omega arith

both_whole : (ts us : List (List ℕ)) (written : List ℕ) → written ≡ concat us → concat ts ++ written ≡ concat (ts ++ us)
both_whole ts us written h = ap (λ w. concat ts ++ w) h ∙ sym (concat-append ts us)

Round-writes : (fault : FrontError) (ts us : List (List ℕ)) (written : List ℕ) → Writes (Err fault) us written → Writes (Err fault) (ts ++ us) (concat ts ++ written)
Round-writes BadLength ts us written h = both_whole ts us written h
Round-writes Truncated ts us written h = both_whole ts us written h
Round-writes ReadFault ts us written h = both_whole ts us written h
Round-writes TurnsUsed ts us written h = both_whole ts us written h
Round-writes Memory ts us written h = both_whole ts us written h
Round-writes WriteFault ts us written h = record {
  before = ts ++ h.before;
  gathered = h.gathered;
  alone = h.alone;
  front = h.front;
  missing = h.missing;
  texts_are = ap (λ u. ts ++ u) h.texts_are ∙ sym (append_assoc ts (h.before ++ h.gathered) h.alone) ∙ ap (λ u. u ++ h.alone) (sym (append_assoc ts h.before h.gathered));
  written_is = ap (λ w. concat ts ++ w) h.written_is ∙ sym (append_assoc (concat ts) (concat h.before) h.front)
      ∙ ap (λ w. w ++ h.front) (sym (concat-append ts h.before));
  cut = h.cut;
  no_errors = h.no_errors;
  one = h.one;
}

module _ {S : Type 0} (answers : S → Op → Result Reply AskError → S → Type 0) where
  -- a round answers no more frames than there are bytes
  pub Round-bound : (count : ℕ) (kept kept_new written : List ℕ) (old new : SessionState S)
      → Round answers (Ok count) kept kept_new old new written → count ≤ length kept
  Round-bound count kept kept_new written old new round =
      omega (arith, round.ends.0, fewer_than_bytes round.payloads round.rest, ap length round.serves.whole)

  pub SoFar-none : (left held : Option (List ℕ)) (state : SessionState S) (kept : List ℕ) → kept ≡ []
      → SoFar answers left left held held state state kept 0 0
  SoFar-none left held state kept none = record {
    read = kept;
    payloads = [];
    texts = [];
    consumes = subst (Consumes left left) (sym none) (Consumes-nil left);
    appends = Appends-nil held;
    serves = Serves-none answers kept state;
    unfinished = subst IsUnfinished (sym none) nothing_unfinished;
    counted = refl;
    at_least = omega arith;
    at_most = omega (arith, ap length none);
  }

  module _ (left_old left held_old held : Option (List ℕ)) (start now : S) (terms : Terms) (kept : List ℕ) (turn answered : ℕ)
      (so_far : SoFar answers left_old left held_old held (begun false, start) (terms, now) kept turn answered) where
    joined : (piece kept_new : List ℕ) (payloads texts : List (List ℕ)) (new : SessionState S) → Serves answers (kept ++ piece) payloads texts kept_new (terms, now) new
        → Serves answers (so_far.read ++ piece) (so_far.payloads ++ payloads) (so_far.texts ++ texts) kept_new (begun false, start) new
    joined piece kept_new payloads texts new more =
        Serves-then answers (so_far.read ++ piece) (kept ++ piece) kept_new so_far.payloads payloads so_far.texts texts (begun false, start) (terms, now) new
        (Serves-read answers so_far.read kept piece so_far.payloads so_far.texts (begun false, start) (terms, now) so_far.serves) more

    -- what a round after one more piece leaves
    pub SoFar-then : (left_new held_new : Option (List ℕ)) (piece written kept_new : List ℕ) (new : SessionState S) (count : ℕ)
        → Consumes left left_new piece → 0 < length piece → length piece ≤ 4096 → Appends held held_new written
        → Round answers (Ok count) (kept ++ piece) kept_new (terms, now) new written
        → SoFar answers left_old left_new held_old held_new (begun false, start) new kept_new (turn + 1) (answered + count)
    SoFar-then left_new held_new piece written kept_new new count took some few wrote round = record {
      read = so_far.read ++ piece;
      payloads = so_far.payloads ++ round.payloads;
      texts = so_far.texts ++ round.texts;
      consumes = Consumes-trans left_old left left_new so_far.read piece so_far.consumes took;
      appends = subst (Appends held_old held_new) (both_whole so_far.texts round.texts written round.writes)
          (Appends-trans held_old held held_new (concat so_far.texts) written so_far.appends wrote);
      serves = subst (λ r. Serves answers (so_far.read ++ piece) (so_far.payloads ++ round.payloads) (so_far.texts ++ round.texts) r (begun false, start) new) round.ends.1
          (joined piece round.rest round.payloads round.texts new round.serves);
      unfinished = subst IsUnfinished round.ends.1 round.ends.2;
      counted = omega (arith, so_far.counted, round.ends.0, length-append so_far.payloads round.payloads);
      at_least = omega (arith, so_far.at_least, length-append so_far.read piece);
      at_most = omega (arith, so_far.at_most, length-append so_far.read piece);
    }

    -- what is read, with one more piece
    read_in : (piece : List ℕ) (turns : ℕ) → 4096 * turn + length piece ≤ 4096 * turns → IsReadIn turns (so_far.read ++ piece)
    read_in piece turns few = omega (arith, few, so_far.at_most, length-append so_far.read piece)

    -- a round after one more piece failed
    pub Transcript-round : (left_new held_new : Option (List ℕ)) (piece written kept_new : List ℕ) (new : S) (last : Terms) (fault : FrontError) (turns : ℕ)
        → 4096 * turn + length piece ≤ 4096 * turns → Consumes left left_new piece → Appends held held_new written
        → Round answers (Err fault) (kept ++ piece) kept_new (terms, now) (last, new) written
        → Transcript answers (Err fault) turns left_old left_new held_old held_new start new
    Transcript-round left_new held_new piece written kept_new new last fault turns few took wrote round = record {
      read = so_far.read ++ piece;
      written = concat so_far.texts ++ written;
      terms = last;
      consumes = Consumes-trans left_old left left_new so_far.read piece so_far.consumes took;
      appends = Appends-trans held_old held held_new (concat so_far.texts) written so_far.appends wrote;
      session = record {
        payloads = so_far.payloads ++ round.payloads;
        texts = so_far.texts ++ round.texts;
        rest = round.rest;
        serves = joined piece round.rest round.payloads round.texts (last, new) round.serves;
        ends = Round-ends fault _ _ round.rest kept_new round.ends;
        writes = Round-writes fault so_far.texts round.texts written round.writes;
      };
      few_read = read_in piece turns few;
      used = Round-used fault (length round.payloads) turns _ round.rest kept_new round.ends;
      ended = Round-input fault (length round.payloads) round.rest kept_new left_new round.ends;
    }

    -- a piece was read, and there was no memory to keep it
    pub Transcript-unkept : (left_new : Option (List ℕ)) (piece : List ℕ) (turns : ℕ) → 4096 * turn + length piece ≤ 4096 * turns → Consumes left left_new piece
        → Transcript answers (Err Memory) turns left_old left_new held_old held start now
    Transcript-unkept left_new piece turns few took = record {
      read = so_far.read ++ piece;
      written = concat so_far.texts;
      terms = terms;
      consumes = Consumes-trans left_old left left_new so_far.read piece so_far.consumes took;
      appends = so_far.appends;
      session = record {
        payloads = so_far.payloads;
        texts = so_far.texts;
        rest = kept ++ piece;
        serves = Serves-read answers so_far.read kept piece so_far.payloads so_far.texts (begun false, start) (terms, now) so_far.serves;
        ends = tt;
        writes = refl;
      };
      few_read = read_in piece turns few;
      used = tt;
      ended = tt;
    }

    -- what is kept and what is answered is no more than what was read
    pub SoFar-bounds : (length kept ≤ 4096 * turn) × (answered + length kept ≤ 4096 * turn)
    SoFar-bounds =
        let few = fewer_than_bytes so_far.payloads kept in
        let whole = ap length so_far.serves.whole in
        (omega (arith, so_far.at_most), omega (arith, so_far.at_most, so_far.counted))
