-- Lemmas on sessions: what was read, answered and written, put together.
use Rattle.std.proofs.Common.{◌≡◌, ℕ, ◌+◌, ◌≤◌, List, [], ◌∷◌, ◌++◌, length, refl, sym, ap, ◌∙◌, arith, append_assoc, append-nil, length-append, subst, Result, Err, false}
use Rattle.std.specs.Prelude.{Bool, Option}
use Rattle.std.specs.List.{AllByRecursion, concat, flat_map}
use Rattle.std.specs.Io.KnownBytes.{Appends}
use Rattle.std.proofs.KnownBytes.{Appends-nil, Appends-trans}
use Rattle.std.proofs.lemmas.List.Concat.{flat_map-append}
use Rattle.std.proofs.lemmas.List.Folds.{concat-append}
use Rattle.map_core.specs.declared.op.Op.{Op}
use Rattle.map_core.specs.declared.reply.Reply.{Reply}
use Rattle.map_core.specs.declared.reply.AskError.{AskError}
use Rattle.wire.specs.Frame.{IsPayload, frame, stream_of}
use Rattle.frame_front.specs.Live.{LiveView, StopsAt, live_view, waiting}
use Rattle.wire.specs.Output.{WritesFront}
use Rattle.frame_front.specs.Session.{SessionState, Answers, AnswersAll, Serves, Writes}
use Rattle.frame_front.specs.Private.Round.{Round, RoundEndsAt}
use Rattle.frame_front.specs.Private.Steps.{AnswersFrame, Stays}
use Rattle.wire.specs.declared.error.FrontError.{FrontError}
use Rattle.wire.specs.declared.error.FrontError.TheVariants.{BadLength, Truncated, ReadFault, WriteFault, TurnsUsed, Memory}
use Rattle.frame_front.proofs.BegunTexts.{NoErrors, no_errors-append}
use Rattle.wire.proofs.FrameLemmas.{longer_by_frame}

pub each-append : (ps qs : List (List ℕ)) → AllByRecursion IsPayload ps → AllByRecursion IsPayload qs → AllByRecursion IsPayload (ps ++ qs)
each-append [] qs a b = b
each-append (p ∷ ps) qs a b = (a.0, each-append ps qs a.1 b)

pub stream_of-append : (ps qs : List (List ℕ)) (rest : List ℕ) → stream_of (ps ++ qs) rest ≡ stream_of ps (stream_of qs rest)
stream_of-append ps qs rest = ap (λ s. s ++ rest) (flat_map-append frame ps qs) ∙ append_assoc (flat_map frame ps) (flat_map frame qs) rest

-- each payload takes some bytes
pub fewer_than_bytes : (ps : List (List ℕ)) (rest : List ℕ) → length ps + length rest ≤ length (stream_of ps rest)
fewer_than_bytes [] rest = omega arith
fewer_than_bytes (p ∷ ps) rest =
    omega (arith, fewer_than_bytes ps rest, longer_by_frame p (stream_of ps rest), ap length (append_assoc (frame p) (flat_map frame ps) rest))

module _ {S : Type 0} (answers : S → Op → Result Reply AskError → S → Type 0) where
  -- one list of payloads is answered after another
  AnswersAll-then : (ps qs ts us : List (List ℕ)) (old mid new : SessionState S)
      → AnswersAll answers old ps ts mid → AnswersAll answers mid qs us new → AnswersAll answers old (ps ++ qs) (ts ++ us) new
  AnswersAll-then [] qs [] us old mid new a b = subst (λ m. AnswersAll answers m qs us new) a b
  AnswersAll-then [] qs (t ∷ ts) us old mid new a b = absurd a
  AnswersAll-then (p ∷ ps) qs [] us old mid new a b = absurd a
  AnswersAll-then (p ∷ ps) qs (t ∷ ts) us old mid new a b = (a.0, a.1, AnswersAll-then ps qs ts us a.0 mid new a.2 b)

  -- nothing is served yet
  pub Serves-none : (kept : List ℕ) (state : SessionState S) → Serves answers kept [] [] kept state state
  Serves-none kept state = record { whole = refl; each = tt; answered = refl }

  -- more is read
  pub Serves-read : (read kept piece : List ℕ) (ps ts : List (List ℕ)) (old new : SessionState S)
      → Serves answers read ps ts kept old new → Serves answers (read ++ piece) ps ts (kept ++ piece) old new
  Serves-read read kept piece ps ts old new a = record {
    whole = ap (λ r. r ++ piece) a.whole ∙ append_assoc (flat_map frame ps) kept piece;
    each = a.each;
    answered = a.answered;
  }

  -- what is kept is served
  pub Serves-then : (read kept rest : List ℕ) (ps qs ts us : List (List ℕ)) (old mid new : SessionState S)
      → Serves answers read ps ts kept old mid → Serves answers kept qs us rest mid new → Serves answers read (ps ++ qs) (ts ++ us) rest old new
  Serves-then read kept rest ps qs ts us old mid new a b = record {
    whole = a.whole ∙ ap (stream_of ps) b.whole ∙ sym (stream_of-append ps qs rest);
    each = each-append ps qs a.each b.each;
    answered = AnswersAll-then ps qs ts us old mid new a.answered b.answered;
  }

  -- one frame is served
  pub Serves-one : (kept rest payload text : List ℕ) (old new : SessionState S)
      → kept ≡ frame payload ++ rest → IsPayload payload → Answers answers old payload text new
      → Serves answers kept (payload ∷ []) (text ∷ []) rest old new
  Serves-one kept rest payload text old new stands good answered = record {
    whole = stands ∙ ap (λ f. f ++ rest) (sym (append-nil (frame payload)));
    each = (good, tt);
    answered = (new, answered, refl);
  }

-- the texts with one more at the end
pub concat-one : (ts : List (List ℕ)) (text : List ℕ) → concat (ts ++ text ∷ []) ≡ concat ts ++ text
concat-one ts text = concat-append ts (text ∷ []) ∙ ap (λ t. concat ts ++ t) (append-nil text)

-- Within a round these payloads were answered: the texts before are written, and those gathered wait.
pub record Gathering {S : Type 0} (answers : S → Op → Result Reply AskError → S → Type 0)
    (held_old held : Option (List ℕ)) (start now : LiveView) (map_start map_now : S) (count : ℕ) : Type 0 where
  pub payloads : List (List ℕ)
  pub before : List (List ℕ)
  pub gathered : List (List ℕ)
  pub serves : Serves answers start.kept payloads (before ++ gathered) now.kept (start.terms, map_start) (now.terms, map_now)
  pub appends : Appends held_old held (concat before)
  pub waits : waiting now ≡ concat gathered
  pub no_errors : NoErrors gathered
  pub counted : count ≡ length payloads

-- The same when all that waits is to be written: maybe with one more text, which may tell an error.
pub record Due {S : Type 0} (answers : S → Op → Result Reply AskError → S → Type 0)
    (held_old held : Option (List ℕ)) (start now : LiveView) (map_start map_now : S) (count : ℕ) : Type 0 where
  pub payloads : List (List ℕ)
  pub before : List (List ℕ)
  pub gathered : List (List ℕ)
  pub alone : List (List ℕ)
  pub serves : Serves answers start.kept payloads ((before ++ gathered) ++ alone) now.kept (start.terms, map_start) (now.terms, map_now)
  pub appends : Appends held_old held (concat before)
  pub waits : waiting now ≡ concat (gathered ++ alone)
  pub no_errors : NoErrors gathered
  pub one : length alone ≤ 1
  pub counted : count ≡ length payloads

module _ {S : Type 0} (answers : S → Op → Result Reply AskError → S → Type 0) (held_old : Option (List ℕ)) (start : LiveView) (map_start : S) where
  pub Gathering-none : waiting start ≡ [] → Gathering answers held_old held_old start start map_start map_start 0
  Gathering-none none = record {
    payloads = [];
    before = [];
    gathered = [];
    serves = Serves-none answers start.kept (start.terms, map_start);
    appends = Appends-nil held_old;
    waits = none;
    no_errors = tt;
    counted = refl;
  }

  module _ (held : Option (List ℕ)) (now new : LiveView) (map_now map_new : S) (count : ℕ) (so_far : Gathering answers held_old held start now map_start map_now count) where
    -- one more frame is answered
    module _ (is_error : Bool) (step : AnswersFrame answers is_error now new map_now map_new) where
      one_more : Serves answers start.kept (so_far.payloads ++ step.payload ∷ []) ((so_far.before ++ so_far.gathered) ++ step.text ∷ []) new.kept (start.terms, map_start) (new.terms, map_new)
      one_more =
          Serves-then answers start.kept now.kept new.kept so_far.payloads (step.payload ∷ []) (so_far.before ++ so_far.gathered) (step.text ∷ [])
          (start.terms, map_start) (now.terms, map_now) (new.terms, map_new) so_far.serves
          (Serves-one answers now.kept new.kept step.payload step.text (now.terms, map_now) (new.terms, map_new) step.stands step.good step.answered)

      one_waits : waiting new ≡ concat (so_far.gathered ++ step.text ∷ [])
      one_waits = step.waits ∙ ap (λ w. w ++ step.text) so_far.waits ∙ sym (concat-one so_far.gathered step.text)

      one_counted : count + 1 ≡ length (so_far.payloads ++ step.payload ∷ [])
      one_counted = omega (arith, so_far.counted, length-append so_far.payloads (step.payload ∷ []))

      -- its reply tells no error, and waits
      pub Gathering-then : is_error ≡ false → Gathering answers held_old held start new map_start map_new (count + 1)
      Gathering-then none = record {
        payloads = so_far.payloads ++ step.payload ∷ [];
        before = so_far.before;
        gathered = so_far.gathered ++ step.text ∷ [];
        serves = subst (λ ts. Serves answers start.kept (so_far.payloads ++ step.payload ∷ []) ts new.kept (start.terms, map_start) (new.terms, map_new))
            (append_assoc so_far.before so_far.gathered (step.text ∷ [])) one_more;
        appends = so_far.appends;
        waits = one_waits;
        no_errors = no_errors-append so_far.gathered (step.text ∷ []) so_far.no_errors (sym step.tells ∙ none, tt);
        counted = one_counted;
      }

      -- its reply does not wait
      pub Due-then : Due answers held_old held start new map_start map_new (count + 1)
      Due-then = record {
        payloads = so_far.payloads ++ step.payload ∷ [];
        before = so_far.before;
        gathered = so_far.gathered;
        alone = step.text ∷ [];
        serves = one_more;
        appends = so_far.appends;
        waits = one_waits;
        no_errors = so_far.no_errors;
        one = omega arith;
        counted = one_counted;
      }

    -- no frame is answered
    pub Due-still : Stays answers now new map_now map_new → Due answers held_old held start new map_start map_new count
    Due-still stays = record {
      payloads = so_far.payloads;
      before = so_far.before;
      gathered = so_far.gathered;
      alone = [];
      serves = rw (stays.0, stays.1, stays.3) (subst (λ ts. Serves answers start.kept so_far.payloads ts now.kept (start.terms, map_start) (now.terms, map_now))
          (sym (append-nil (so_far.before ++ so_far.gathered))) so_far.serves);
      appends = so_far.appends;
      waits = stays.2 ∙ so_far.waits ∙ ap concat (sym (append-nil so_far.gathered));
      no_errors = so_far.no_errors;
      one = omega arith;
      counted = so_far.counted;
    }

  module _ (held held_new : Option (List ℕ)) (now : LiveView) (map_now : S) (count : ℕ) (due : Due answers held_old held start now map_start map_now count) where
    all_written : Appends held held_new (waiting now) → Appends held_old held_new (concat ((due.before ++ due.gathered) ++ due.alone))
    all_written wrote =
        subst (Appends held_old held_new)
        (ap (λ w. concat due.before ++ w) due.waits ∙ sym (concat-append due.before (due.gathered ++ due.alone))
        ∙ ap concat (sym (append_assoc due.before due.gathered due.alone)))
        (Appends-trans held_old held held_new (concat due.before) (waiting now) due.appends wrote)

    -- all that waits is written
    pub Due-sent : (new : LiveView) → Appends held held_new (waiting now) → new ≡ live_view now.kept now.terms [] []
        → Gathering answers held_old held_new start new map_start map_now count
    Due-sent new wrote is = record {
      payloads = due.payloads;
      before = (due.before ++ due.gathered) ++ due.alone;
      gathered = [];
      serves = rw is (subst (λ ts. Serves answers start.kept due.payloads ts now.kept (start.terms, map_start) (now.terms, map_now))
          (sym (append-nil ((due.before ++ due.gathered) ++ due.alone))) due.serves);
      appends = all_written wrote;
      waits = ap waiting is;
      no_errors = tt;
      counted = due.counted;
    }

    -- all is written, and the round ends
    pub Round-sent : (result : Result ℕ FrontError) (new : LiveView) → Appends held held_new (waiting now) → new ≡ live_view now.kept now.terms [] []
        → RoundEndsAt result (length due.payloads) now.kept now.kept
        → Writes result ((due.before ++ due.gathered) ++ due.alone) (concat ((due.before ++ due.gathered) ++ due.alone))
        → (written : List ℕ) × Appends held_old held_new written × Round answers result start.kept new.kept (start.terms, map_start) (new.terms, map_now) written
    Round-sent result new wrote is ends writes = rw is (
      concat ((due.before ++ due.gathered) ++ due.alone),
      all_written wrote,
      record {
        payloads = due.payloads;
        texts = (due.before ++ due.gathered) ++ due.alone;
        rest = now.kept;
        serves = due.serves;
        ends = ends;
        writes = writes;
      },
    )

    -- the session stops with an error, which is that of a bad length or of a reply for which there is no memory
    pub stopped_round : (fault : FrontError) (new : LiveView) → Appends held held_new (waiting now) → new ≡ live_view now.kept now.terms [] [] → StopsAt (Err fault) now
        → (written : List ℕ) × Appends held_old held_new written × Round answers (Err fault) start.kept new.kept (start.terms, map_start) (new.terms, map_now) written
    stopped_round BadLength new wrote is stops = Round-sent (Err BadLength) new wrote is stops.0 refl
    stopped_round Memory new wrote is stops = Round-sent (Err Memory) new wrote is tt refl
    stopped_round Truncated new wrote is stops = absurd stops
    stopped_round ReadFault new wrote is stops = absurd stops
    stopped_round WriteFault new wrote is stops = absurd stops
    stopped_round TurnsUsed new wrote is stops = absurd stops

    -- the writer fails
    pub Round-unsent : (new : LiveView) → WritesFront held held_new (waiting now) → new.terms ≡ now.terms
        → (written : List ℕ) × Appends held_old held_new written × Round answers (Err WriteFault) start.kept new.kept (start.terms, map_start) (new.terms, map_now) written
    Round-unsent new wrote same = rw same (
      concat due.before ++ wrote.front,
      Appends-trans held_old held held_new (concat due.before) wrote.front due.appends wrote.appends,
      record {
        payloads = due.payloads;
        texts = (due.before ++ due.gathered) ++ due.alone;
        rest = now.kept;
        serves = due.serves;
        ends = tt;
        writes = record {
          before = due.before;
          gathered = due.gathered;
          alone = due.alone;
          front = wrote.front;
          missing = wrote.missing;
          texts_are = refl;
          written_is = refl;
          cut = sym due.waits ∙ wrote.split;
          no_errors = due.no_errors;
          one = due.one;
        };
      },
    )
