-- Sessions over one state are sessions over what is seen of it.
use Rattle.std.proofs.Common.{◌≡◌, List, [], ◌∷◌, ◌++◌, refl, sym, ap, subst, inl, inr}
use Rattle.std.specs.Prelude.{ℕ, Bool, true, false, Result, Ok, Err}
use Rattle.map_core.specs.declared.op.Op.{Op}
use Rattle.map_core.specs.declared.reply.Reply.{Reply}
use Rattle.map_core.specs.declared.reply.AskError.{AskError}
use Rattle.wire.specs.declared.judge.Judged.{Judged}
use Rattle.wire.specs.declared.judge.Judged.TheVariants.{Ask, SetVersion, TellCounts}
use Rattle.wire.specs.declared.refusal.Refusal.{Refusal}
use Rattle.wire.specs.Judge.{request_of}
use Rattle.frame_front.specs.Session.{SessionState, AnswersRequest, AnswersUnless, Answers, AnswersAll}
use Rattle.frame_front.specs.Terms.{is_turned_away}
use Rattle.workers.specs.Ended.{EndsView}
use Rattle.frame_front.specs.Live.{LiveView}
use Rattle.frame_front.specs.LiveCalls.{LiveCall, Does, DoesAll, Feed, Answer, Send}
use Rattle.workers.specs.Gate.{AnsweredBehind}
use Rattle.map_core.specs.Op.{is_read}
use Rattle.workers.specs.AtPort.{PortAnswer}
use Rattle.workers.specs.Connection.{ConnectionView, Turn, turn_rounds, last_rounds}
use Rattle.workers.specs.declared.turn_end.TurnEnd.{TurnEnd}
use Rattle.workers.specs.declared.limits.Patience.{Patience}
use Rattle.workers.specs.Places.{Places, Step, Opens, Turns, Misses, Ticks, Skips, Spares, Closes, GivesUp, Expires, Ends, Fails, Takes, TakesAll, ServedAll, nobody}

module _ {S T : Type 0} (answers : S → Op → Result Reply AskError → S → Type 0) (answers_seen : T → Op → Result Reply AskError → T → Type 0)
    (seen : S → T) (Stays : S → Type 0)
    (each : (s : S) (op : Op) (answer : Result Reply AskError) (t : S) → Stays s → answers s op answer t → Stays t × answers_seen (seen s) op answer (seen t)) where
  abbrev seen_state : SessionState S → SessionState T
  seen_state s = (s.0, seen s.1)

  same_seen : (old new : SessionState S) → Stays old.1 → new ≡ old → Stays new.1 × (seen_state new ≡ seen_state old)
  same_seen old new stays e = (subst (λ (s : SessionState S). Stays s.1) (sym e) stays, ap seen_state e)

  request_seen : (r : Result Judged Refusal) (old : SessionState S) (text : List ℕ) (new : SessionState S) → Stays old.1
      → AnswersRequest answers r old text new → Stays new.1 × AnswersRequest answers_seen r (seen_state old) text (seen_state new)
  request_seen (Err refusal) old text new stays a = let s = same_seen old new stays a.1 in (s.0, (a.0, s.1))
  request_seen (Ok (SetVersion version)) old text new stays a = let s = same_seen (record old.0 { version = version }, old.1) new stays a.1 in (s.0, (a.0, s.1))
  request_seen (Ok TellCounts) old text new stays a = let s = same_seen old new stays a.3 in (s.0, (a.0, a.1, a.2, s.1))
  request_seen (Ok (Ask op)) old text new stays a = let s = each old.1 op a.0 new.1 stays a.1 in (s.0, (a.0, s.1, a.2, a.3))

  answer_seen : (old : SessionState S) (payload text : List ℕ) (new : SessionState S) → Stays old.1
      → Answers answers old payload text new → Stays new.1 × Answers answers_seen (seen_state old) payload text (seen_state new)
  answer_seen old payload text new stays a = unless (is_turned_away old.0.reads_only payload) a
    where
      unless : (away : Bool) → AnswersUnless answers away old payload text new → Stays new.1 × AnswersUnless answers_seen away (seen_state old) payload text (seen_state new)
      unless true a = let s = same_seen old new stays a.1 in (s.0, (a.0, s.1))
      unless false (inl a) = let s = request_seen (request_of old.0.version payload) old text new stays a in (s.0, inl s.1)
      unless false (inr a) = let s = same_seen old new stays a.1 in (s.0, inr (a.0, s.1))

  all_seen : (old : SessionState S) (payloads texts : List (List ℕ)) (new : SessionState S) → Stays old.1
      → AnswersAll answers old payloads texts new → Stays new.1 × AnswersAll answers_seen (seen_state old) payloads texts (seen_state new)
  all_seen old [] [] new stays a = same_seen old new stays a
  all_seen old (payload ∷ payloads) (text ∷ texts) new stays a =
      let one = answer_seen old payload text a.0 stays a.1 in
      let rest = all_seen a.0 payloads texts new one.0 a.2 in
      (rest.0, (seen_state a.0, one.1, rest.1))
  all_seen old [] (text ∷ texts) new stays a = absurd a
  all_seen old (payload ∷ payloads) [] new stays a = absurd a

  does_seen : (call : LiveCall) (old new : LiveView × S) → Stays old.1 → Does answers call old new
      → Stays new.1 × Does answers_seen call (old.0, seen old.1) (new.0, seen new.1)
  does_seen (Feed piece) old new stays d = (subst Stays (sym d.1) stays, (d.0, ap seen d.1))
  does_seen (Send bytes) old new stays d = (subst Stays (sym d.1) stays, (d.0, ap seen d.1))
  does_seen (Answer result) old new stays d =
      let all = all_seen _ d.payloads d.texts _ stays d.serves.answered in (
        all.0,
        record {
          payloads = d.payloads;
          texts = d.texts;
          serves = record { whole = d.serves.whole; each = d.serves.each; answered = all.1 };
          waits = d.waits;
          few = d.few;
          counted = d.counted;
          bytes = d.bytes;
          stops = d.stops;
        },
      )

  -- calls of a session over one state are calls over what is seen of it
  pub does_all_seen : (calls : List LiveCall) (old new : LiveView × S) → Stays old.1 → DoesAll answers calls old new
      → Stays new.1 × DoesAll answers_seen calls (old.0, seen old.1) (new.0, seen new.1)
  does_all_seen [] old new stays d = (subst (λ (s : LiveView × S). Stays s.1) (sym d) stays, ap (λ (s : LiveView × S). (s.0, seen s.1)) d)
  does_all_seen (call ∷ calls) old new stays d =
      let one = does_seen call old d.0 stays d.1 in
      let rest = does_all_seen calls d.0 new one.0 d.2 in
      (rest.0, ((d.0.0, seen d.0.1), one.1, rest.1))

  pub turn_seen : (rounds : ℕ) (after : TurnEnd) (a b : ConnectionView) (old new : S) → Stays old → Turn rounds answers after a b old new
      → Stays new × Turn rounds answers_seen after a b (seen old) (seen new)
  turn_seen rounds after a b old new stays t =
      let all = does_all_seen t.calls (a.live, old) (b.live, new) stays t.does in (
        all.0,
        record {
          calls = t.calls;
          lost = t.lost;
          does = all.1;
          consumes = t.consumes;
          appends = t.appends;
          written = t.written;
          makes = t.makes;
          answered = t.answered;
          share = t.share;
          judges = t.judges;
          may = t.may;
          closing = t.closing;
          loses = t.loses;
          loses_only = t.loses_only;
          ends = t.ends;
          quiet = t.quiet;
          why = t.why;
        },
      )

-- ---- at a port

module _ {S T : Type 0} (answers : S → Op → Result Reply AskError → S → Type 0) (answers_seen : T → Op → Result Reply AskError → T → Type 0)
    (seen : S → T) (Stays : S → Type 0)
    (each : (s : S) (op : Op) (answer : Result Reply AskError) (t : S) → Stays s → answers s op answer t → Stays t × answers_seen (seen s) op answer (seen t)) where
  behind_seen : (is_open : Bool) (s : S) (op : Op) (answer : Result Reply AskError) (t : S) → Stays s
      → AnsweredBehind answers is_open s op answer t → Stays t × AnsweredBehind answers_seen is_open (seen s) op answer (seen t)
  behind_seen true s op answer t stays a = each s op answer t stays a
  behind_seen false s op answer t stays a = (subst Stays (sym a.1) stays, (a.0, ap seen a.1))

  port_seen : (reads_only : Bool) (s : S) (op : Op) (answer : Result Reply AskError) (t : S) → Stays s
      → PortAnswer answers reads_only s op answer t → Stays t × PortAnswer answers_seen reads_only (seen s) op answer (seen t)
  port_seen true s op answer t stays a = behind_seen (is_read op) s op answer t stays a
  port_seen false s op answer t stays a = each s op answer t stays a

  port_turn_seen : (rounds : ℕ) (reads_only : Bool) (after : TurnEnd) (a b : ConnectionView) (old new : S) → Stays old
      → Turn rounds (PortAnswer answers reads_only) after a b old new → Stays new × Turn rounds (PortAnswer answers_seen reads_only) after a b (seen old) (seen new)
  port_turn_seen rounds reads_only after a b old new stays t =
      turn_seen (PortAnswer answers reads_only) (PortAnswer answers_seen reads_only) seen Stays (port_seen reads_only) rounds after a b old new stays t

  step_seen : (step : Step) (old new : Places × S) → Stays old.1 → Takes answers step old new
      → Stays new.1 × Takes answers_seen step (old.0, seen old.1) (new.0, seen new.1)
  step_seen (Opens place start reads_only) old new stays a = (subst Stays (sym a.3) stays, (a.0, a.1, a.2, ap seen a.3))
  step_seen (Turns place ready after) old new stays a =
      let t = port_turn_seen turn_rounds a.0.reads_only after _ a.1.connection old.1 new.1 stays a.4 in
      (t.0, (a.0, a.1, a.2, a.3, t.1, a.5, a.6, a.7, a.8))
  step_seen (Misses place is_closing) old new stays a = (subst Stays (sym a.2) stays, (a.0, a.1, ap seen a.2))
  step_seen (Ticks places moments most oldest) old new stays a = (subst Stays (sym a.3) stays, (a.0, a.1, a.2, ap seen a.3))
  step_seen (Skips place) old new stays a = (subst Stays (sym a.2) stays, (a.0, a.1, ap seen a.2))
  step_seen (Spares place most oldest) old new stays a = (subst Stays (sym a.2) stays, (a.0, a.1, ap seen a.2))
  step_seen (Closes place result) old new stays a = (subst Stays (sym a.5) stays, (a.0, a.1, a.2, a.3, a.4, ap seen a.5))
  step_seen (GivesUp place ticks error) old new stays a = (subst Stays (sym a.6) stays, (a.0, a.1, a.2, a.3, a.4, a.5, ap seen a.6))
  step_seen (Expires place age) old new stays a = (subst Stays (sym a.3) stays, (a.0, a.1, a.2, ap seen a.3))
  step_seen (Ends place result) old new stays a =
      let t = port_turn_seen last_rounds a.0.reads_only a.3.0 _ a.1 old.1 new.1 stays a.3.1 in
      (t.0, (a.0, a.1, a.2, (a.3.0, t.1, a.3.2), a.4, a.5))
  step_seen Fails old new stays a = (subst Stays (sym a.1) stays, (a.0, ap seen a.1))

  pub steps_seen : (steps : List Step) (old new : Places × S) → Stays old.1 → TakesAll answers steps old new
      → Stays new.1 × TakesAll answers_seen steps (old.0, seen old.1) (new.0, seen new.1)
  steps_seen [] old new stays a = (subst Stays (sym a.1) stays, (a.0, ap seen a.1))
  steps_seen (step ∷ steps) old new stays a =
      let one = step_seen step old a.0 stays a.1 in
      let rest = steps_seen steps a.0 new one.0 a.2 in
      (rest.0, ((a.0.0, seen a.0.1), one.1, rest.1))

  -- sessions over one state are sessions over what is seen of it, by the same steps
  pub sessions_seen : (patience : Patience) (turns : ℕ) (kept : EndsView) (old new : S) → Stays old → (a : ServedAll answers patience turns kept old new)
      → Stays new × ((b : ServedAll answers_seen patience turns kept (seen old) (seen new)) × (b.news ≡ a.news))
  sessions_seen patience turns kept old new stays a =
      let all = steps_seen (a.before ++ a.last) (nobody, old) (nobody, new) stays a.takes in
      (all.0, (record { news = a.news; before = a.before; last = a.last; follows = a.follows; ending = a.ending; takes = all.1; ends = a.ends; limited = a.limited }, refl))
