-- What every answer keeps is kept along sessions.
use Rattle.std.proofs.Common.{◌≡◌, List, [], ◌∷◌, ◌++◌, sym, ap, subst}
use Rattle.std.specs.Prelude.{ℕ, Bool, true, false, Result}
use Rattle.map_core.specs.declared.op.Op.{Op}
use Rattle.map_core.specs.declared.reply.Reply.{Reply}
use Rattle.map_core.specs.declared.reply.AskError.{AskError}
use Rattle.workers.specs.Ended.{EndsView}
use Rattle.frame_front.specs.Live.{LiveView}
use Rattle.frame_front.specs.LiveCalls.{LiveCall, Does, DoesAll, Feed, Answer, Send}
use Rattle.workers.specs.Gate.{AnsweredBehind}
use Rattle.workers.proofs.KeptAlong.{all_keep}
use Rattle.map_core.specs.Op.{is_read}
use Rattle.workers.specs.AtPort.{PortAnswer}
use Rattle.workers.specs.Connection.{ConnectionView, Turn, turn_rounds, last_rounds}
use Rattle.workers.specs.declared.turn_end.TurnEnd.{TurnEnd}
use Rattle.workers.specs.declared.limits.Patience.{Patience}
use Rattle.workers.specs.Places.{Places, Step, Opens, Turns, Misses, Ticks, Skips, Spares, Closes, GivesUp, Expires, Ends, Fails, Takes, TakesAll, ServedAll, nobody}

module _ {S : Type 0} (answers : S → Op → Result Reply AskError → S → Type 0) (Keeps : S → S → Type 0)
    (same : (s : S) → Keeps s s) (further : (s t u : S) → Keeps s t → Keeps t u → Keeps s u)
    (each : (s : S) (op : Op) (answer : Result Reply AskError) (t : S) → answers s op answer t → Keeps s t) where
  kept_where_same : (old new : S) → new ≡ old → Keeps old new
  kept_where_same old new e = subst (λ (s : S). Keeps old s) (sym e) (same old)

  does_keeps : (call : LiveCall) (old new : LiveView × S) → Does answers call old new → Keeps old.1 new.1
  does_keeps (Feed piece) old new d = kept_where_same old.1 new.1 d.1
  does_keeps (Send bytes) old new d = kept_where_same old.1 new.1 d.1
  does_keeps (Answer result) old new d = all_keep answers Keeps same further each _ d.payloads d.texts _ d.serves.answered

  pub does_all_keep : (calls : List LiveCall) (old new : LiveView × S) → DoesAll answers calls old new → Keeps old.1 new.1
  does_all_keep [] old new d = kept_where_same old.1 new.1 (ap (λ (s : LiveView × S). s.1) d)
  does_all_keep (call ∷ calls) old new d = further old.1 d.0.1 new.1 (does_keeps call old d.0 d.1) (does_all_keep calls d.0 new d.2)

-- ---- at ports

module _ {S : Type 0} (answers : S → Op → Result Reply AskError → S → Type 0) (Keeps : S → S → Type 0)
    (same : (s : S) → Keeps s s) (further : (s t u : S) → Keeps s t → Keeps t u → Keeps s u)
    (each : (s : S) (op : Op) (answer : Result Reply AskError) (t : S) → answers s op answer t → Keeps s t) where
  stays : (old new : S) → new ≡ old → Keeps old new
  stays old new e = subst (λ (s : S). Keeps old s) (sym e) (same old)

  behind_keeps : (is_open : Bool) (s : S) (op : Op) (answer : Result Reply AskError) (t : S) → AnsweredBehind answers is_open s op answer t → Keeps s t
  behind_keeps true s op answer t a = each s op answer t a
  behind_keeps false s op answer t a = stays s t a.1

  port_keeps : (reads_only : Bool) (s : S) (op : Op) (answer : Result Reply AskError) (t : S) → PortAnswer answers reads_only s op answer t → Keeps s t
  port_keeps true s op answer t a = behind_keeps (is_read op) s op answer t a
  port_keeps false s op answer t a = each s op answer t a

  turn_keeps : (rounds : ℕ) (reads_only : Bool) (after : TurnEnd) (a b : ConnectionView) (old new : S) → Turn rounds (PortAnswer answers reads_only) after a b old new → Keeps old new
  turn_keeps rounds reads_only after a b old new t =
      does_all_keep (PortAnswer answers reads_only) Keeps same further (port_keeps reads_only) t.calls (a.live, old) (b.live, new) t.does

  step_keeps : (step : Step) (old new : Places × S) → Takes answers step old new → Keeps old.1 new.1
  step_keeps (Opens place start reads_only) old new a = stays old.1 new.1 a.3
  step_keeps (Turns place ready after) old new a = turn_keeps turn_rounds a.0.reads_only after _ a.1.connection old.1 new.1 a.4
  step_keeps (Misses place is_closing) old new a = stays old.1 new.1 a.2
  step_keeps (Ticks places moments most oldest) old new a = stays old.1 new.1 a.3
  step_keeps (Skips place) old new a = stays old.1 new.1 a.2
  step_keeps (Spares place most oldest) old new a = stays old.1 new.1 a.2
  step_keeps (Closes place result) old new a = stays old.1 new.1 a.5
  step_keeps (GivesUp place ticks error) old new a = stays old.1 new.1 a.6
  step_keeps (Expires place age) old new a = stays old.1 new.1 a.3
  step_keeps (Ends place result) old new a = turn_keeps last_rounds a.0.reads_only a.3.0 _ a.1 old.1 new.1 a.3.1
  step_keeps Fails old new a = stays old.1 new.1 a.1

  steps_keep : (steps : List Step) (old new : Places × S) → TakesAll answers steps old new → Keeps old.1 new.1
  steps_keep [] old new a = stays old.1 new.1 a.1
  steps_keep (step ∷ steps) old new a = further old.1 a.0.1 new.1 (step_keeps step old a.0 a.1) (steps_keep steps a.0 new a.2)

  -- what each answer keeps, sessions keep
  pub sessions_keep : (patience : Patience) (turns : ℕ) (kept : EndsView) (old new : S) → ServedAll answers patience turns kept old new → Keeps old new
  sessions_keep patience turns kept old new a = steps_keep (a.before ++ a.last) (nobody, old) (nobody, new) a.takes
