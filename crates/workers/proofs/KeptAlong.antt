-- What every answer keeps is kept along sessions.
use Rattle.std.proofs.Common.{◌≡◌, List, [], ◌∷◌, sym, ap, subst, inl, inr}
use Rattle.std.specs.Prelude.{ℕ, Option, Result, Ok, Err, Bool, true, false}
use Rattle.map_core.specs.declared.op.Op.{Op}
use Rattle.map_core.specs.declared.reply.Reply.{Reply}
use Rattle.map_core.specs.declared.reply.AskError.{AskError}
use Rattle.wire.specs.declared.counted.Counted.{Counted}
use Rattle.wire.specs.declared.error.FrontError.{FrontError}
use Rattle.wire.specs.declared.judge.Judged.{Judged}
use Rattle.wire.specs.declared.judge.Judged.TheVariants.{Ask, SetVersion, TellCounts}
use Rattle.wire.specs.declared.refusal.Refusal.{Refusal}
use Rattle.wire.specs.Judge.{request_of}
use Rattle.frame_front.specs.Session.{SessionState, AnswersRequest, AnswersUnless, Answers, AnswersAll}
use Rattle.frame_front.specs.Terms.{is_turned_away}
use Rattle.frame_front.specs.Transcript.{Transcript}
use Rattle.workers.specs.declared.sessions.ListenFault.{ListenFault}
use Rattle.workers.specs.declared.ended.SessionFault.{SessionFault}
use Rattle.workers.specs.declared.session.Session.{Session}
use Rattle.workers.specs.Sessions.{ServedAll, ServedEach}

module _ {S : Type 0} (answers : S → Op → Result Reply AskError → S → Type 0) (Keeps : S → S → Type 0)
    (same : (s : S) → Keeps s s) (further : (s t u : S) → Keeps s t → Keeps t u → Keeps s u)
    (each : (s : S) (op : Op) (answer : Result Reply AskError) (t : S) → answers s op answer t → Keeps s t) where
  kept_where_same : (old new : S) → new ≡ old → Keeps old new
  kept_where_same old new e = subst (λ (s : S). Keeps old s) (sym e) (same old)

  request_keeps : (r : Result Judged Refusal) (old : SessionState S) (text : List ℕ) (new : SessionState S) → AnswersRequest answers r old text new → Keeps old.1 new.1
  request_keeps (Err refusal) old text new a = kept_where_same old.1 new.1 (ap (λ (s : SessionState S). s.1) a.1)
  request_keeps (Ok (SetVersion version)) old text new a = kept_where_same old.1 new.1 (ap (λ (s : SessionState S). s.1) a.1)
  request_keeps (Ok TellCounts) old text new a = kept_where_same old.1 new.1 (ap (λ (s : SessionState S). s.1) a.3)
  request_keeps (Ok (Ask op)) old text new a = each old.1 op a.0 new.1 a.1

  answer_keeps : (old : SessionState S) (payload text : List ℕ) (new : SessionState S) → Answers answers old payload text new → Keeps old.1 new.1
  answer_keeps old payload text new a = unless (is_turned_away old.0.reads_only payload) a
    where
      unless : (away : Bool) → AnswersUnless answers away old payload text new → Keeps old.1 new.1
      unless true a = kept_where_same old.1 new.1 (ap (λ (s : SessionState S). s.1) a.1)
      unless false (inl a) = request_keeps (request_of old.0.version payload) old text new a
      unless false (inr a) = kept_where_same old.1 new.1 (ap (λ (s : SessionState S). s.1) a.1)

  pub all_keep : (old : SessionState S) (payloads texts : List (List ℕ)) (new : SessionState S) → AnswersAll answers old payloads texts new → Keeps old.1 new.1
  all_keep old [] [] new a = kept_where_same old.1 new.1 (ap (λ (s : SessionState S). s.1) a)
  all_keep old (payload ∷ payloads) (text ∷ texts) new a =
      further old.1 a.0.1 new.1 (answer_keeps old payload text a.0 a.1) (all_keep a.0 payloads texts new a.2)
  all_keep old [] (text ∷ texts) new a = absurd a
  all_keep old (payload ∷ payloads) [] new a = absurd a

  -- what each answer keeps, a session over two ends keeps
  pub served_keeps : (result : Result ℕ FrontError) (turns : ℕ) (a b c d : Option (List ℕ)) (old new : S) → Transcript answers result turns a b c d old new → Keeps old new
  served_keeps result turns a b c d old new t = all_keep _ t.session.payloads t.session.texts _ t.session.serves.answered

  module _ {V R W : Type 0} (remaining : R → Option (List ℕ)) (contents : W → Option (List ℕ)) (takes_back : V → Counted R → Counted W → V → Type 0)
      (comes : V → Result (Option (Session R W)) ListenFault → V → Type 0) where
    each_keep : (results : List (Result ℕ FrontError)) (old new : V × S) → ServedEach answers remaining contents takes_back comes results old new → Keeps old.1 new.1
    each_keep [] old new a = kept_where_same old.1 new.1 (ap (λ (s : V × S). s.1) a)
    each_keep (result ∷ results) old new a =
        further old.1 a.2.1 new.1 (served_keeps result _ _ _ _ _ old.1 a.2.1 a.4.transcript) (each_keep results a.2 new a.5)

    -- and so do all sessions of a worker
    pub sessions_keep : (ends : List (Result ℕ SessionFault)) (old new : V × S) → ServedAll answers remaining contents takes_back comes ends old new → Keeps old.1 new.1
    sessions_keep ends old new a = each_keep a.results old (a.between, new.1) a.served
