-- Sessions over one state are sessions over what is seen of it.
use Rattle.std.proofs.Common.{◌≡◌, List, [], ◌∷◌, sym, ap, subst, inl, inr}
use Rattle.std.specs.Prelude.{ℕ, Option, Result, Ok, Err, Bool, true, false}
use Rattle.map_core.specs.declared.op.Op.{Op}
use Rattle.map_core.specs.declared.reply.Reply.{Reply}
use Rattle.map_core.specs.declared.reply.AskError.{AskError}
use Rattle.wire.specs.declared.counted.Counted.{Counted}
use Rattle.wire.specs.declared.error.FrontError.{FrontError}
use Rattle.wire.specs.declared.judge.Judged.{Judged}
use Rattle.wire.specs.declared.judge.Judged.TheVariants.{Ask, SetVersion, TellCounts}
use Rattle.wire.specs.declared.refusal.Refusal.{Refusal}
use Rattle.wire.specs.Judge.{request_of}
use Rattle.frame_front.specs.Session.{SessionState, AnswersRequest, AnswersUnless, Answers, AnswersAll}
use Rattle.frame_front.specs.Terms.{is_turned_away}
use Rattle.workers.specs.declared.sessions.ListenFault.{ListenFault}
use Rattle.workers.specs.declared.ended.SessionFault.{SessionFault}
use Rattle.workers.specs.declared.session.Session.{Session}
use Rattle.workers.specs.Sessions.{Runs, ServedAll, ServedEach}

module _ {S T : Type 0} (answers : S → Op → Result Reply AskError → S → Type 0) (answers_seen : T → Op → Result Reply AskError → T → Type 0)
    (seen : S → T) (Stays : S → Type 0)
    (each : (s : S) (op : Op) (answer : Result Reply AskError) (t : S) → Stays s → answers s op answer t → Stays t × answers_seen (seen s) op answer (seen t)) where
  abbrev seen_state : SessionState S → SessionState T
  seen_state s = (s.0, seen s.1)

  same_seen : (old new : SessionState S) → Stays old.1 → new ≡ old → Stays new.1 × (seen_state new ≡ seen_state old)
  same_seen old new stays e = (subst (λ (s : SessionState S). Stays s.1) (sym e) stays, ap seen_state e)

  request_seen : (r : Result Judged Refusal) (old : SessionState S) (text : List ℕ) (new : SessionState S) → Stays old.1
      → AnswersRequest answers r old text new → Stays new.1 × AnswersRequest answers_seen r (seen_state old) text (seen_state new)
  request_seen (Err refusal) old text new stays a = let s = same_seen old new stays a.1 in (s.0, (a.0, s.1))
  request_seen (Ok (SetVersion version)) old text new stays a = let s = same_seen (record old.0 { version = version }, old.1) new stays a.1 in (s.0, (a.0, s.1))
  request_seen (Ok TellCounts) old text new stays a = let s = same_seen old new stays a.3 in (s.0, (a.0, a.1, a.2, s.1))
  request_seen (Ok (Ask op)) old text new stays a = let s = each old.1 op a.0 new.1 stays a.1 in (s.0, (a.0, s.1, a.2, a.3))

  answer_seen : (old : SessionState S) (payload text : List ℕ) (new : SessionState S) → Stays old.1
      → Answers answers old payload text new → Stays new.1 × Answers answers_seen (seen_state old) payload text (seen_state new)
  answer_seen old payload text new stays a = unless (is_turned_away old.0.reads_only payload) a
    where
      unless : (away : Bool) → AnswersUnless answers away old payload text new → Stays new.1 × AnswersUnless answers_seen away (seen_state old) payload text (seen_state new)
      unless true a = let s = same_seen old new stays a.1 in (s.0, (a.0, s.1))
      unless false (inl a) = let s = request_seen (request_of old.0.version payload) old text new stays a in (s.0, inl s.1)
      unless false (inr a) = let s = same_seen old new stays a.1 in (s.0, inr (a.0, s.1))

  all_seen : (old : SessionState S) (payloads texts : List (List ℕ)) (new : SessionState S) → Stays old.1
      → AnswersAll answers old payloads texts new → Stays new.1 × AnswersAll answers_seen (seen_state old) payloads texts (seen_state new)
  all_seen old [] [] new stays a = same_seen old new stays a
  all_seen old (payload ∷ payloads) (text ∷ texts) new stays a =
      let one = answer_seen old payload text a.0 stays a.1 in
      let rest = all_seen a.0 payloads texts new one.0 a.2 in
      (rest.0, (seen_state a.0, one.1, rest.1))
  all_seen old [] (text ∷ texts) new stays a = absurd a
  all_seen old (payload ∷ payloads) [] new stays a = absurd a

  module _ {V R W : Type 0} (remaining : R → Option (List ℕ)) (contents : W → Option (List ℕ)) (takes_back : V → Counted R → Counted W → V → Type 0) where
    run_seen : (session : Session R W) (result : Result ℕ FrontError) (old new : V × S) → Stays old.1 → Runs answers remaining contents takes_back session result old new
        → Stays new.1 × Runs answers_seen remaining contents takes_back session result (old.0, seen old.1) (new.0, seen new.1)
    run_seen session result old new stays r =
        let t = r.transcript in
        let served = t.session in
        let serves = served.serves in
        let all = all_seen _ served.payloads served.texts _ stays serves.answered in (
          all.0,
          record {
            reader = r.reader;
            writer = r.writer;
            transcript = record {
              read = t.read;
              written = t.written;
              terms = t.terms;
              consumes = t.consumes;
              appends = t.appends;
              session = record {
                payloads = served.payloads;
                texts = served.texts;
                rest = served.rest;
                serves = record { whole = serves.whole; each = serves.each; answered = all.1 };
                ends = served.ends;
                writes = served.writes;
              };
              few_read = t.few_read;
              used = t.used;
              ended = t.ended;
            };
            reads = r.reads;
            read_fault = r.read_fault;
            write_fault = r.write_fault;
            taken = r.taken;
          },
        )

    module _ (comes : V → Result (Option (Session R W)) ListenFault → V → Type 0) where
      each_seen : (results : List (Result ℕ FrontError)) (old new : V × S) → Stays old.1 → ServedEach answers remaining contents takes_back comes results old new
          → Stays new.1 × ServedEach answers_seen remaining contents takes_back comes results (old.0, seen old.1) (new.0, seen new.1)
      each_seen [] old new stays a =
          (subst (λ (s : V × S). Stays s.1) (sym a) stays, ap (λ (s : V × S). (s.0, seen s.1)) a)
      each_seen (result ∷ results) old new stays a =
          let one = run_seen a.0 result (a.1, old.1) a.2 stays a.4 in
          let rest = each_seen results a.2 new one.0 a.5 in
          (rest.0, (a.0, a.1, (a.2.0, seen a.2.1), a.3, one.1, rest.1))

      pub sessions_seen : (ends : List (Result ℕ SessionFault)) (old new : V × S) → Stays old.1 → ServedAll answers remaining contents takes_back comes ends old new
          → Stays new.1 × ServedAll answers_seen remaining contents takes_back comes ends (old.0, seen old.1) (new.0, seen new.1)
      sessions_seen ends old new stays a =
          let each = each_seen a.results old (a.between, new.1) stays a.served in
          (each.0, record { results = a.results; last = a.last; between = a.between; served = each.1; no_more = a.no_more; all = a.all })
