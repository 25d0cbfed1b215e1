-- One session more.
use Rattle.std.proofs.Common.{◌≡◌, List, [], ◌∷◌, ◌++◌, map, subst, sym, ap, ◌∙◌, refl}
use Rattle.std.specs.Prelude.{ℕ, Option, Result, Ok, Err, Some}
use Rattle.std.proofs.lemmas.List.{map_push}
use Rattle.map_core.specs.declared.op.Op.{Op}
use Rattle.map_core.specs.declared.reply.Reply.{Reply}
use Rattle.map_core.specs.declared.reply.AskError.{AskError}
use Rattle.wire.specs.declared.counted.Counted.{Counted}
use Rattle.wire.specs.declared.error.FrontError.{FrontError}
use Rattle.wire.specs.declared.error.FrontError.TheVariants.{ReadFault, WriteFault, TurnsUsed}
use Rattle.wire.specs.Counted.{end_in, faults_in, next_count, MakesReads, reads_of}
use Rattle.frame_front.specs.Transcript.{Transcript}
use Rattle.workers.specs.declared.ended.SessionFault.{SessionFault}
use Rattle.workers.specs.declared.sessions.ListenFault.{ListenFault}
use Rattle.workers.specs.declared.session.Session.{Session}
use Rattle.workers.specs.Sessions.{Runs, ServedEach, session_end}

module _ {S : Type 0} (answers : S → Op → Result Reply AskError → S → Type 0) {V R W : Type 0} (remaining : R → Option (List ℕ)) (contents : W → Option (List ℕ))
    (takes_back : V → Counted R → Counted W → V → Type 0) (comes : V → Result (Option (Session R W)) ListenFault → V → Type 0) where
  -- what was served over ends that were counted from 0
  pub runs_over : (session : Session R W) (result : Result ℕ FrontError) (old new : V × S) (reader_old reader : Counted R) (writer_old writer : Counted W)
      → end_in reader_old ≡ session.reader → faults_in reader_old ≡ 0 → reads_of reader_old ≡ 0 → end_in writer_old ≡ session.writer → faults_in writer_old ≡ 0
      → Transcript answers result session.turns (remaining (end_in reader_old)) (remaining (end_in reader)) (contents (end_in writer_old)) (contents (end_in writer)) old.1 new.1
      → MakesReads session.turns (result ≡ Err TurnsUsed) (reads_of reader_old) (reads_of reader)
      → (result ≡ Err ReadFault → faults_in reader ≡ next_count (faults_in reader_old)) → (result ≡ Err WriteFault → faults_in writer ≡ next_count (faults_in writer_old))
      → takes_back old.0 reader writer new.0 → Runs answers remaining contents takes_back session result old new
  runs_over session result old new reader_old reader writer_old writer reads_it no_read_fault unread writes_it no_write_fault transcript reads read_fault write_fault taken = record {
    reader = reader;
    writer = writer;
    transcript =
        subst (λ (r : R). Transcript answers result session.turns (remaining r) (remaining (end_in reader)) (contents session.writer) (contents (end_in writer)) old.1 new.1) reads_it
        (subst (λ (w : W). Transcript answers result session.turns (remaining (end_in reader_old)) (remaining (end_in reader)) (contents w) (contents (end_in writer)) old.1 new.1) writes_it transcript);
    reads = subst (λ (n : ℕ). MakesReads session.turns (result ≡ Err TurnsUsed) n (reads_of reader)) unread reads;
    read_fault = λ failed. read_fault failed ∙ ap next_count no_read_fault;
    write_fault = λ failed. write_fault failed ∙ ap next_count no_write_fault;
    taken = taken;
  }

  abbrev Each : List (Result ℕ FrontError) → V × S → V × S → Type 0
  Each results old new = ServedEach answers remaining contents takes_back comes results old new

  -- what has been served so far
  abbrev pub ServedSoFar : List (Result ℕ SessionFault) → V × S → V × S → Type 0
  ServedSoFar ends old new = (results : List (Result ℕ FrontError)) × ServedEach answers remaining contents takes_back comes results old new × (ends ≡ map session_end results)

  each_more : (results : List (Result ℕ FrontError)) (result : Result ℕ FrontError) (old mid new : V × S) → Each results old mid
      → Each (result ∷ []) mid new → Each (results ++ result ∷ []) old new
  each_more [] result old mid new a b = subst (λ (s : V × S). Each (result ∷ []) s new) a b
  each_more (first ∷ results) result old mid new a b = (a.0, a.1, a.2, a.3, a.4, each_more results result a.2 mid new a.5 b)

  pub served_more : (ends : List (Result ℕ SessionFault)) (end : Result ℕ SessionFault) (result : Result ℕ FrontError) (old mid : V × S) (begun : V) (new : V × S) (session : Session R W)
      → ServedSoFar ends old mid → comes mid.0 (Ok (Some session)) begun → Runs answers remaining contents takes_back session result (begun, mid.1) new → end ≡ session_end result
      → ServedSoFar (ends ++ end ∷ []) old new
  served_more ends end result old mid begun new session so_far came ran is = (
    so_far.0 ++ result ∷ [],
    each_more so_far.0 result old mid new so_far.1 (session, begun, new, came, ran, refl),
    ap (λ (l : List (Result ℕ SessionFault)). l ++ end ∷ []) so_far.2
        ∙ (ap (λ (e : Result ℕ SessionFault). map session_end so_far.0 ++ e ∷ []) is ∙ sym (map_push session_end so_far.0 result)),
  )
