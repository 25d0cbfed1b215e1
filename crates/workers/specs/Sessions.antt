-- What becomes of sessions that are served one after the other.
use Rattle.std.specs.Prelude.{◌≡◌, ℕ, List, [], ◌∷◌, ◌++◌, map, Option, Some, None, Result, Ok, Err}
use Rattle.std.specs.declared.vec.IntoIter.{IntoIter}
use Rattle.std.specs.Vec.Iter.{into_iter_steps}
use Rattle.map_core.specs.declared.op.Op.{Op}
use Rattle.map_core.specs.declared.reply.Reply.{Reply}
use Rattle.map_core.specs.declared.reply.AskError.{AskError}
use Rattle.wire.specs.declared.counted.Counted.{Counted}
use Rattle.wire.specs.declared.error.FrontError.{FrontError}
use Rattle.wire.specs.declared.error.FrontError.TheVariants.{ReadFault, WriteFault, TurnsUsed}
use Rattle.wire.specs.Counted.{end_in, faults_in, MakesReads, reads_of}
use Rattle.frame_front.specs.Transcript.{Transcript}
use Rattle.workers.specs.declared.ended.SessionFault.{SessionFault}
use Rattle.workers.specs.declared.ended.SessionFault.TheVariants.{Front, Listen}
use Rattle.workers.specs.declared.sessions.ListenFault.{ListenFault}
use Rattle.workers.specs.declared.session.Session.{Session}

-- a list gives its elements in their order, and never fails
abbrev pub ListComes : {X Z : Type 0} → IntoIter X Z → Result (Option X) ListenFault → IntoIter X Z → Type 0
ListComes old (Ok next) new = into_iter_steps old next new
ListComes old (Err fault) new = ⊥

-- how a session ended, among the ends of a worker's sessions
abbrev pub session_end : Result ℕ FrontError → Result ℕ SessionFault
session_end (Ok count) = Ok count
session_end (Err error) = Err (Front error)

module _ {S : Type 0} (answers : S → Op → Result Reply AskError → S → Type 0) {V R W : Type 0} (remaining : R → Option (List ℕ)) (contents : W → Option (List ℕ))
    (takes_back : V → Counted R → Counted W → V → Type 0) where
  -- The session is served over its reader and its writer, of which each is counted from 0, and ends so: what `serve` promises of
  -- them. The source takes them back then.
  pub record Runs (session : Session R W) (result : Result ℕ FrontError) (old new : V × S) : Type 0 where
    pub reader : Counted R
    pub writer : Counted W
    pub transcript : Transcript answers result session.turns (remaining session.reader) (remaining (end_in reader)) (contents session.writer) (contents (end_in writer)) old.1 new.1
    pub reads : MakesReads session.turns (result ≡ Err TurnsUsed) 0 (reads_of reader)
    pub read_fault : result ≡ Err ReadFault → faults_in reader ≡ 1
    pub write_fault : result ≡ Err WriteFault → faults_in writer ≡ 1
    pub taken : takes_back old.0 reader writer new.0

  module _ (comes : V → Result (Option (Session R W)) ListenFault → V → Type 0) where
    -- So many sessions came, one after the other; each was served to its end before the next one came, and ended so.
    abbrev pub ServedEach : List (Result ℕ FrontError) → V × S → V × S → Type 0
    ServedEach [] old new = new ≡ old
    ServedEach (result ∷ results) old new = (session : Session R W) × (begun : V) × (over : V × S)
        × comes old.0 (Ok (Some session)) begun × Runs session result (begun, old.1) over × ServedEach results over new

    -- after them no more came, or the listener failed
    abbrev pub NoMoreCome : List (Result ℕ SessionFault) → V → V → Type 0
    NoMoreCome [] old new = comes old (Ok None) new
    NoMoreCome (Err Listen ∷ []) old new = (fault : ListenFault) × comes old (Err fault) new
    NoMoreCome ends old new = ⊥

    -- All sessions that came were served, and ended so; if the listener failed, that stands last.
    pub record ServedAll (ends : List (Result ℕ SessionFault)) (old new : V × S) : Type 0 where
      pub results : List (Result ℕ FrontError)
      pub last : List (Result ℕ SessionFault)
      pub between : V
      pub served : ServedEach results old (between, new.1)
      pub no_more : NoMoreCome last between new.0
      pub all : ends ≡ map session_end results ++ last
