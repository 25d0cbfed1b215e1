-- What a worker does in a part of its work.
use Rattle.std.specs.Prelude.{◌≡◌, ◌≤◌, ◌⊎◌, List, [], ◌∷◌, fold, ℕ, Bool, Option, Some, None, IsSome, Result}
use Rattle.std.specs.List.{AllByRecursion}
use Rattle.slab.specs.Slab.{get}
use Rattle.map_core.specs.declared.op.Op.{Op}
use Rattle.map_core.specs.declared.reply.Reply.{Reply}
use Rattle.map_core.specs.declared.reply.AskError.{AskError}
use Rattle.wire.specs.declared.error.FrontError.{FrontError}
use Rattle.workers.specs.Connection.{ConnectionView, LastTurn, Turn, age_after, silent_after, told, turn_rounds}
use Rattle.workers.specs.declared.turn_end.TurnEnd.{TurnEnd}
use Rattle.workers.specs.AtPort.{PortAnswer}
use Rattle.workers.specs.Places.{Place, Places, GoesSoFar, HoldsReply, OthersStay, AllStay, Step, Misses, TakesAll, nobody, told_all, turn_steps, waiting_after}
use Rattle.workers.specs.declared.limits.Limits.{Limits}
use Rattle.workers.specs.declared.serving.Served.{Served}
use Rattle.workers.specs.Ended.{EndsView, Notes, kept_of}

-- a worker between two steps: its connections, the places that wait for a turn, and what is kept of how sessions ended
pub record Work : Type 0 where
  pub places : Places
  pub waiting : List ℕ
  pub kept : EndsView

abbrev pub work_of : {E : Type 0} → Served E → Work
work_of served = record { places = get served.open; waiting = served.waiting.items; kept = served.ends }

-- nothing is done yet
abbrev pub begun : Work
begun = record { places = nobody; waiting = []; kept = kept_of [] }

-- at each of these places is a connection
abbrev pub AreOpen : Places → List ℕ → Type 0
AreOpen places waiting = AllByRecursion (λ place. IsSome (places place)) waiting

-- a turn of the connection that is maybe at this place
abbrev pub IsTurn : ℕ → Option Bool → Option Place → List Step → Type 0
IsTurn place ready (Some p) steps = (after : TurnEnd) × (steps ≡ turn_steps place ready after)
IsTurn place (Some is_closing) None steps = steps ≡ Misses place is_closing ∷ []
IsTurn place None None steps = steps ≡ []

module _ {S : Type 0} (answers : S → Op → Result Reply AskError → S → Type 0) where
  -- the connection at a place was asked for something
  pub record AtPlace (place : ℕ) (silent age : Place → ConnectionView → ℕ) (Does : Place → ConnectionView → Type 0) (old new : Places) : Type 0 where
    pub before : Place
    pub behind : ConnectionView
    pub was : old place ≡ Some before
    pub is : new place ≡ Some (record { connection = behind; reads_only = before.reads_only; silent = silent before behind; age = age before behind })
    pub does : Does before behind
    pub others : OthersStay place old new

  -- no connection is at the place
  abbrev pub NobodyThere : ℕ → Places → Places → S → S → Type 0
  NobodyThere place old new map_old map_new = (old place ≡ None) × AllStay old new × (map_new ≡ map_old)

  -- a turn, or no connection is at the place
  abbrev pub HadTurn : ℕ → Bool → Option TurnEnd → Places → Places → S → S → Type 0
  HadTurn place is_closing (Some after) old new map_old map_new =
      AtPlace place (λ p c. silent_after p.connection c p.silent) (λ p c. age_after p.connection c p.age)
      (λ p c. Turn turn_rounds (PortAnswer answers p.reads_only) after (told is_closing p.connection) c map_old map_new) old new
  HadTurn place is_closing None old new map_old map_new = NobodyThere place old new map_old map_new

  -- the last turn, or no connection is at the place
  abbrev pub HadLastTurn : ℕ → Option (Result ℕ FrontError) → Places → Places → S → S → Type 0
  HadLastTurn place (Some end) old new map_old map_new =
      AtPlace place (λ p c. p.silent) (λ p c. p.age) (λ p c. LastTurn (PortAnswer answers p.reads_only) end p.connection c map_old map_new) old new
  HadLastTurn place None old new map_old map_new = NobodyThere place old new map_old map_new

  -- Steps of some kind were taken, one after the other, and each end of a session was noted. None went farther with a client than the
  -- limits say.
  pub record Serves (limits : Limits) (Are : List Step → Type 0) (old new : Work) (map_old map_new : S) : Type 0 where
    pub steps : List Step
    pub are : Are steps
    pub takes : TakesAll answers steps (old.places, map_old) (new.places, map_new)
    pub waits : new.waiting ≡ fold waiting_after old.waiting steps
    pub notes : Notes (told_all steps) old.kept new.kept
    pub limited : AllByRecursion (GoesSoFar limits.patience limits.turns) steps

-- Of the youngest replies that are held, and at least so old, this is the age once one place more is seen.
pub record IsYounger (there : Option Place) (least before age : ℕ) : Type 0 where
  pub within : age ≤ before
  pub held : (age ≡ before) ⊎ ((least ≤ age) × HoldsReply age there)
  pub first : (other : ℕ) → HoldsReply other there → least ≤ other → age ≤ other

-- nothing is asked
abbrev pub Asks : Unit {0} → Op → Result Reply AskError → Unit {0} → Type 0
Asks old op answer new = ⊥
