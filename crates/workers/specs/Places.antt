-- What becomes of the connections of a worker.
use Rattle.std.specs.Prelude.{◌≡◌, ◌≢◌, ◌≤◌, ◌==◌, ◌⊎◌, ℕ, zero, suc, ◌+◌, ◌<◌, ⊤, List, [], ◌∷◌, ◌++◌, filter, fold, not, Option, Some, None, Bool, false, Result, Ok, Err}
use Rattle.std.specs.List.{AllByRecursion, flat_map}
use Rattle.map_core.specs.declared.op.Op.{Op}
use Rattle.map_core.specs.declared.reply.Reply.{Reply}
use Rattle.map_core.specs.declared.reply.AskError.{AskError}
use Rattle.wire.specs.declared.error.FrontError.{FrontError}
use Rattle.wire.specs.declared.error.FrontError.TheVariants.{WriteFault}
use Rattle.workers.specs.Connection.{ConnectionView, LastTurn, Owes, StopsFor, Turn, age_after, counted, opened, silent_after, told, turn_rounds}
use Rattle.workers.specs.declared.limits.Patience.{Patience}
use Rattle.workers.specs.Stream.{StreamLimits}
use Rattle.workers.specs.declared.turn_end.TurnEnd.{TurnEnd}
use Rattle.workers.specs.declared.turn_end.TurnEnd.TheVariants.{Again, Over}
use Rattle.workers.specs.Arrivals.{News, NewClient, IsReady, HasTicked, HasFailed, IsQuiet, IsToStop}
use Rattle.workers.specs.AtPort.{PortAnswer}
use Rattle.workers.specs.Ended.{EndsView, kept_of}
use Rattle.workers.specs.declared.ended.SessionFault.{SessionFault}
use Rattle.workers.specs.declared.ended.SessionFault.TheVariants.{Front, Listen}

-- one connection of a worker, whether it may only read, how many ticks have passed since its client got on last, and how many
-- since a frame of it was answered last: how old its last reply is
pub record Place : Type 0 where
  pub connection : ConnectionView
  pub reads_only : Bool
  pub silent : ℕ
  pub age : ℕ

-- the connections that are open, by the numbers of their places
abbrev pub Places : Type 0
Places = ℕ → Option Place

-- none is open
abbrev pub nobody : Places
nobody place = None

-- a tick more has passed
abbrev pub ticked : Option Place → Option Place
ticked None = None
ticked (Some place) = Some (record place { silent = counted (place.silent + 1); age = counted (place.age + 1) })

-- One thing that a worker does: it takes a connection at a free place; it gives the one at a place a turn, since its stream is
-- ready, and maybe closing, or since it waits for one; it finds nobody there whose stream would be ready; it counts a tick, of the
-- places below this one, and finds how old a reply may be that is held: of so many ages may be some, and none may be as old as the
-- most; it finds that no replies wait at a place; it spares the client at a place, which owes nothing or has been silent for fewer
-- ticks than the first number, and holds no reply that is as old as the second; it leaves a connection whose session is over; it
-- gives a client up that owes something, and has been silent for so many ticks; it gives one up that holds a reply which is so many
-- ticks old; it gives a connection its last turn and leaves it; or it learns that its listener failed.
pub data Step : Type 0 where
  Opens : (place : ℕ) → (start : ConnectionView) → (reads_only : Bool) → Step
  Turns : (place : ℕ) → (ready : Option Bool) → (after : TurnEnd) → Step
  Misses : (place : ℕ) → (is_closing : Bool) → Step
  Ticks : (places : ℕ) → (moments most oldest : ℕ) → Step
  Skips : (place : ℕ) → Step
  Spares : (place : ℕ) → (most oldest : ℕ) → Step
  Closes : (place : ℕ) → (result : Result ℕ FrontError) → Step
  GivesUp : (place : ℕ) → (ticks : ℕ) → (error : FrontError) → Step
  Expires : (place : ℕ) → (age : ℕ) → Step
  Ends : (place : ℕ) → (result : Result ℕ FrontError) → Step
  Fails : Step

-- how far a step may go with a client: a new connection has done nothing yet, may only read if its place
-- is for that, and may make so many reads; a client is given up only
-- after so many ticks, and spared only before, and so it is with replies that are held
abbrev pub GoesSoFar : Patience → (turns : ℕ) → Step → Type 0
GoesSoFar patience turns (Opens place start reads_only) = (may : StreamLimits) × (left : Option (List ℕ)) × (held : Option (List ℕ)) × (start ≡ opened reads_only turns may left held)
GoesSoFar patience turns (GivesUp place ticks error) = patience.most_silent ≤ ticks
GoesSoFar patience turns (Spares place most oldest) = most ≡ patience.most_silent
GoesSoFar patience turns (Ticks places moments most oldest) = (moments ≡ patience.moments) × (most ≡ patience.reply_ticks)
GoesSoFar patience turns step = ⊤

abbrev pub front_end : Result ℕ FrontError → Result ℕ SessionFault
front_end (Ok count) = Ok count
front_end (Err error) = Err (Front error)

-- what a step tells of the end of a session
abbrev pub told_by : Step → List (Result ℕ SessionFault)
told_by (Closes place result) = front_end result ∷ []
told_by (GivesUp place ticks error) = front_end (Err error) ∷ []
told_by (Expires place age) = front_end (Err WriteFault) ∷ []
told_by (Ends place result) = front_end result ∷ []
told_by Fails = Err Listen ∷ []
told_by step = []

abbrev pub told_all : List Step → List (Result ℕ SessionFault)
told_all steps = flat_map told_by steps

-- whether a stream that is ready is closing
abbrev pub closing_of : Option Bool → Bool
closing_of (Some is_closing) = is_closing
closing_of None = false

-- at all other places it is as it was
abbrev pub OthersStay : ℕ → Places → Places → Type 0
OthersStay place old new = (other : ℕ) → other ≢ place → new other ≡ old other

abbrev pub AllStay : Places → Places → Type 0
AllStay old new = (place : ℕ) → new place ≡ old place

-- at each place a tick has passed
abbrev pub AllTick : Places → Places → Type 0
AllTick old new = (place : ℕ) → new place ≡ ticked (old place)

-- a turn of the connection at a place, which is left at once if its session is over then
abbrev pub turn_steps : ℕ → Option Bool → TurnEnd → List Step
turn_steps place ready (Over result) = Turns place ready (Over result) ∷ Closes place result ∷ []
turn_steps place ready after = Turns place ready after ∷ []

-- no replies wait there
abbrev pub HasNoReplies : Option Place → Type 0
HasNoReplies None = ⊤
HasNoReplies (Some p) = p.connection.live.ready ≡ []

-- nobody is there who owes something and has been silent for so many ticks
abbrev pub IsHeard : ℕ → Option Place → Type 0
IsHeard most None = ⊤
IsHeard most (Some p) = Owes None p.connection ⊎ (p.silent < most)

-- a reply is held there, since a part of it is not stored yet, and it is so many ticks old
abbrev pub HoldsReply : (age : ℕ) → Option Place → Type 0
HoldsReply age None = ⊥
HoldsReply age (Some p) = (p.connection.live.later ≢ []) × (p.age ≡ age)

-- no reply is held there
abbrev pub HoldsNone : Option Place → Type 0
HoldsNone None = ⊤
HoldsNone (Some p) = p.connection.live.later ≡ []

-- no reply is held there that is so old
abbrev pub IsTimely : (oldest : ℕ) → Option Place → Type 0
IsTimely oldest there = (age : ℕ) → HoldsReply age there → age < oldest

-- a reply of this age is held at some place
abbrev pub IsHeld : Places → (age : ℕ) → Type 0
IsHeld places age = (place : ℕ) × HoldsReply age (places place)

-- Of the replies that are held and at least so old, the youngest have this age; it is the most if none is younger than that.
pub record IsYoungest (places : Places) (least most age : ℕ) : Type 0 where
  pub within : age ≤ most
  pub held : (age ≡ most) ⊎ ((least ≤ age) × IsHeld places age)
  pub first : (other : ℕ) → IsHeld places other → least ≤ other → age ≤ other

-- From this age on no reply may be held: so many ages are younger, of the replies that are held, or it is the most.
abbrev pub IsOldest : Places → (moments least most oldest : ℕ) → Type 0
IsOldest places zero least most oldest = IsYoungest places least most oldest
IsOldest places (suc moments) least most oldest = (age : ℕ) × IsYoungest places least most age × IsOldest places moments (age + 1) most oldest

-- neither is the client there silent for so many ticks, nor is a reply held there that is so old
abbrev pub IsSpared : (most oldest : ℕ) → Option Place → Type 0
IsSpared most oldest there = IsHeard most there × IsTimely oldest there

-- A write is tried at a place, if replies wait there: the connection has a turn.
abbrev pub TriesWrite : ℕ → List Step → Type 0
TriesWrite place steps = (steps ≡ Skips place ∷ []) ⊎ ((after : TurnEnd) × (steps ≡ turn_steps place None after))

-- the client at a place is given up or spared, where replies may not be so old
abbrev pub Judges : (oldest place : ℕ) → List Step → Type 0
Judges oldest place steps = ((most : ℕ) × (steps ≡ Spares place most oldest ∷ []))
    ⊎ ((ticks : ℕ) × (error : FrontError) × (steps ≡ GivesUp place ticks error ∷ [])) ⊎ ((age : ℕ) × (steps ≡ Expires place age ∷ []) × (oldest ≤ age))

-- at each of so many places a write is tried, and then the client there is judged
abbrev pub JudgesAll : (oldest places : ℕ) → List Step → Type 0
JudgesAll oldest zero steps = steps ≡ []
JudgesAll oldest (suc place) steps = (before : List Step) × (write : List Step) × (judged : List Step) × (steps ≡ before ++ (write ++ judged))
    × JudgesAll oldest place before × TriesWrite place write × Judges oldest place judged

-- the steps that follow news, after which a worker goes on
abbrev pub Follows : News → List Step → Type 0
Follows (NewClient place start reads_only) steps = steps ≡ Opens place start reads_only ∷ []
Follows (IsReady place is_closing) steps = (steps ≡ Misses place is_closing ∷ []) ⊎ ((after : TurnEnd) × (steps ≡ turn_steps place (Some is_closing) after))
Follows HasTicked steps = (places : ℕ) × (moments : ℕ) × (most : ℕ) × (oldest : ℕ) × (judged : List Step) × (steps ≡ Ticks places moments most oldest ∷ judged)
    × JudgesAll oldest places judged
Follows HasFailed steps = steps ≡ Fails ∷ []
Follows IsQuiet steps = steps ≡ []
Follows IsToStop steps = ⊥

-- the places that wait, without this one
abbrev pub without : ℕ → List ℕ → List ℕ
without place waiting = filter (λ other. not (other == place)) waiting

-- The places that wait for a turn after a step, in the order of their turns: a connection that is new, or has more to do after a
-- turn, waits behind the others.
abbrev pub waiting_after : List ℕ → Step → List ℕ
waiting_after waiting (Opens place start reads_only) = waiting ++ place ∷ []
waiting_after waiting (Turns place ready Again) = without place waiting ++ place ∷ []
waiting_after waiting (Turns place ready after) = without place waiting
waiting_after waiting (Closes place result) = without place waiting
waiting_after waiting (GivesUp place ticks error) = without place waiting
waiting_after waiting (Expires place age) = without place waiting
waiting_after waiting (Ends place result) = without place waiting
waiting_after waiting step = waiting

-- the first of those that wait has a turn, if any waits
abbrev pub ServesFirst : List ℕ → List Step → Type 0
ServesFirst [] steps = steps ≡ []
ServesFirst (place ∷ others) steps = (after : TurnEnd) × (steps ≡ turn_steps place None after)

-- News is followed, one piece after the other, and after each piece the first of those that wait has a turn.
abbrev pub FollowsAll : (waiting : List ℕ) → List News → List Step → Type 0
FollowsAll waiting [] steps = steps ≡ []
FollowsAll waiting (one ∷ news) steps = (now : List Step) × (turn : List Step) × (later : List Step) × (steps ≡ now ++ (turn ++ later))
    × Follows one now × ServesFirst (fold waiting_after waiting now) turn × FollowsAll (fold waiting_after waiting (now ++ turn)) news later

-- a connection has its last turn
abbrev pub IsLast : Step → Type 0
IsLast (Ends place result) = ⊤
IsLast step = ⊥

module _ {S : Type 0} (answers : S → Op → Result Reply AskError → S → Type 0) where
  abbrev pub Takes : Step → Places × S → Places × S → Type 0
  Takes (Opens place start reads_only) old new = (old.0 place ≡ None) × (new.0 place ≡ Some (record { connection = start; reads_only = reads_only; silent = 0; age = 0 }))
      × OthersStay place old.0 new.0 × (new.1 ≡ old.1)
  Takes (Turns place ready after) old new = (p : Place) × (q : Place) × (old.0 place ≡ Some p) × (new.0 place ≡ Some q)
      × Turn turn_rounds (PortAnswer answers p.reads_only) after (told (closing_of ready) p.connection) q.connection old.1 new.1
      × (q.reads_only ≡ p.reads_only) × (q.silent ≡ silent_after p.connection q.connection p.silent) × (q.age ≡ age_after p.connection q.connection p.age)
      × OthersStay place old.0 new.0
  Takes (Misses place is_closing) old new = (old.0 place ≡ None) × AllStay old.0 new.0 × (new.1 ≡ old.1)
  Takes (Ticks places moments most oldest) old new = AllTick old.0 new.0 × ((place : ℕ) → places ≤ place → old.0 place ≡ None) × IsOldest new.0 moments 0 most oldest
      × (new.1 ≡ old.1)
  Takes (Skips place) old new = HasNoReplies (old.0 place) × AllStay old.0 new.0 × (new.1 ≡ old.1)
  Takes (Spares place most oldest) old new = IsSpared most oldest (old.0 place) × AllStay old.0 new.0 × (new.1 ≡ old.1)
  Takes (Closes place result) old new = (p : Place) × (old.0 place ≡ Some p) × StopsFor result p.connection × (new.0 place ≡ None)
      × OthersStay place old.0 new.0 × (new.1 ≡ old.1)
  Takes (GivesUp place ticks error) old new = (p : Place) × (old.0 place ≡ Some p) × Owes (Some error) p.connection × (ticks ≡ p.silent) × (new.0 place ≡ None)
      × OthersStay place old.0 new.0 × (new.1 ≡ old.1)
  Takes (Expires place age) old new = HoldsReply age (old.0 place) × (new.0 place ≡ None) × OthersStay place old.0 new.0 × (new.1 ≡ old.1)
  Takes (Ends place result) old new = (p : Place) × (last : ConnectionView) × (old.0 place ≡ Some p)
      × LastTurn (PortAnswer answers p.reads_only) result p.connection last old.1 new.1 × (new.0 place ≡ None) × OthersStay place old.0 new.0
  Takes Fails old new = AllStay old.0 new.0 × (new.1 ≡ old.1)

  -- the steps are taken, one after the other
  abbrev pub TakesAll : List Step → Places × S → Places × S → Type 0
  TakesAll [] old new = AllStay old.0 new.0 × (new.1 ≡ old.1)
  TakesAll (step ∷ steps) old new = (mid : Places × S) × Takes step old mid × TakesAll steps mid new

  -- Connections were served beside each other, from the first one to the end of the last one, and their sessions ended so. News was
  -- followed, and then there were only last turns. No step went farther with a client than it may.
  pub record ServedAll (patience : Patience) (turns : ℕ) (kept : EndsView) (old new : S) : Type 0 where
    pub news : List News
    pub before : List Step
    pub last : List Step
    pub follows : FollowsAll [] news before
    pub ending : AllByRecursion IsLast last
    pub takes : TakesAll (before ++ last) (nobody, old) (nobody, new)
    pub ends : kept ≡ kept_of (told_all (before ++ last))
    pub limited : AllByRecursion (GoesSoFar patience turns) before
