-- How turns and ends of connections are steps of a worker.
use Rattle.std.proofs.Common.{◌≡◌, ◌≤◌, ℕ, List, [], ◌∷◌, ◌++◌, refl, sym, ap, ◌∙◌, subst, length, get_or, inl, inr, ◌<◌, ◌+◌, arith, Result, Ok, Err}
use Rattle.std.specs.Prelude.{suc, Option, Some, None, IsSome, Bool, OnOk, is_some, ◌⊎◌}
use Rattle.std.specs.List.{AllByRecursion}
use Rattle.std.proofs.lemmas.Bool.{cases_lt}
use Rattle.std.proofs.lemmas.List.{get_or_past}
use Rattle.slab.specs.Slab.{Slab, Updates, get, with_value}
use Rattle.slab.proofs.SlabLemmas.{Updates-with_value}
use Rattle.map_core.specs.declared.op.Op.{Op}
use Rattle.map_core.specs.declared.reply.Reply.{Reply}
use Rattle.map_core.specs.declared.reply.AskError.{AskError}
use Rattle.wire.specs.declared.error.FrontError.{FrontError}
use Rattle.wire.specs.declared.error.FrontError.TheVariants.{WriteFault}
use Rattle.workers.specs.Connection.{ConnectionView, LastTurn, Owes, StopsFor, Turn, age_after, ended, last_rounds, opened, silent_after, told, turn_rounds}
use Rattle.workers.specs.Stream.{StreamLimits}
use Rattle.workers.specs.declared.turn_end.TurnEnd.{TurnEnd}
use Rattle.workers.specs.declared.turn_end.TurnEnd.TheVariants.{Over}
use Rattle.workers.specs.AtPort.{PortAnswer}
use Rattle.workers.specs.declared.at_port.AtPort.{AtPort}
use Rattle.workers.specs.Arrivals.{News, NewClient, IsReady, HasTicked, HasFailed}
use Rattle.workers.specs.declared.limits.Limits.{Limits}
use Rattle.workers.specs.Ended.{EndsView, Notes}
use Rattle.workers.specs.Places.{Place, Places, Step, Opens, Turns, Misses, Ticks, Skips, Spares, Closes, GivesUp, Expires, Ends, Fails, AllStay, AllTick, Follows, HasNoReplies, HoldsReply, IsHeard, IsLast, IsOldest, IsSpared, IsTimely, Judges, JudgesAll, OthersStay, ServesFirst, TakesAll, TriesWrite, told_by, closing_of, front_end, ticked, turn_steps, waiting_after, without}
use Rattle.workers.specs.Private.Serving.{AreOpen, Asks, HadTurn, HadLastTurn, IsTurn, NobodyThere, Serves, Work}
use Rattle.workers.proofs.SimulatedTurns.{turn_seen}
use Rattle.workers.proofs.StepLemmas.{all_stay, all_then, serves_as, serves_none, serves_one, serves_quietly, serves_then, stay_then}

on_ok : {X E : Type 0} {P Q : Type 0} (r : Result X E) → OnOk r P → (P → Q) → OnOk r Q
on_ok (Ok x) p f = f p
on_ok (Err e) p f = p

pub on_ok_then : {X E : Type 0} {P Q : Type 0} (r : Result X E) → (P → Q) → OnOk r P → OnOk r Q
on_ok_then r f p = on_ok r p f

-- ---- one place of a slab

pub put_back : (s : Slab Place) (place : ℕ) (p q : Place) → get s place ≡ Some p → Updates s (with_value s place q) place (Some q)
put_back s place p q is = Updates-with_value s place q (ap is_some is)

-- no value stands beyond the slots
pub beyond : (s : Slab Place) (place : ℕ) → length s.slots ≤ place → get s place ≡ None
beyond s place far = get_or_past s.slots place None far

-- ---- turns at a port

-- whoever asks at a port, which stays as it is
abbrev AtItsPort : {S : Type 0} → (S → Op → Result Reply AskError → S → Type 0) → AtPort S → Op → Result Reply AskError → AtPort S → Type 0
AtItsPort answers old op answer new = (new.reads_only ≡ old.reads_only) × PortAnswer answers old.reads_only old.ask op answer new.ask

module _ {S : Type 0} (answers : S → Op → Result Reply AskError → S → Type 0) (rounds : ℕ) (after : TurnEnd) (a b : ConnectionView) where
  -- of the map behind the port
  pub turn_behind : (reads_only : Bool) (s t : AtPort S) → s.reads_only ≡ reads_only → Turn rounds (AtItsPort answers) after a b s t
      → Turn rounds (PortAnswer answers reads_only) after a b s.ask t.ask
  turn_behind reads_only s t at turn =
      (turn_seen (AtItsPort answers) (PortAnswer answers reads_only) (λ s. s.ask) (λ s. s.reads_only ≡ reads_only)
      (λ s op answer t stays a. (a.0 ∙ stays, subst (λ r. PortAnswer answers r s.ask op answer t.ask) stays a.1)) rounds after a b s t at turn).1

abbrev place_of : ConnectionView → (reads_only : Bool) → (silent age : ℕ) → Place
place_of connection reads_only silent age = record { connection = connection; reads_only = reads_only; silent = silent; age = age }

-- the connection at a place has a turn
pub has_turn : {S : Type 0} (answers : S → Op → Result Reply AskError → S → Type 0) (slab : Slab Place) (place : ℕ) (is_closing : Bool) (after : TurnEnd) (p q : Place) (s t : S)
    → get slab place ≡ Some p → Turn turn_rounds (PortAnswer answers p.reads_only) after (told is_closing p.connection) q.connection s t
    → q.reads_only ≡ p.reads_only → q.silent ≡ silent_after p.connection q.connection p.silent → q.age ≡ age_after p.connection q.connection p.age
    → HadTurn answers place is_closing (Some after) (get slab) (get (with_value slab place q)) s t
has_turn answers slab place is_closing after p q s t was turn reads silent age =
    let put = put_back slab place p q was in
    let is : q ≡ place_of q.connection p.reads_only (silent_after p.connection q.connection p.silent) (age_after p.connection q.connection p.age) =
    ap (λ (b : Bool). place_of q.connection b q.silent q.age) reads ∙ (ap (λ (n : ℕ). place_of q.connection p.reads_only n q.age) silent
    ∙ ap (place_of q.connection p.reads_only (silent_after p.connection q.connection p.silent)) age) in
    record { before = p; behind = q.connection; was = was; is = put.changed ∙ ap Some is; does = turn; others = put.others }

-- or its last turn
pub has_last_turn : {S : Type 0} (answers : S → Op → Result Reply AskError → S → Type 0) (slab : Slab Place) (place : ℕ) (end : Result ℕ FrontError) (p : Place) (c : ConnectionView) (s t : AtPort S)
    → get slab place ≡ Some p → s.reads_only ≡ p.reads_only → LastTurn (AtItsPort answers) end p.connection c s t
    → HadLastTurn answers place (Some end) (get slab) (get (with_value slab place (record { connection = c; reads_only = p.reads_only; silent = p.silent; age = p.age }))) s.ask t.ask
has_last_turn answers slab place end p c s t was at last =
    let put = put_back slab place p (record { connection = c; reads_only = p.reads_only; silent = p.silent; age = p.age }) was in
    record { before = p; behind = c; was = was; is = put.changed; does = (last.0, turn_behind answers last_rounds last.0 (ended p.connection) c p.reads_only s t at last.1, last.2); others = put.others }

-- ---- turns and ends as steps

-- these steps are a turn of the connection that is there
is_turn : (place : ℕ) (ready : Option Bool) (after : TurnEnd) (o : Option Place) (p : Place) (steps : List Step) → o ≡ Some p → steps ≡ turn_steps place ready after → IsTurn place ready o steps
is_turn place ready after o p steps was is = subst (λ (q : Option Place). IsTurn place ready q steps) (sym was) (after, is)

module _ {S : Type 0} (answers : S → Op → Result Reply AskError → S → Type 0) (limits : Limits) where
  -- a last turn, and then the connection is left
  pub last_ends : (place : ℕ) (end : Result ℕ FrontError) (old mid new : Work) (s t : S) → HadLastTurn answers place (Some end) old.places mid.places s t → mid.waiting ≡ old.waiting → mid.kept ≡ old.kept
      → new.places place ≡ None → OthersStay place mid.places new.places → new.waiting ≡ without place mid.waiting → Notes (front_end end ∷ []) mid.kept new.kept
      → Serves answers limits (AllByRecursion IsLast) old new s t
  last_ends place end old mid new s t h waits kept left others leaves notes =
      serves_one answers limits (AllByRecursion IsLast) (Ends place end) old new s t (tt, tt)
      (h.before, h.behind, h.was, h.does, left, stay_then place old.places mid.places new.places h.others others) (leaves ∙ ap (without place) waits)
      (subst (λ (n : EndsView). Notes (front_end end ∷ []) n new.kept) kept notes) tt

  -- last turns, and then others
  pub last_then : (a b c : Work) (s t u : S) → Serves answers limits (AllByRecursion IsLast) a b s t → Serves answers limits (AllByRecursion IsLast) b c t u → Serves answers limits (AllByRecursion IsLast) a c s u
  last_then a b c s t u p q =
      serves_then answers limits (AllByRecursion IsLast) (AllByRecursion IsLast) (AllByRecursion IsLast) a b c s t u (λ xs ys waits m n. all_then IsLast xs ys m n) p q

  -- a turn is taken
  had_turn : (place : ℕ) (is_closing : Bool) (ready : Option Bool) (found after : TurnEnd) (old new : Work) (s t : S) → found ≡ after → closing_of ready ≡ is_closing
      → HadTurn answers place is_closing (Some found) old.places new.places s t → new.waiting ≡ waiting_after old.waiting (Turns place ready after) → new.kept ≡ old.kept
      → Serves answers limits (λ steps. steps ≡ Turns place ready after ∷ []) old new s t
  had_turn place is_closing ready found after old new s t is closes h waits kept =
      serves_quietly answers limits (λ steps. steps ≡ Turns place ready after ∷ []) (Turns place ready after) old new s t refl
      (h.before, record { connection = h.behind; reads_only = h.before.reads_only; silent = silent_after h.before.connection h.behind h.before.silent; age = age_after h.before.connection h.behind h.before.age }, h.was, h.is, told_so, refl, refl, refl, h.others) waits refl kept tt
    where
      told_so : Turn turn_rounds (PortAnswer answers h.before.reads_only) after (told (closing_of ready) h.before.connection) h.behind s t
      told_so =
          subst (λ a. Turn turn_rounds (PortAnswer answers h.before.reads_only) a (told (closing_of ready) h.before.connection) h.behind s t) is
          (subst (λ b. Turn turn_rounds (PortAnswer answers h.before.reads_only) found (told b h.before.connection) h.behind s t) (sym closes) h.does)

  -- a turn, after which the connection is not left
  pub turn_serves : (place : ℕ) (is_closing : Bool) (ready : Option Bool) (found after : TurnEnd) (old new : Work) (s t : S) → turn_steps place ready after ≡ Turns place ready after ∷ []
      → found ≡ after → closing_of ready ≡ is_closing → HadTurn answers place is_closing (Some found) old.places new.places s t → new.waiting ≡ waiting_after old.waiting (Turns place ready after) → new.kept ≡ old.kept
      → Serves answers limits (IsTurn place ready (old.places place)) old new s t
  turn_serves place is_closing ready found after old new s t stays is closes h waits kept =
      serves_as answers limits (λ steps. steps ≡ Turns place ready after ∷ []) (IsTurn place ready (old.places place))
      (λ steps one. is_turn place ready after (old.places place) h.before steps h.was (one ∙ sym stays)) old new s t
      (had_turn place is_closing ready found after old new s t is closes h waits kept)

  -- a turn after which the session is over, and the connection is left
  pub over_serves : (place : ℕ) (is_closing : Bool) (ready : Option Bool) (found : TurnEnd) (end : Result ℕ FrontError) (old mid new : Work) (s t : S)
      → found ≡ Over end → closing_of ready ≡ is_closing → HadTurn answers place is_closing (Some found) old.places mid.places s t → mid.waiting ≡ without place old.waiting → mid.kept ≡ old.kept
      → new.places place ≡ None → OthersStay place mid.places new.places → new.waiting ≡ without place mid.waiting → Notes (front_end end ∷ []) mid.kept new.kept
      → Serves answers limits (IsTurn place ready (old.places place)) old new s t
  over_serves place is_closing ready found end old mid new s t is closes h waits kept left others leaves notes =
      let turn : List Step = Turns place ready (Over end) ∷ [] in
      let close : List Step = Closes place end ∷ [] in
      serves_then answers limits (λ steps. steps ≡ turn) (λ steps. steps ≡ close) (IsTurn place ready (old.places place)) old mid new s t t
      (λ xs ys line p q. is_turn place ready (Over end) (old.places place) h.before (xs ++ ys) h.was (ap (λ (l : List Step). l ++ ys) p ∙ ap (λ (l : List Step). turn ++ l) q))
      (had_turn place is_closing ready found (Over end) old mid s t is closes h waits kept)
      (serves_one answers limits (λ steps. steps ≡ close) (Closes place end) mid new t t refl
      (record { connection = h.behind; reads_only = h.before.reads_only; silent = silent_after h.before.connection h.behind h.before.silent; age = age_after h.before.connection h.behind h.before.age }, h.is, ends, left, others, refl) leaves notes tt)
    where
      ends : StopsFor end h.behind
      ends = (subst (λ a. Turn turn_rounds (PortAnswer answers h.before.reads_only) a (told is_closing h.before.connection) h.behind s t) is h.does).why

  -- nobody had a turn
  pub missed_serves : (place : ℕ) (ready : Option Bool) (old new : Work) (s t : S) → NobodyThere answers place old.places new.places s t → new.waiting ≡ old.waiting → new.kept ≡ old.kept
      → Serves answers limits (IsTurn place ready (old.places place)) old new s t
  missed_serves place None old new s t n waits kept =
      serves_none answers limits (IsTurn place None (old.places place)) old new s t (subst (λ (o : Option Place). IsTurn place None o []) (sym n.0) refl) n.1 waits kept n.2
  missed_serves place (Some b) old new s t n waits kept =
      serves_quietly answers limits (IsTurn place (Some b) (old.places place)) (Misses place b) old new s t
      (subst (λ (o : Option Place). IsTurn place (Some b) o (Misses place b ∷ [])) (sym n.0) refl) (n.0, n.1, n.2) waits refl kept tt

  still_anywhere : (p q : Places) (s : S) → TakesAll Asks [] (p, tt) (q, tt) → TakesAll answers [] (p, s) (q, s)
  still_anywhere p q s a = (a.0, refl)

  -- clients may be judged in any run
  judged_anywhere : (oldest place : ℕ) (steps : List Step) (p q : Places) (s : S) → Judges oldest place steps → TakesAll Asks steps (p, tt) (q, tt) → TakesAll answers steps (p, s) (q, s)
  judged_anywhere oldest place steps p q s (inl spared) a =
      subst (λ (l : List Step). TakesAll Asks l (p, tt) (q, tt) → TakesAll answers l (p, s) (q, s)) (sym spared.1)
      (λ b. ((b.0.0, s), (b.1.0, b.1.1, refl), still_anywhere b.0.0 q s b.2)) a
  judged_anywhere oldest place steps p q s (inr (inl given_up)) a =
      subst (λ (l : List Step). TakesAll Asks l (p, tt) (q, tt) → TakesAll answers l (p, s) (q, s)) (sym given_up.2)
      (λ b. ((b.0.0, s), (b.1.0, b.1.1, b.1.2, b.1.3, b.1.4, b.1.5, refl), still_anywhere b.0.0 q s b.2)) a
  judged_anywhere oldest place steps p q s (inr (inr expired)) a =
      subst (λ (l : List Step). TakesAll Asks l (p, tt) (q, tt) → TakesAll answers l (p, s) (q, s)) (sym expired.1)
      (λ b. ((b.0.0, s), (b.1.0, b.1.1, b.1.2, refl), still_anywhere b.0.0 q s b.2)) a

  judges : (oldest place : ℕ) (old new : Work) (s : S) → Serves Asks limits (Judges oldest place) old new tt tt → Serves answers limits (Judges oldest place) old new s s
  judges oldest place old new s j =
      record { steps = j.steps; are = j.are; takes = judged_anywhere oldest place j.steps old.places new.places s j.are j.takes; waits = j.waits; notes = j.notes; limited = j.limited }

  -- A tick is counted, and so many places have been judged since.
  abbrev pub TicksTo : (places oldest place : ℕ) → List Step → Type 0
  TicksTo places oldest place steps = (moments : ℕ) × (most : ℕ) × (judged : List Step) × (steps ≡ Ticks places moments most oldest ∷ judged) × JudgesAll oldest place judged

  -- a tick is counted
  pub ticks_serve : (places oldest : ℕ) (old new : Work) (s : S) → AllTick old.places new.places → ((place : ℕ) → places ≤ place → old.places place ≡ None)
      → IsOldest new.places limits.patience.moments 0 limits.patience.reply_ticks oldest → new.waiting ≡ old.waiting → new.kept ≡ old.kept
      → Serves answers limits (TicksTo places oldest 0) old new s s
  ticks_serve places oldest old new s ticks beyond is waits kept =
      let moments = limits.patience.moments in
      let most = limits.patience.reply_ticks in
      serves_quietly answers limits (TicksTo places oldest 0) (Ticks places moments most oldest) old new s s (moments, most, [], refl, refl) (ticks, beyond, is, refl) waits refl kept (refl, refl)

  -- one place more is judged
  pub ticks_more : (places oldest place : ℕ) (a b c d : Work) (s t u : S) → Serves answers limits (TicksTo places oldest place) a b s t → Serves answers limits (TriesWrite place) b c t u
      → Serves Asks limits (Judges oldest place) c d tt tt → Serves answers limits (TicksTo places oldest (place + 1)) a d s u
  ticks_more places oldest place a b c d s t u before tries judged =
      serves_then answers limits (TicksTo places oldest place) Both (TicksTo places oldest (place + 1)) a b d s t u
      (λ xs ys waits p q. (p.0, p.1, p.2 ++ ys, ap (λ (l : List Step). l ++ ys) p.3, subst (λ (n : ℕ). JudgesAll oldest n (p.2 ++ ys)) next (p.2, q.0, q.1, ap (λ (l : List Step). p.2 ++ l) q.2, p.4, q.3, q.4)))
      before (serves_then answers limits (TriesWrite place) (Judges oldest place) Both b c d t u u (λ xs ys waits p q. (xs, ys, refl, p, q)) tries (judges oldest place c d u judged))
    where
      next : suc place ≡ place + 1
      next = omega arith

      Both : List Step → Type 0
      Both steps = (write : List Step) × (judge : List Step) × (steps ≡ write ++ judge) × TriesWrite place write × Judges oldest place judge

  pub ticks_follow : (places oldest place : ℕ) (old new : Work) (s t : S) → place ≡ places → Serves answers limits (TicksTo places oldest place) old new s t → Serves answers limits (Follows HasTicked) old new s t
  ticks_follow places oldest place old new s t all done =
      serves_as answers limits (TicksTo places oldest place) (Follows HasTicked)
      (λ steps p. (places, p.0, p.1, oldest, p.2, p.3, subst (λ (n : ℕ). JudgesAll oldest n p.2) all p.4)) old new s t done

  -- no write is tried where no reply waits
  pub skips_write : (place : ℕ) (old : Work) (s : S) → HasNoReplies (old.places place) → Serves answers limits (TriesWrite place) old old s s
  skips_write place old s none =
      serves_quietly answers limits (TriesWrite place) (Skips place) old old s s (inl refl) (none, all_stay old.places, refl) refl refl refl tt

  -- or the connection there has a turn
  pub tries_write : (place : ℕ) (old new : Work) (s t : S) → IsSome (old.places place) → Serves answers limits (IsTurn place None (old.places place)) old new s t → Serves answers limits (TriesWrite place) old new s t
  tries_write place old new s t there turn =
      serves_as answers limits (IsTurn place None (old.places place)) (TriesWrite place) (tried (old.places place) there) old new s t turn
    where
      tried : (o : Option Place) → IsSome o → (steps : List Step) → IsTurn place None o steps → TriesWrite place steps
      tried (Some p) there steps is = inr is
      tried None there steps is = cc

  -- a free place is taken
  pub take_serves : (place : ℕ) (may : StreamLimits) (left held : Option (List ℕ)) (reads_only : Bool) (old new : Work) (s : S) → old.places place ≡ None
      → new.places place ≡ Some (record { connection = opened reads_only limits.turns may left held; reads_only = reads_only; silent = 0; age = 0 }) → OthersStay place old.places new.places
      → new.waiting ≡ old.waiting ++ place ∷ [] → new.kept ≡ old.kept → Serves answers limits (Follows (NewClient place (opened reads_only limits.turns may left held) reads_only)) old new s s
  take_serves place may left held reads_only old new s free taken others waits kept =
      let start = opened reads_only limits.turns may left held in
      serves_quietly answers limits (Follows (NewClient place start reads_only)) (Opens place start reads_only) old new s s refl (free, taken, others, refl) waits refl kept (may, left, held, refl)

  pub by_news : (h k : News) (old new : Work) (s t : S) → k ≡ h → Serves answers limits (Follows h) old new s t → Serves answers limits (Follows k) old new s t
  by_news h k old new s t same a = subst (λ (n : News). Serves answers limits (Follows n) old new s t) (sym same) a

  pub fails_serves : (old new : Work) (s : S) → AllStay old.places new.places → new.waiting ≡ old.waiting → Notes (told_by Fails) old.kept new.kept → Serves answers limits (Follows HasFailed) old new s s
  fails_serves old new s same waits notes = serves_one answers limits (Follows HasFailed) Fails old new s s refl (same, refl) waits notes tt

-- a turn that follows its stream
pub turn_follows : (place : ℕ) (is_closing : Bool) (o : Option Place) (steps : List Step) → IsTurn place (Some is_closing) o steps → Follows (IsReady place is_closing) steps
turn_follows place is_closing (Some p) steps is = inr is
turn_follows place is_closing None steps is = inl is

-- who waits is there, and so has a turn
pub first_served : (places : Places) (waiting : List ℕ) (place : ℕ) (steps : List Step) → AreOpen places waiting → 0 < length waiting → place ≡ get_or waiting 0 place
    → IsTurn place None (places place) steps → ServesFirst waiting steps
first_served places [] place steps are_there some is turn = absurd (omega (arith, some))
first_served places (first ∷ others) place steps are_there some is turn =
    there (places first) are_there.0 (subst (λ (n : ℕ). IsTurn n None (places n) steps) is turn)
  where
    there : (o : Option Place) → IsSome o → IsTurn first None o steps → ServesFirst (first ∷ others) steps
    there (Some p) some_there t = t
    there None some_there t = cc

module _ (limits : Limits) where
  -- a client is spared
  pub spares : (oldest place : ℕ) (old : Work) → IsHeard limits.patience.most_silent (old.places place) → IsTimely oldest (old.places place) → Serves Asks limits (Judges oldest place) old old tt tt
  spares oldest place old heard timely =
      serves_quietly Asks limits (Judges oldest place) (Spares place limits.patience.most_silent oldest) old old tt tt (inl (limits.patience.most_silent, refl))
      ((heard, timely), all_stay old.places, refl) refl refl refl refl

  -- or given up for its silence
  pub gives_up : (oldest place : ℕ) (error : FrontError) (old new : Work) (p : Place) → old.places place ≡ Some p → Owes (Some error) p.connection → limits.patience.most_silent ≤ p.silent
      → new.places place ≡ None → OthersStay place old.places new.places → new.waiting ≡ without place old.waiting → Notes (front_end (Err error) ∷ []) old.kept new.kept
      → Serves Asks limits (Judges oldest place) old new tt tt
  gives_up oldest place error old new p was owes long left others leaves notes =
      serves_one Asks limits (Judges oldest place) (GivesUp place p.silent error) old new tt tt (inr (inl (p.silent, error, refl))) (p, was, owes, refl, left, others, refl) leaves notes long

  -- or since it holds a reply that is too old
  pub expires : (oldest place age : ℕ) (old new : Work) → HoldsReply age (old.places place) → oldest ≤ age
      → new.places place ≡ None → OthersStay place old.places new.places → new.waiting ≡ without place old.waiting → Notes (front_end (Err WriteFault) ∷ []) old.kept new.kept
      → Serves Asks limits (Judges oldest place) old new tt tt
  expires oldest place age old new held long left others leaves notes =
      serves_one Asks limits (Judges oldest place) (Expires place age) old new tt tt (inr (inr (age, refl, long))) (held, left, others, refl) leaves notes tt

-- ---- places one after the other

-- one place more is ticked
pub ticked_below : (old now new : Places) (place : ℕ) → ((other : ℕ) → other < place → now other ≡ ticked (old other)) → ((other : ℕ) → place ≤ other → now other ≡ old other)
    → new place ≡ ticked (now place) → OthersStay place now new → (other : ℕ) → other < place + 1 → new other ≡ ticked (old other)
ticked_below old now new place before after here others other below = by (cases_lt other place)
  where
    by : (other < place) ⊎ (place ≤ other) → new other ≡ ticked (old other)
    by (inl less) = others other (λ e. absurd (omega (arith, e, less))) ∙ before other less
    by (inr far) =
        let same : other ≡ place = omega (arith, below, far) in
        subst (λ (n : ℕ). new n ≡ ticked (old n)) (sym same) (here ∙ ap ticked (after place (omega arith)))

-- all places are ticked, if those below this one are, and nobody stands at it or beyond
pub all_ticked : (old new : Places) (place places : ℕ) → places ≤ place → ((other : ℕ) → other < place → new other ≡ ticked (old other))
    → ((other : ℕ) → place ≤ other → new other ≡ old other) → ((other : ℕ) → places ≤ other → old other ≡ None) → AllTick old new
all_ticked old new place places done below beyond nobody_there other = by (cases_lt other place)
  where
    by : (other < place) ⊎ (place ≤ other) → new other ≡ ticked (old other)
    by (inl less) = below other less
    by (inr far) =
        let none : old other ≡ None = nobody_there other (omega (arith, far, done)) in
        beyond other far ∙ (none ∙ ap ticked (sym none))

-- one place more is free
pub free_below : (old new : Places) (place : ℕ) → ((other : ℕ) → other < place → old other ≡ None) → new place ≡ None → OthersStay place old new
    → (other : ℕ) → other < place + 1 → new other ≡ None
free_below old new place before now others other below = by (cases_lt other place)
  where
    by : (other < place) ⊎ (place ≤ other) → new other ≡ None
    by (inl less) = others other (λ e. absurd (omega (arith, e, less))) ∙ before other less
    by (inr far) = let same : other ≡ place = omega (arith, below, far) in subst (λ (n : ℕ). new n ≡ None) (sym same) now

-- all places are free, if those below this one are, and those beyond the last
pub all_free : (places_open : Places) (place places : ℕ) → places ≤ place → ((other : ℕ) → other < place → places_open other ≡ None) → ((other : ℕ) → places ≤ other → places_open other ≡ None)
    → (other : ℕ) → places_open other ≡ None
all_free places_open place places done below beyond other = by (cases_lt other place)
  where
    by : (other < place) ⊎ (place ≤ other) → places_open other ≡ None
    by (inl less) = below other less
    by (inr far) = beyond other (omega (arith, far, done))
