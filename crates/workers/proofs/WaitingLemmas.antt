-- The places that wait for a turn, and the rounds of a worker.
use Rattle.std.proofs.Common.{◌≡◌, ◌≢◌, ℕ, List, [], ◌∷◌, ◌++◌, refl, sym, ap, ◌∙◌, subst, append_assoc, append-nil, inl, inr, Result}
use Rattle.std.specs.Prelude.{◌⊎◌, ◌==◌, Bool, true, false, cond, not, fold, Option, Some, None, IsSome}
use Rattle.std.specs.List.{AllByRecursion}
use Rattle.std.proofs.lemmas.Bool.{cases_eq, eqb-false}
use Rattle.std.proofs.lemmas.List.Sums.{fold-append}
use Rattle.map_core.specs.declared.op.Op.{Op}
use Rattle.map_core.specs.declared.reply.Reply.{Reply}
use Rattle.map_core.specs.declared.reply.AskError.{AskError}
use Rattle.workers.specs.declared.turn_end.TurnEnd.{TurnEnd}
use Rattle.workers.specs.declared.turn_end.TurnEnd.TheVariants.{Waits, Again, Over}
use Rattle.workers.specs.Arrivals.{News}
use Rattle.workers.specs.Places.{Place, Places, Step, Opens, Turns, Misses, Ticks, Skips, Spares, Closes, GivesUp, Expires, Ends, Fails, Follows, FollowsAll, OthersStay, ServesFirst, Takes, TakesAll, ticked, waiting_after, without}
use Rattle.workers.specs.Private.Serving.{AreOpen, Serves, Work}
use Rattle.workers.specs.declared.limits.Limits.{Limits}
use Rattle.workers.proofs.StepLemmas.{all_then, serves_then}

-- what was true of all that waited, but for this place, is true of those that wait still
without_all : (place : ℕ) (P Q : ℕ → Type 0) → ((other : ℕ) → other ≢ place → P other → Q other) → (waiting : List ℕ) → AllByRecursion P waiting → AllByRecursion Q (without place waiting)
without_all place P Q so [] all = tt
without_all place P Q so (other ∷ waiting) all = by (without_all place P Q so waiting all.1) (other == place) refl
  where
    by : AllByRecursion Q (without place waiting) → (b : Bool) → (other == place) ≡ b → AllByRecursion Q (cond (not b) (other ∷ without place waiting) (without place waiting))
    by rest true e = rest
    by rest false e = (so other (eqb-false other place e) all.0, rest)

all_so : (P Q : ℕ → Type 0) → ((other : ℕ) → P other → Q other) → (waiting : List ℕ) → AllByRecursion P waiting → AllByRecursion Q waiting
all_so P Q so [] all = tt
all_so P Q so (other ∷ waiting) all = (so other all.0, all_so P Q so waiting all.1)

some_there : (o : Option Place) (p : Place) → o ≡ Some p → IsSome o
some_there o p e = subst IsSome (sym e) refl

-- who is there stays there, since others do, and somebody is at this place
stay_open : (place : ℕ) (old new : Places) → IsSome (new place) → OthersStay place old new → (other : ℕ) → IsSome (old other) → IsSome (new other)
stay_open place old new here others other there = by (cases_eq other place)
  where
    by : (other ≡ place) ⊎ (other ≢ place) → IsSome (new other)
    by (inl same) = subst (λ (n : ℕ). IsSome (new n)) (sym same) here
    by (inr else) = subst IsSome (sym (others other else)) there

ticked_open : (o : Option Place) → IsSome o → IsSome (ticked o)
ticked_open (Some p) there = refl
ticked_open None there = there

-- all that wait are there
module _ {S : Type 0} (answers : S → Op → Result Reply AskError → S → Type 0) where
  left_open : (place : ℕ) (old new : Places) → OthersStay place old new → (waiting : List ℕ) → AreOpen old waiting → AreOpen new (without place waiting)
  left_open place old new others waiting are_there =
      without_all place (λ other. IsSome (old other)) (λ other. IsSome (new other)) (λ other else there. subst IsSome (sym (others other else)) there) waiting are_there

  turn_open : (place : ℕ) (ready : Option Bool) (after : TurnEnd) (old new : Places) → IsSome (new place) → OthersStay place old new → (waiting : List ℕ) → AreOpen old waiting
      → AreOpen new (waiting_after waiting (Turns place ready after))
  turn_open place ready Again old new here others waiting are_there =
      all_then (λ other. IsSome (new other)) (without place waiting) (place ∷ []) (left_open place old new others waiting are_there) (here, tt)
  turn_open place ready Waits old new here others waiting are_there = left_open place old new others waiting are_there
  turn_open place ready (Over result) old new here others waiting are_there = left_open place old new others waiting are_there

  step_open : (step : Step) (old new : Places × S) → Takes answers step old new → (waiting : List ℕ) → AreOpen old.0 waiting → AreOpen new.0 (waiting_after waiting step)
  step_open (Opens place start reads_only) old new a waiting are_there =
      let here = some_there (new.0 place) _ a.1 in
      all_then (λ other. IsSome (new.0 other)) waiting (place ∷ []) (all_so (λ other. IsSome (old.0 other)) (λ other. IsSome (new.0 other)) (stay_open place old.0 new.0 here a.2) waiting are_there) (here, tt)
  step_open (Turns place ready after) old new a waiting are_there = turn_open place ready after old.0 new.0 (some_there (new.0 place) a.1 a.3) a.8 waiting are_there
  step_open (Misses place is_closing) old new a waiting are_there =
      all_so (λ other. IsSome (old.0 other)) (λ other. IsSome (new.0 other)) (λ other there. subst IsSome (sym (a.1 other)) there) waiting are_there
  step_open (Skips place) old new a waiting are_there =
      all_so (λ other. IsSome (old.0 other)) (λ other. IsSome (new.0 other)) (λ other there. subst IsSome (sym (a.1 other)) there) waiting are_there
  step_open (Spares place most oldest) old new a waiting are_there =
      all_so (λ other. IsSome (old.0 other)) (λ other. IsSome (new.0 other)) (λ other there. subst IsSome (sym (a.1 other)) there) waiting are_there
  step_open (Ticks places moments most oldest) old new a waiting are_there =
      all_so (λ other. IsSome (old.0 other)) (λ other. IsSome (new.0 other)) (λ other there. subst IsSome (sym (a.0 other)) (ticked_open (old.0 other) there)) waiting are_there
  step_open (Closes place result) old new a waiting are_there = left_open place old.0 new.0 a.4 waiting are_there
  step_open (GivesUp place ticks error) old new a waiting are_there = left_open place old.0 new.0 a.5 waiting are_there
  step_open (Expires place age) old new a waiting are_there = left_open place old.0 new.0 a.2 waiting are_there
  step_open (Ends place result) old new a waiting are_there = left_open place old.0 new.0 a.5 waiting are_there
  step_open Fails old new a waiting are_there =
      all_so (λ other. IsSome (old.0 other)) (λ other. IsSome (new.0 other)) (λ other there. subst IsSome (sym (a.0 other)) there) waiting are_there

  steps_open : (steps : List Step) (old new : Places × S) → TakesAll answers steps old new → (waiting : List ℕ) → AreOpen old.0 waiting → AreOpen new.0 (fold waiting_after waiting steps)
  steps_open [] old new a waiting are_there =
      all_so (λ other. IsSome (old.0 other)) (λ other. IsSome (new.0 other)) (λ other there. subst IsSome (sym (a.0 other)) there) waiting are_there
  steps_open (step ∷ steps) old new a waiting are_there =
      steps_open steps a.0 new a.2 (waiting_after waiting step) (step_open step old a.0 a.1 waiting are_there)

  pub serves_open : (limits : Limits) (Are : List Step → Type 0) (old new : Work) (s t : S) → Serves answers limits Are old new s t → AreOpen old.places old.waiting → AreOpen new.places new.waiting
  serves_open limits Are old new s t a are_there = subst (AreOpen new.places) (sym a.waits) (steps_open a.steps (old.places, s) (new.places, t) a.takes old.waiting are_there)

-- one piece of news more is followed, and then the first of those that wait has a turn
pub follows_more : (waiting : List ℕ) (news : List News) (one : News) (steps now turn : List Step) → FollowsAll waiting news steps → Follows one now
    → ServesFirst (fold waiting_after (fold waiting_after waiting steps) now) turn → FollowsAll waiting (news ++ one ∷ []) (steps ++ (now ++ turn))
follows_more waiting [] one steps now turn none follows serves =
    let here : List ℕ → Type 0 = λ w. ServesFirst (fold waiting_after w now) turn in (
      now,
      turn,
      [],
      ap (λ (l : List Step). l ++ (now ++ turn)) none ∙ ap (λ (l : List Step). now ++ l) (sym (append-nil turn)),
      follows,
      subst here (ap (fold waiting_after waiting) none) serves,
      refl,
    )
follows_more waiting (first ∷ news) one steps now turn all follows serves =
    let begun = all.0 ++ all.1 in
    let is : steps ≡ begun ++ all.2 = all.3 ∙ sym (append_assoc all.0 all.1 all.2) in
    let later : fold waiting_after waiting steps ≡ fold waiting_after (fold waiting_after waiting begun) all.2 = ap (fold waiting_after waiting) is ∙ fold-append waiting_after waiting begun all.2 in (
      all.0,
      all.1,
      all.2 ++ (now ++ turn),
      ap (λ (l : List Step). l ++ (now ++ turn)) is ∙ (append_assoc begun all.2 (now ++ turn) ∙ append_assoc all.0 all.1 (all.2 ++ (now ++ turn))),
      all.4,
      all.5,
      follows_more (fold waiting_after waiting begun) news one all.2 now turn all.6 follows (subst (λ w. ServesFirst (fold waiting_after w now) turn) later serves),
    )

module _ {S : Type 0} (answers : S → Op → Result Reply AskError → S → Type 0) (limits : Limits) where
  -- news is followed, and then the first of those that wait has a turn
  abbrev Round : News → List ℕ → List Step → Type 0
  Round one waiting steps = (now : List Step) × (turn : List Step) × (steps ≡ now ++ turn) × Follows one now × ServesFirst (fold waiting_after waiting now) turn

  -- one round more
  pub round_more : (news : List News) (one : News) (a b c d : Work) (s t u v : S) → Serves answers limits (FollowsAll a.waiting news) a b s t → Serves answers limits (Follows one) b c t u
      → Serves answers limits (ServesFirst c.waiting) c d u v → Serves answers limits (FollowsAll a.waiting (news ++ one ∷ [])) a d s v
  round_more news one a b c d s t u v before follows serves =
      serves_then answers limits (FollowsAll a.waiting news) (Round one b.waiting) (FollowsAll a.waiting (news ++ one ∷ [])) a b d s t v
      (λ xs ys waits all round. subst (λ (l : List Step). FollowsAll a.waiting (news ++ one ∷ []) (xs ++ l)) (sym round.2)
      (follows_more a.waiting news one xs round.0 round.1 all round.3 (subst (λ (w : List ℕ). ServesFirst (fold waiting_after w round.0) round.1) waits round.4))) before
      (serves_then answers limits (Follows one) (ServesFirst c.waiting) (Round one b.waiting) b c d t u v
      (λ xs ys waits now turn. (xs, ys, refl, now, subst (λ (w : List ℕ). ServesFirst w ys) waits turn)) follows serves)
