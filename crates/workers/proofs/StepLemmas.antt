-- The steps of a worker, one after the other.
use Rattle.std.proofs.Common.{◌≡◌, List, [], ◌∷◌, ◌++◌, refl, sym, ap, ◌∙◌, subst, append_assoc, append-nil, Result}
use Rattle.std.specs.Prelude.{ℕ, fold}
use Rattle.std.specs.List.{AllByRecursion}
use Rattle.std.proofs.lemmas.Grind.{flat_map-append}
use Rattle.std.proofs.lemmas.List.Sums.{fold-append}
use Rattle.map_core.specs.declared.op.Op.{Op}
use Rattle.map_core.specs.declared.reply.Reply.{Reply}
use Rattle.map_core.specs.declared.reply.AskError.{AskError}
use Rattle.workers.specs.Places.{Places, Step, Opens, Turns, Misses, Ticks, Skips, Spares, Closes, GivesUp, Expires, Ends, Fails, GoesSoFar, HasNoReplies, HoldsReply, IsSpared, OthersStay, AllStay, Takes, TakesAll, told_all, told_by, ticked, waiting_after}
use Rattle.workers.specs.Private.Serving.{Serves, Work}
use Rattle.workers.specs.declared.limits.Limits.{Limits}
use Rattle.workers.specs.Ended.{EndsView, Notes, kept_of}
use Rattle.workers.specs.declared.ended.SessionFault.{SessionFault}

pub all_stay : (p : Places) → AllStay p p
all_stay p place = refl

pub stay_then : (place : ℕ) (a b c : Places) → OthersStay place a b → OthersStay place b c → OthersStay place a c
stay_then place a b c p q other else = q other else ∙ p other else

pub notes_then : (xs ys : List Step) (m n o : EndsView) → Notes (told_all xs) m n → Notes (told_all ys) n o → Notes (told_all (xs ++ ys)) m o
notes_then xs ys m n o p q before is =
    q (before ++ told_all xs) (p before is)
    ∙ ap kept_of (append_assoc before (told_all xs) (told_all ys) ∙ ap (λ (l : List (Result ℕ SessionFault)). before ++ l) (sym (flat_map-append told_by xs ys)))

-- nothing is noted
pub notes_none : (m : EndsView) → Notes [] m m
notes_none m before is = is ∙ ap kept_of (sym (append-nil before))

notes_by : (xs ys : List (Result ℕ SessionFault)) (m n : EndsView) → xs ≡ ys → Notes xs m n → Notes ys m n
notes_by xs ys m n same p = subst (λ (l : List (Result ℕ SessionFault)). Notes l m n) same p

pub all_then : {X : Type 0} (P : X → Type 0) (xs ys : List X) → AllByRecursion P xs → AllByRecursion P ys → AllByRecursion P (xs ++ ys)
all_then P [] ys p q = q
all_then P (x ∷ xs) ys p q = (p.0, all_then P xs ys p.1 q)

module _ {S : Type 0} (answers : S → Op → Result Reply AskError → S → Type 0) where
  -- places that are the same are left in the same way
  step_from : (step : Step) (old also : Places) (s : S) (new : Places × S) → AllStay old also → Takes answers step (old, s) new → Takes answers step (also, s) new
  step_from (Opens place start reads_only) old also s new same a = (same place ∙ a.0, a.1, λ other else. a.2 other else ∙ sym (same other), a.3)
  step_from (Turns place ready after) old also s new same a = (a.0, a.1, same place ∙ a.2, a.3, a.4, a.5, a.6, a.7, λ other else. a.8 other else ∙ sym (same other))
  step_from (Misses place is_closing) old also s new same a = (same place ∙ a.0, λ other. a.1 other ∙ sym (same other), a.2)
  step_from (Ticks places moments most oldest) old also s new same a = (λ place. a.0 place ∙ ap ticked (sym (same place)), λ place far. same place ∙ a.1 place far, a.2, a.3)
  step_from (Skips place) old also s new same a = (subst HasNoReplies (sym (same place)) a.0, λ other. a.1 other ∙ sym (same other), a.2)
  step_from (Spares place most oldest) old also s new same a = (subst (IsSpared most oldest) (sym (same place)) a.0, λ other. a.1 other ∙ sym (same other), a.2)
  step_from (Closes place result) old also s new same a = (a.0, same place ∙ a.1, a.2, a.3, λ other else. a.4 other else ∙ sym (same other), a.5)
  step_from (GivesUp place ticks error) old also s new same a = (a.0, same place ∙ a.1, a.2, a.3, a.4, λ other else. a.5 other else ∙ sym (same other), a.6)
  step_from (Expires place age) old also s new same a = (subst (HoldsReply age) (sym (same place)) a.0, a.1, λ other else. a.2 other else ∙ sym (same other), a.3)
  step_from (Ends place result) old also s new same a = (a.0, a.1, same place ∙ a.2, a.3, a.4, λ other else. a.5 other else ∙ sym (same other))
  step_from Fails old also s new same a = (λ place. a.0 place ∙ sym (same place), a.1)

  steps_from : (steps : List Step) (old also : Places) (s : S) (new : Places × S) → AllStay old also → TakesAll answers steps (old, s) new → TakesAll answers steps (also, s) new
  steps_from [] old also s new same a = (λ place. a.0 place ∙ sym (same place), a.1)
  steps_from (step ∷ steps) old also s new same a = (a.0, step_from step old also s a.0 same a.1, a.2)

  pub steps_then : (xs ys : List Step) (a b c : Places × S) → TakesAll answers xs a b → TakesAll answers ys b c → TakesAll answers (xs ++ ys) a c
  steps_then [] ys a b c p q =
      steps_from ys b.0 a.0 a.1 c (λ place. sym (p.0 place)) (subst (λ (s : S). TakesAll answers ys (b.0, s) c) p.1 q)
  steps_then (x ∷ xs) ys a b c p q = (p.0, p.1, steps_then xs ys p.0 b c p.2 q)

  -- places that are the same are reached, too
  pub steps_to : (steps : List Step) (old new : Places × S) (also : Places) → AllStay new.0 also → TakesAll answers steps old new → TakesAll answers steps old (also, new.1)
  steps_to [] old new also same a = (λ place. same place ∙ a.0 place, a.1)
  steps_to (step ∷ steps) old new also same a = (a.0, a.1, steps_to steps a.0 new also same a.2)

module _ {S : Type 0} (answers : S → Op → Result Reply AskError → S → Type 0) (limits : Limits) where
  -- nothing is done
  pub serves_none : (Are : List Step → Type 0) (old new : Work) (s t : S) → Are [] → AllStay old.places new.places → new.waiting ≡ old.waiting → new.kept ≡ old.kept → t ≡ s
      → Serves answers limits Are old new s t
  serves_none Are old new s t are same waits kept still = record {
    steps = [];
    are = are;
    takes = (same, still);
    waits = waits;
    notes = subst (λ (n : EndsView). Notes [] old.kept n) (sym kept) (notes_none old.kept);
    limited = tt;
  }

  -- one step
  pub serves_one : (Are : List Step → Type 0) (step : Step) (old new : Work) (s t : S) → Are (step ∷ []) → Takes answers step (old.places, s) (new.places, t)
      → new.waiting ≡ waiting_after old.waiting step → Notes (told_by step) old.kept new.kept → GoesSoFar limits.patience limits.turns step → Serves answers limits Are old new s t
  serves_one Are step old new s t are a waits notes limited = record {
    steps = step ∷ [];
    are = are;
    takes = ((new.places, t), a, (all_stay new.places, refl));
    waits = waits;
    notes = notes_by (told_by step) (told_all (step ∷ [])) old.kept new.kept (sym (append-nil (told_by step))) notes;
    limited = (limited, tt);
  }

  -- one step that ends no session
  pub serves_quietly : (Are : List Step → Type 0) (step : Step) (old new : Work) (s t : S) → Are (step ∷ []) → Takes answers step (old.places, s) (new.places, t)
      → new.waiting ≡ waiting_after old.waiting step → told_by step ≡ [] → new.kept ≡ old.kept → GoesSoFar limits.patience limits.turns step → Serves answers limits Are old new s t
  serves_quietly Are step old new s t are a waits none kept limited =
      serves_one Are step old new s t are a waits
      (subst (λ (n : EndsView). Notes (told_by step) old.kept n) (sym kept) (notes_by [] (told_by step) old.kept old.kept (sym none) (notes_none old.kept))) limited

  -- some steps, and then others
  pub serves_then : (P Q R : List Step → Type 0) (a b c : Work) (s t u : S) → ((xs ys : List Step) → b.waiting ≡ fold waiting_after a.waiting xs → P xs → Q ys → R (xs ++ ys))
      → Serves answers limits P a b s t → Serves answers limits Q b c t u → Serves answers limits R a c s u
  serves_then P Q R a b c s t u both p q = record {
    steps = p.steps ++ q.steps;
    are = both p.steps q.steps p.waits p.are q.are;
    takes = steps_then answers p.steps q.steps (a.places, s) (b.places, t) (c.places, u) p.takes q.takes;
    waits = q.waits ∙ (ap (λ w. fold waiting_after w q.steps) p.waits ∙ sym (fold-append waiting_after a.waiting p.steps q.steps));
    notes = notes_then p.steps q.steps a.kept b.kept c.kept p.notes q.notes;
    limited = all_then (GoesSoFar limits.patience limits.turns) p.steps q.steps p.limited q.limited;
  }

  -- of some kind, and so of another
  pub serves_as : (P Q : List Step → Type 0) → ((steps : List Step) → P steps → Q steps) → (a b : Work) (s t : S) → Serves answers limits P a b s t → Serves answers limits Q a b s t
  serves_as P Q so a b s t p = record { steps = p.steps; are = so p.steps p.are; takes = p.takes; waits = p.waits; notes = p.notes; limited = p.limited }
