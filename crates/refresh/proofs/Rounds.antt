-- One refresh more.
use Rattle.std.proofs.Common.{◌≡◌, ◌≢◌, ◌==◌, ℕ, ◌+◌, List, [], ◌∷◌, ◌++◌, length, Bool, true, false, ◌&&◌, Option, Some, None, Result, Ok, slice_get, slice_set, refl, sym, ap, subst, ◌∙◌, arith}
use Rattle.std.proofs.lemmas.Bool.Decides.{nat_tests}
use Rattle.std.proofs.lemmas.Grind.{common_steps}
use Rattle.std.proofs.lemmas.List.Folds.{list_all-append}
use Rattle.map_core.specs.Name.{Name}
use Rattle.map_core.specs.declared.op.Op.{Op}
use Rattle.map_core.specs.declared.reply.Reply.{Reply}
use Rattle.map_core.specs.declared.reply.AskError.{AskError}
use Rattle.wire.specs.Output.{TellsUnlessFailed}
use Rattle.refresh.specs.declared.error.RefreshError.{RefreshError}
use Rattle.refresh.specs.declared.outcome.Outcome.{Outcome}
use Rattle.refresh.specs.Refresh.{Refreshes}
use Rattle.refresh.specs.Relationship.{RelationshipValue}
use Rattle.refresh.specs.Schedule.{ScheduleValue}
use Rattle.refresh.specs.declared.each.Times.{Times}
use Rattle.refresh.specs.declared.outcome_lines.Remark.{Remark}
use Rattle.refresh.specs.Due.{due_not_before}
use Rattle.refresh.specs.OutcomeLine.{Details, outcome_line}
use Rattle.refresh.specs.Each.{Scene, TellsPlace, TellsFrom, all_are_good, is_good}

and_true : (b : Bool) → (b && true) ≡ b
and_true true = refl
and_true false = refl

-- all are good and so is one more
pub all_and_one : (outcomes : List Outcome) (one : Outcome) → all_are_good (outcomes ++ one ∷ []) ≡ (all_are_good outcomes && is_good one.what)
all_and_one outcomes one =
    list_all-append (λ (o : Outcome). is_good o.what) outcomes (one ∷ []) ∙ ap (λ b. all_are_good outcomes && b) (and_true (is_good one.what))

pub and_then : (now before one : Bool) → before ≡ true → now ≡ one → now ≡ (before && one)
and_then now before one was is = is ∙ sym (ap (λ b. b && one) was)

pub and_else : (now before one : Bool) → before ≡ false → now ≡ false → now ≡ (before && one)
and_else now before one was is = is ∙ sym (ap (λ b. b && one) was)

-- a line is taken if the writer has not failed more often than before
pub taken_is : (taken : Bool) (faults before start : ℕ) → taken ≡ (faults == before) → taken ≡ true → before ≡ start → faults ≡ start
taken_is taken faults before start is was same =
    let test : (faults == before) ≡ true = sym is ∙ was in grind (arith, nat_tests)

pub not_taken : (taken : Bool) (faults before start : ℕ) → taken ≡ (faults == before) → taken ≡ false → before ≡ start → faults ≢ start
not_taken taken faults before start is was same equal =
    let test : (faults == before) ≡ false = sym is ∙ was in absurd (grind (arith, nat_tests))

pub one_more : (outcomes : List Outcome) (one : Outcome) (place : ℕ) → length outcomes ≡ place → length (outcomes ++ one ∷ []) ≡ place + 1
one_more outcomes one place is = grind (arith, common_steps)

-- what a line tells, part by part
pub same_telling : (time due due' : ℕ) (domain domain' : Name) (is_sent is_sent' has_emptied has_emptied' : Bool) (remark remark' : Option Remark)
    → due ≡ due' → domain ≡ domain' → is_sent ≡ is_sent' → has_emptied ≡ has_emptied' → remark ≡ remark'
    → (let a : Details = record { time = time; due = due; domain = domain; is_sent = is_sent; has_emptied = has_emptied; remark = remark } in a)
    ≡ (let b : Details = record { time = time; due = due'; domain = domain'; is_sent = is_sent'; has_emptied = has_emptied'; remark = remark' } in b)
same_telling time due due' domain domain' is_sent is_sent' has_emptied has_emptied' remark remark' e f g h i = cc

-- who stands at a place of a schedule does so after a refresh
pub same_domain : (place : ℕ) (r found : RelationshipValue) (old new : ScheduleValue)
    → slice_get old.relationships place ≡ Some r → slice_get new.relationships place ≡ Some found → new.relationships ≡ old.relationships
    → found.domain ≡ r.domain
same_domain place r found old new at there same =
    let both : Some found ≡ Some r = sym there ∙ ap (λ (rs : List RelationshipValue). slice_get rs place) same ∙ at in
    let one : found ≡ r = cc in ap (λ (x : RelationshipValue). x.domain) one

module _ {S T : Type 0} (fetches : S → RelationshipValue → Option (List ℕ) → S → Type 0) (remark_in : S → Option Remark)
    (answers : T → Op → Result Reply AskError → T → Type 0) (fault_in : T → Option RefreshError) (empties_in : T → Bool) (only_sends : Bool)
    (times : Times) (before : ℕ) where
  -- the refreshes so far, and the next one
  pub tells_next : (place : ℕ) (outcomes : List Outcome) (one : Outcome) (old mid new : Scene S T)
      → TellsFrom fetches remark_in answers fault_in empties_in only_sends times before place outcomes old mid
      → TellsPlace fetches remark_in answers fault_in empties_in only_sends times before (place + length outcomes) one mid new
      → TellsFrom fetches remark_in answers fault_in empties_in only_sends times before place (outcomes ++ one ∷ []) old new
  tells_next place [] one old mid new so_far next =
      let here : place + 0 ≡ place = omega arith in (
        new,
        subst (λ (x : Scene S T). TellsPlace fetches remark_in answers fault_in empties_in only_sends times before place one x new) so_far
            (subst (λ (n : ℕ). TellsPlace fetches remark_in answers fault_in empties_in only_sends times before n one mid new) here next),
        refl,
      )
  tells_next place (first ∷ outcomes) one old mid new so_far next =
      let there : place + length (first ∷ outcomes) ≡ (place + 1) + length outcomes = omega arith in (
        so_far.0,
        so_far.1,
        tells_next (place + 1) outcomes one so_far.0 mid new so_far.2
            (subst (λ (n : ℕ). TellsPlace fetches remark_in answers fault_in empties_in only_sends times before n one mid new) there next),
      )

  -- one refresh, by what its calls give
  pub tells_place : (place : ℕ) (outcome : Outcome) (old new : Scene S T) (r found : RelationshipValue)
      (due : ℕ) (domain : Name) (is_sent has_emptied : Bool) (remark : Option Remark)
      → slice_get old.schedule.relationships place ≡ Some r
      → Refreshes fetches answers r times.time (old.source, old.target) (Ok outcome) (new.source, new.target)
      → new.schedule ≡ record { relationships = old.schedule.relationships; due_times = slice_set old.schedule.due_times place outcome.due }
      → fault_in new.target ≡ None
      → due ≡ due_not_before times.time times.at_least outcome.due
      → slice_get new.schedule.relationships place ≡ Some found → domain ≡ found.domain
      → is_sent ≡ only_sends → has_emptied ≡ empties_in new.target → remark ≡ remark_in new.source
      → TellsUnlessFailed before old.lines new.lines
      (outcome_line (record { time = times.time; due = due; domain = domain; is_sent = is_sent; has_emptied = has_emptied; remark = remark }) outcome.what)
      → TellsPlace fetches remark_in answers fault_in empties_in only_sends times before place outcome old new
  tells_place place outcome old new r found due domain is_sent has_emptied remark at refreshes moved goes_on due_is there domain_is sent_is emptied_is remark_is told =
      record {
        relationship = r;
        refreshed = record { at_place = at; refreshes = refreshes; due = moved };
        goes_on = goes_on;
        told = subst (λ (t : Details). TellsUnlessFailed before old.lines new.lines (outcome_line t outcome.what))
            (same_telling times.time due (due_not_before times.time times.at_least outcome.due) domain r.domain is_sent only_sends
            has_emptied (empties_in new.target) remark (remark_in new.source) due_is
            (domain_is ∙ same_domain place r found old.schedule new.schedule at there (ap (λ (s : ScheduleValue). s.relationships) moved))
            sent_is emptied_is remark_is)
            told;
      }
