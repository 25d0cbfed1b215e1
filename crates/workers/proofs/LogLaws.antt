-- What a log is told, and what stood there before a change.
use Rattle.std.proofs.Common.{◌≡◌, ℕ, Bool, true, false, Option, Some, None, refl, sym, subst, ap, ◌∙◌}
use Rattle.std.specs.Prelude.{Result, Ok, Err, IfOk, IfSome}
use Rattle.map_core.specs.declared.op.Op.{Op}
use Rattle.map_core.specs.declared.op.Op.TheVariants.{Set, SetIf, Append, Remove}
use Rattle.map_core.specs.declared.op.Expect.{Expect}
use Rattle.map_core.specs.declared.reply.Reply.{Reply}
use Rattle.map_core.specs.declared.reply.Reply.TheVariants.{Stored, Appended, Removed}
use Rattle.map_core.specs.declared.reply.AskError.{AskError}
use Rattle.map_core.specs.Name.{Name}
use Rattle.shard_store.specs.Pass.{SeatedView}
use Rattle.shard_store.specs.Seated.{SeatedAnswer}
use Rattle.workers.specs.declared.log.How.{How}
use Rattle.workers.specs.Log.{ChangeView, HasLooked, StoodBefore, IsTold, LoggedAnswer, change_told}
use Rattle.workers.specs.Private.Names.{changed_name}

-- what is equal to an outcome is so of its value
pub if_ok_is : {X E : Type 0} {P : X → Type 0} (found wanted : Result X E) → found ≡ wanted → ((x : X) → wanted ≡ Ok x → P x) → IfOk found P
if_ok_is (Ok x) wanted is each = each x (sym is)
if_ok_is (Err e) wanted is each = tt

pub same_some : {X : Type 0} {x y : X} → Some x ≡ Some y → x ≡ y
same_some e = cc

-- a change that is told is of the name that the operation asks to change
told_of : (before : Option Expect) (op : Op) (answer : Result Reply AskError) (P : ChangeView → Type 0)
    → ((how : How) (domain : Name) (after : Expect) → changed_name op ≡ Some domain → P (record { how = how; domain = domain; before = before; after = after }))
    → IfSome (change_told before op answer) P
told_of before (Set d b) (Ok Stored) P each = each _ d _ refl
told_of before (SetIf d expect b) (Ok Stored) P each = each _ d _ refl
told_of before (Append d a) (Ok (Appended sequence)) P each = each _ d _ refl
told_of before (Remove d) (Ok Removed) P each = each _ d _ refl
told_of before op answer P each = tt

-- what was looked at before a copy was asked was looked at before the operation was
pub stood_before : (before : Option Expect) (copy op : Op) (answer : Result Reply AskError) (old mid new : SeatedView) → copy ≡ op
    → ((domain : Name) → changed_name copy ≡ Some domain → HasLooked domain old mid before) → SeatedAnswer mid op answer new
    → IfSome (change_told before op answer) (StoodBefore op answer old new)
stood_before before copy op answer old mid new is looked last =
    told_of before op answer (StoodBefore op answer old new) (λ how domain after named. (mid, looked domain (ap changed_name is ∙ named), last))

module _ {L : Type 0} (tells : L → ℕ → ChangeView → L → Type 0) (worker : ℕ) (old new : L) where
  -- a log that is off is told of nothing
  off_told : (wanted : Bool) (change : Option ChangeView) → false ≡ wanted → new ≡ old → IsTold tells wanted worker change old new
  off_told false change off same = same
  off_told true change off same = cc

  -- of nothing there is nothing to tell
  none_told : (wanted : Bool) (change : Option ChangeView) → None ≡ change → new ≡ old → IsTold tells wanted worker change old new
  none_told false change none same = same
  none_told true None none same = same
  none_told true (Some change) none same = cc

never_on : (wanted : Bool) → false ≡ wanted → wanted ≡ true → ⊥
never_on wanted off on = cc

-- nothing is looked at for a log that is off
pub off_logged : {L : Type 0} (tells : L → ℕ → ChangeView → L → Type 0) (wants : L → Bool) (worker : ℕ) (old new : SeatedView × L) (op : Op) (answer : Result Reply AskError)
    → false ≡ wants old.1 → SeatedAnswer old.0 op answer new.0 → new.1 ≡ old.1 → LoggedAnswer tells wants worker old op answer new
off_logged tells wants worker old new op answer off answered same = record {
  answered = answered;
  before = None;
  stood = λ on. absurd (never_on (wants old.1) off on);
  told = off_told tells worker old.1 new.1 (wants old.1) (change_told None op answer) off same;
}

-- where nothing is told, nothing was looked at for it
pub nothing_logged : {L : Type 0} (tells : L → ℕ → ChangeView → L → Type 0) (wants : L → Bool) (worker : ℕ) (old new : SeatedView × L) (op : Op) (answer : Result Reply AskError)
    → None ≡ change_told None op answer → SeatedAnswer old.0 op answer new.0 → new.1 ≡ old.1 → LoggedAnswer tells wants worker old op answer new
nothing_logged tells wants worker old new op answer none answered same = record {
  answered = answered;
  before = None;
  stood = λ on. subst (λ (change : Option ChangeView). IfSome change (StoodBefore op answer old.0 new.0)) none tt;
  told = none_told tells worker old.1 new.1 (wants old.1) (change_told None op answer) none same;
}

-- the same is told where all is the same
pub told_as : {L : Type 0} (tells : L → ℕ → ChangeView → L → Type 0) (wanted : Bool) (worker w : ℕ) (made m : Option ChangeView) (old o new n : L)
    → true ≡ wanted → w ≡ worker → m ≡ made → o ≡ old → n ≡ new → IsTold tells true w m o n → IsTold tells wanted worker made old new
told_as {L} tells wanted worker w made m old o new n on by is from to told =
    subst (λ (b : Bool). IsTold tells b worker made old new) on
    (subst (λ (x : ℕ). IsTold tells true x made old new) by
    (subst (λ (x : Option ChangeView). IsTold tells true w x old new) is
    (subst (λ (x : L). IsTold tells true w m x new) from
    (subst (λ (x : L). IsTold tells true w m o x) to told))))
