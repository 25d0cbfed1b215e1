-- What is answered by asking again.
use Rattle.std.specs.Prelude.{◌≡◌, ◌≤◌, ℕ, zero, suc, Bool, true, false, Option, Some, Result, Ok, Err}
use Rattle.std.proofs.Common.{sym, subst}
use Rattle.map_core.specs.declared.op.Op.{Op}
use Rattle.map_core.specs.declared.reply.Reply.{Reply}
use Rattle.map_core.specs.declared.reply.AskError.{AskError}
use Rattle.map_core.specs.declared.reply.AskError.TheVariants.{Memory, Moved, Held}
use Rattle.map_core.specs.PlainMap.{PlainMap}
use Rattle.map_core.specs.Ask.{AnswersPlainly, PlainAnswer}

-- nothing was done, and the answer may be another soon: another caller held or changed a shard
abbrev pub is_transient : {R : Type 0} → Result R AskError → Bool
is_transient (Err (Moved shard first second)) = true
is_transient (Err (Held shard revision)) = true
is_transient answer = false

module _ {S : Type 0} (answers : S → Op → Result Reply AskError → S → Type 0) where
  -- If there is room for a copy of the operation, it is asked; else nothing is, and nothing is done.
  abbrev pub LastAnswer : Bool → S → Op → Result Reply AskError → S → Type 0
  LastAnswer true old op answer new = answers old op answer new
  LastAnswer false old op answer new = (answer ≡ Err Memory) × (new ≡ old)

  -- After a transient answer it is asked again, so many times; the last answer counts.
  abbrev pub AskedAgain : ℕ → Bool → S → Op → Result Reply AskError → S → Type 0
  AskedAgain zero has_room old op answer new = LastAnswer has_room old op answer new
  AskedAgain (suc n) has_room old op answer new =
      (first : Result Reply AskError) × (mid : S) × (is_transient first ≡ true) × answers old op first mid × AskedAgain n has_room mid op answer new

  -- at most so many times, and no fewer if the last answer is transient too
  abbrev pub Retried : ℕ → S → Op → Result Reply AskError → S → Type 0
  Retried most old op answer new = (n : ℕ) × (n ≤ most) × (is_transient answer ≡ true → n ≡ most)
      × (has_room : Bool) × AskedAgain n has_room old op answer new

-- If a map is shown, the last answer is the plain map's.
pub retried_answers_plainly : {S : Type 0} (answers : S → Op → Result Reply AskError → S → Type 0) (shows : S → Option PlainMap)
    → AnswersPlainly answers shows → (most : ℕ) → AnswersPlainly (Retried answers most) shows
retried_answers_plainly {S} answers shows plainly most old op answer new m shown retried = again retried.0 retried.3 old shown retried.4
  where
    still : (first : Result Reply AskError) (s : Option PlainMap) → is_transient first ≡ true → PlainAnswer m op first s → s ≡ Some m
    still (Err error) s transient kept = kept
    still (Ok reply) s transient kept = cc

    last : (has_room : Bool) (s : S) → shows s ≡ Some m → LastAnswer answers has_room s op answer new → PlainAnswer m op answer (shows new)
    last true s shown answered = plainly s op answer new m shown answered
    last false s shown refused =
        subst (λ (a : Result Reply AskError). PlainAnswer m op a (shows new)) (sym refused.0)
        (subst (λ (t : S). PlainAnswer m op (Err Memory) (shows t)) (sym refused.1) shown)

    again : (n : ℕ) (has_room : Bool) (s : S) → shows s ≡ Some m → AskedAgain answers n has_room s op answer new → PlainAnswer m op answer (shows new)
    again zero has_room s shown asked = last has_room s shown asked
    again (suc n) has_room s shown asked =
        again n has_room asked.1 (still asked.0 (shows asked.1) asked.2 (plainly s op asked.0 asked.1 m shown asked.3)) asked.4
