-- What is answered through a gate.
use Rattle.std.specs.Prelude.{◌≡◌, Bool, true, false, Option, Result, Err}
use Rattle.std.proofs.Common.{subst, sym}
use Rattle.map_core.specs.declared.op.Op.{Op}
use Rattle.map_core.specs.declared.reply.Reply.{Reply}
use Rattle.map_core.specs.declared.reply.AskError.{AskError}
use Rattle.map_core.specs.declared.reply.AskError.TheVariants.{GateShut}
use Rattle.map_core.specs.PlainMap.{PlainMap}
use Rattle.map_core.specs.Ask.{AnswersPlainly, PlainAnswer}

module _ {S : Type 0} (answers : S → Op → Result Reply AskError → S → Type 0) where
  -- whoever stands behind an open gate answers; at a shut one nothing is asked
  abbrev pub AnsweredBehind : Bool → S → Op → Result Reply AskError → S → Type 0
  AnsweredBehind true old op answer new = answers old op answer new
  AnsweredBehind false old op answer new = (answer ≡ Err GateShut) × (new ≡ old)

  -- The gate is found open or shut, and the answer is the one for that.
  abbrev pub GatedAnswer : (Bool → Type 0) → S → Op → Result Reply AskError → S → Type 0
  GatedAnswer opens old op answer new = (is_open : Bool) × opens is_open × AnsweredBehind is_open old op answer new

-- If a map is shown, what is answered through a gate is the plain map's, too.
pub gated_answers_plainly : {S : Type 0} (opens : Bool → Type 0) (answers : S → Op → Result Reply AskError → S → Type 0) (shows : S → Option PlainMap)
    → AnswersPlainly answers shows → AnswersPlainly (GatedAnswer answers opens) shows
gated_answers_plainly {S} opens answers shows plainly old op answer new m shown gated = behind gated.0 gated.2
  where
    behind : (is_open : Bool) → AnsweredBehind answers is_open old op answer new → PlainAnswer m op answer (shows new)
    behind true answered = plainly old op answer new m shown answered
    behind false shut =
        subst (λ (a : Result Reply AskError). PlainAnswer m op a (shows new)) (sym shut.0)
        (subst (λ (s : S). PlainAnswer m op (Err GateShut) (shows s)) (sym shut.1) shown)
