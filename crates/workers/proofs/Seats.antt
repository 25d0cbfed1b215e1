-- A seat behind a gate answers as a pass at its store does behind that gate.
use Rattle.std.proofs.Common.{Bool, true, false, ap}
use Rattle.std.specs.Prelude.{Result}
use Rattle.map_core.specs.declared.op.Op.{Op}
use Rattle.map_core.specs.declared.reply.Reply.{Reply}
use Rattle.map_core.specs.declared.reply.AskError.{AskError}
use Rattle.workers.specs.Gate.{AnsweredBehind, GatedAnswer}

pub gated_as_seated : {S T : Type 0} {answers : S → Op → Result Reply AskError → S → Type 0} {answers_seen : T → Op → Result Reply AskError → T → Type 0} (seen : S → T)
    → ((old : S) (op : Op) (answer : Result Reply AskError) (new : S) → answers old op answer new → answers_seen (seen old) op answer (seen new))
    → (opens : Bool → Type 0) (old : S) (op : Op) (answer : Result Reply AskError) (new : S)
    → GatedAnswer answers opens old op answer new → GatedAnswer answers_seen opens (seen old) op answer (seen new)
gated_as_seated {S} {T} {answers} {answers_seen} seen each opens old op answer new gated = (gated.0, gated.1, behind gated.0 gated.2)
  where
    behind : (is_open : Bool) → AnsweredBehind answers is_open old op answer new → AnsweredBehind answers_seen is_open (seen old) op answer (seen new)
    behind true answered = each old op answer new answered
    behind false shut = (shut.0, ap seen shut.1)
