-- What a session answers has lines.
use Rattle.std.proofs.Common.{◌≡◌, inl, inr, ℕ, ◌<◌, List, [], ◌∷◌, get_or, Result, Ok, Err, refl, sym, ◌∙◌, append-nil}
use Rattle.map_core.specs.declared.op.Op.{Op}
use Rattle.map_core.specs.declared.reply.Reply.{Reply as Said}
use Rattle.map_core.specs.declared.reply.AskError.{AskError}
use Rattle.std.specs.Prelude.{Bool, true, false}
use Rattle.frame_front.specs.declared.terms.Terms.{Terms}
use Rattle.frame_front.specs.Terms.{is_turned_away}
use Rattle.wire.specs.declared.judge.Judged.{Judged}
use Rattle.wire.specs.declared.judge.Judged.TheVariants.{Ask, SetVersion, TellCounts}
use Rattle.wire.specs.declared.refusal.Refusal.{Refusal}
use Rattle.wire.specs.Frame.{frame}
use Rattle.wire.specs.Answers.{memory_frame, GoesOut, answer_forms, request_refusal_form}
use Rattle.wire.specs.Judge.{request_of}
use Rattle.frame_front.specs.Session.{AnswersRequest, AnswersUnless, Answers}
use Rattle.wire.specs.ReplyForm.{Reply, Speaks, Counts, Memory, Shut, payload_of, line_of}
use Rattle.wire.specs.Decoding.{IsReplyLine}
use Rattle.wire.specs.Laws.{IsAnswer, HaveLines}
use Rattle.wire.proofs.AnswerLines.{lined_is_told, answers_have_lines, answers_are_frames}
use Rattle.wire.proofs.RefusalLines.{refusals_have_lines, versions_have_lines}

one_reply : (r : Reply) (text : List ℕ) → text ≡ frame (payload_of r) → IsReplyLine (payload_of r) (line_of r) → HaveLines text
one_reply r text is told = (r ∷ [], is ∙ sym (append-nil (frame (payload_of r))), (told, tt))

no_memory : (text : List ℕ) → text ≡ memory_frame → HaveLines text
no_memory text is = one_reply Memory text is (lined_is_told Memory (tt, refl))

goes_out : (answer : Result Said AskError) (text : List ℕ) → IsAnswer answer → GoesOut answer text → HaveLines text
goes_out answer text valid (inl told) = (answer_forms answer, told ∙ answers_are_frames answer, answers_have_lines answer valid)
goes_out answer text valid (inr refused) = no_memory text refused.1

pub session_has_lines : {S : Type 0} (answers : S → Op → Result Said AskError → S → Type 0) (terms next : Terms) (old new : S) (payload text : List ℕ) → ((i : ℕ) → get_or payload i 0 < 256)
    → ((op : Op) (answer : Result Said AskError) → answers old op answer new → IsAnswer answer) → Answers answers (terms, old) payload text (next, new) → HaveLines text
session_has_lines answers terms next old new payload text bytes valid answer = unless (is_turned_away terms.reads_only payload) answer
  where
    by : (r : Result Judged Refusal) → request_of terms.version payload ≡ r → AnswersRequest answers r (terms, old) text (next, new) → HaveLines text
    by (Err refusal) e a = let reply = refusals_have_lines terms.version payload refusal bytes e in one_reply (request_refusal_form refusal) text a.0 reply
    by (Ok (SetVersion v)) e a = let reply = versions_have_lines v in one_reply (Speaks v) text a.0 reply
    by (Ok TellCounts) e a = one_reply (Counts a.0) text a.2 (lined_is_told (Counts a.0) (tt, a.1))
    by (Ok (Ask op)) e a = goes_out a.0 text (valid op a.0 a.1) a.2

    unless : (away : Bool) → AnswersUnless answers away (terms, old) payload text (next, new) → HaveLines text
    unless true turned = one_reply Shut text turned.0 (lined_is_told Shut (tt, refl))
    unless false (inr refused) = no_memory text refused.0
    unless false (inl told) = by (request_of terms.version payload) refl told
