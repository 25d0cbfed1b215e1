-- Answers, and which of them an operation may have.
use Rattle.std.specs.Prelude.{◌≡◌, ◌<◌, ◌^◌, ℕ, length, Bool, true, ◌||◌, None, Result, Ok}
use Rattle.spiffe_doc.specs.Bundle.{IsBundle}
use Rattle.map_core.specs.declared.op.Op.{Op}
use Rattle.map_core.specs.declared.op.Op.TheVariants.{Set, SetIf, Append, Remove, Get, FetchAll, FetchUnless}
use Rattle.map_core.specs.declared.reply.Reply.{Reply}
use Rattle.map_core.specs.declared.reply.Reply.TheVariants.{Found, All}
use Rattle.map_core.specs.declared.reply.AskError.{AskError}
use Rattle.wire.specs.Answers.{answer_frames, code_of}
use Rattle.wire.specs.ReplyForm.{is_error_code, is_one_of}
use Rattle.client.specs.ReplyCodes.{answer_codes}
use Rattle.frame_front.specs.Dump.{AreValid}
use Rattle.map_core.specs.Laws.{Ascends}

-- whoever is asked gave an answer, or an error
abbrev pub Answer : Type 0
Answer = Result Reply AskError

-- ---- which answers an operation may have

-- the letter of its request
abbrev pub letter_of : Op → ℕ
letter_of (Set d b) = 83
letter_of (SetIf d expect b) = 67
letter_of (Append d a) = 65
letter_of (Remove d) = 82
letter_of (Get d) = 71
letter_of FetchAll = 70
letter_of (FetchUnless known) = 85

-- the codes of what comes of its request, and the numbers of errors
abbrev pub is_code_for : Op → ℕ → Bool
is_code_for op code = is_error_code code || is_one_of (answer_codes (letter_of op)) code

-- the answer is of a kind that the operation may have
abbrev pub MayAnswer : Op → Answer → Type 0
MayAnswer op answer = is_code_for op (code_of (answer_frames answer)) ≡ true

-- The bundle that is found is valid. Of all, each name and each bundle is valid, and they are in order of their names.
abbrev pub IsValidAnswer : Answer → Type 0
IsValidAnswer (Ok (Found bundle)) = IsBundle bundle
IsValidAnswer (Ok (All items)) = AreValid items × Ascends None items × (length items < 2 ^ 64)
IsValidAnswer answer = Unit {0}
