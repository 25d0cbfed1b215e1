-- Replies as a client takes and shows them.
use Rattle.std.specs.Prelude.{◌≡◌, ℕ, Bool, true, false, List, [], ◌∷◌, ◌++◌, get_or, if◌then◌else◌}
use Rattle.std.specs.List.{flat_map}
use Rattle.wire.specs.Frame.{frame}
use Rattle.wire.specs.ReplyForm.{Reply, All, Bundle, Found, Counts, Refused, Moved, Held, Worn, Memory, Shut, HasPayload, IsLined, line_of, payload_of, text_of}
use Rattle.client.specs.ReplyCodes.{may_come}
use Rattle.client.specs.declared.reply.Due.{Due}
use Rattle.client.specs.declared.reply.Due.TheVariants.{AnswerTo, OneOfAll}
use Rattle.client.specs.declared.asking.Form.{Form}
use Rattle.client.specs.declared.asking.Form.TheVariants.{Lines, Texts, Frames}

-- the request changed nothing and may do better if it is asked again: memory ran out, or other passes were in its way
abbrev pub is_transient : Reply → Bool
is_transient Memory = true
is_transient (Moved shard first second) = true
is_transient (Held shard revision) = true
is_transient reply = false

-- the request was not done
abbrev pub is_refusal : Reply → Bool
is_refusal (Refused number detail) = true
is_refusal (Moved shard first second) = true
is_refusal (Held shard revision) = true
is_refusal (Worn shard) = true
is_refusal Memory = true
is_refusal Shut = true
is_refusal reply = false

-- how many bundles follow the reply
abbrev pub bundles_after : Reply → ℕ
bundles_after (All count) = count
bundles_after reply = 0

abbrev pub is_bundle : Reply → Bool
is_bundle (Bundle name text) = true
is_bundle reply = false

-- it is all text: the bundle that was asked for, or counts
abbrev pub is_text : Reply → Bool
is_text (Found text) = true
is_text (Counts text) = true
is_text reply = false

-- replies as a session writes them
abbrev pub reply_frames : List Reply → List ℕ
reply_frames replies = flat_map (λ reply. frame (payload_of reply)) replies

-- a reply is shown as its line, as its frame, or, if it is all text, as that
abbrev pub shown : Form → Reply → List ℕ
shown Lines reply = line_of reply ++ 10 ∷ []
shown Texts reply = (if is_text reply then text_of reply else line_of reply) ++ 10 ∷ []
shown Frames reply = frame (payload_of reply)

abbrev pub CanBeShown : Form → Reply → Type 0
CanBeShown Lines reply = IsLined reply
CanBeShown Texts reply = IsLined reply
CanBeShown Frames reply = Unit {0}

-- the code of a reply is the first byte of its payload
abbrev pub code_of : Reply → ℕ
code_of reply = get_or (payload_of reply) 0 0

-- the code of the answer is one that the request may have, or the reply is a bundle
abbrev pub comes_at : Due → Reply → Bool
comes_at (AnswerTo letter) reply = may_come letter (code_of reply)
comes_at OneOfAll reply = is_bundle reply

-- A reply that may come there, and be shown.
abbrev pub IsTold : Form → Due → Reply → Type 0
IsTold form due reply = HasPayload reply × (comes_at due reply ≡ true) × CanBeShown form reply
