-- What is left to store of a reply.
use Rattle.std.specs.Prelude.{◌≡◌, ℕ, ◌+◌, ◌≤◌, List, [], ◌++◌, drop, length, Option, Some, None, Result, Bool, false}
use Rattle.std.specs.List.{flat_map}
use Rattle.spiffe_doc.specs.Authority.{BundleValue}
use Rattle.map_core.specs.Name.{Name}
use Rattle.map_core.specs.declared.op.Op.{Op}
use Rattle.map_core.specs.declared.reply.Reply.{Reply}
use Rattle.map_core.specs.declared.reply.Reply.TheVariants.{Found}
use Rattle.map_core.specs.declared.reply.AskError.{AskError}
use Rattle.spiffe_doc.specs.Text.{text_of}
use Rattle.wire.specs.Answers.{is_error_reply, item_frame, reply_frames}
use Rattle.wire.specs.declared.judge.Judged.{Judged}
use Rattle.wire.specs.declared.refusal.Refusal.{Refusal}
use Rattle.frame_front.specs.Live.{most_part}
use Rattle.frame_front.specs.Session.{SessionState, AnswersRead}
use Rattle.frame_front.specs.declared.pending.PendingReply.{PendingReply}
use Rattle.frame_front.specs.declared.reply.Body.{Body}
use Rattle.frame_front.specs.declared.reply.Body.TheVariants.{Empty, Canonical, All}

-- the frames of the domains, but for the first ones
abbrev pub items_left : List (Name × BundleValue) → ℕ → List ℕ
items_left items stored = flat_map item_frame (drop stored items)

-- what follows the first bytes, when so many domains are stored
abbrev pub body_left : Body → ℕ → List ℕ
body_left Empty stored = []
body_left (Canonical bundle) stored = text_of bundle
body_left (All items) stored = items_left items stored

-- no text is left
abbrev pub HasNoText : Body → Type 0
HasNoText Empty = Unit {0}
HasNoText (Canonical bundle) = ⊥
HasNoText (All items) = Unit {0}

-- of what follows the first bytes, the frames of domains
abbrev pub frames_in : Body → ℕ → List ℕ
frames_in (All items) stored = items_left items stored
frames_in body stored = []

-- the frames of domains that are left
abbrev pub domains_left : PendingReply → List ℕ
domains_left pending = frames_in pending.body pending.stored

-- what is left to store of a reply
abbrev pub reply_left : PendingReply → List ℕ
reply_left pending = pending.head.items ++ body_left pending.body pending.stored

-- the reply to a get that found the bundle stands after what was ready
abbrev pub stores_found : List ℕ → BundleValue → List ℕ → Type 0
stores_found ready bundle new = (new ≡ ready ++ reply_frames (Found bundle)) × (length (text_of bundle) ≤ 1048576)

-- A payload is answered by one of these texts, which says that whoever was asked gave an error, or does not. It waits: what is left
-- of it, after what is ready.
abbrev pub AnswersLater : (List ℕ → Type 0) → Bool → List ℕ → List ℕ → List ℕ → Type 0
AnswersLater IsAnswer is_error ready_old ready_new left =
    (text : List ℕ) × IsAnswer text × (5 ≤ length text) × (is_error ≡ is_error_reply text) × (ready_new ++ left ≡ ready_old ++ text)

-- It is answered by this text, which is to come after what is ready; or by that of a bundle, which has come there.
abbrev pub AnswersNow : {S : Type 0} → (S → Op → Result Reply AskError → S → Type 0)
    → Option (List ℕ) → SessionState S → Result Judged Refusal → SessionState S → List ℕ → List ℕ → Type 0
AnswersNow answers (Some text) old read new ready_old ready_new = AnswersRead answers read old text new × (ready_new ≡ ready_old)
AnswersNow answers None old read new ready_old ready_new =
    (text : List ℕ) × AnswersRead answers read old text new × (5 ≤ length text) × (is_error_reply text ≡ false) × (ready_new ≡ ready_old ++ text)
    × (length ready_new ≤ length ready_old + most_part)
