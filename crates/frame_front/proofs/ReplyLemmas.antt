-- What the code of a reply tells.
use Rattle.std.proofs.Common.{◌≡◌, ℕ, List, [], ◌∷◌, ◌++◌, refl, sym, ap, ◌∙◌, inl, inr, Result, Ok, Err, Some, Bool, true, false}
use Rattle.std.specs.Prelude.{Option}
use Rattle.spiffe_doc.specs.declared.name.NameError.TheVariants as name
use Rattle.spiffe_doc.specs.declared.error.DocError.TheVariants as doc
use Rattle.map_core.specs.declared.op.Op.{Op}
use Rattle.map_core.specs.declared.reply.Reply.{Reply}
use Rattle.map_core.specs.declared.reply.Reply.TheVariants.{Stored, Unchanged, Appended, Removed, Found, All, Same, Refused}
use Rattle.map_core.specs.declared.reply.MapRefusal.{MapRefusal}
use Rattle.map_core.specs.declared.reply.MapRefusal.TheVariants.{NoDomain, Stale, KidTaken, TooMany, TooLong, SequenceFull, NotExpected}
use Rattle.map_core.specs.declared.reply.AskError.{AskError}
use Rattle.map_core.specs.declared.reply.AskError.TheVariants as error
use Rattle.map_core.specs.Reply.{is_change}
use Rattle.map_core.specs.PlainMap.{PlainMap, ask}
use Rattle.map_core.specs.Ask.{PlainAnswer, ContentsAnswer}
use Rattle.map_core.proofs.MapLaws.{ask_keeps}
use Rattle.wire.specs.declared.version.Version.{Version}
use Rattle.wire.specs.declared.version.Version.TheVariants.{One, Two, Three}
use Rattle.wire.specs.declared.judge.Judged.{Judged}
use Rattle.wire.specs.declared.judge.Judged.TheVariants.{Ask, SetVersion, TellCounts}
use Rattle.wire.specs.declared.refusal.Refusal.{Refusal}
use Rattle.wire.specs.declared.refusal.Refusal.TheVariants.{BadRequest, BadName, BadDocument, PassedOver, Memory}
use Rattle.wire.specs.Frame.{frame}
use Rattle.wire.specs.Judge.{request_of}
use Rattle.wire.specs.Answers.{answer_frames, reply_frames, GoesOut, memory_frame, refusal_frame, version_frame, counts_frame, is_error_reply}
use Rattle.wire.specs.ReplyForm.{is_error_code}
use Rattle.frame_front.specs.Session.{SessionState, AnswersRequest, AnswersUnless, Answers}
use Rattle.frame_front.specs.Terms.{is_turned_away}
use Rattle.frame_front.specs.PlainSession.{TellsError}

pub not_both : (b : Bool) → b ≡ true → b ≡ false → ⊥
not_both b is_true is_false = cc

-- the code of a frame says whether it tells an error
frame_tells : (code : ℕ) (rest more : List ℕ) → is_error_reply (frame (code ∷ rest) ++ more) ≡ is_error_code code
unfolding frame
frame_tells code rest more = refl

one_frame_tells : (code : ℕ) (rest : List ℕ) → is_error_reply (frame (code ∷ rest)) ≡ is_error_code code
unfolding frame
one_frame_tells code rest = refl

pub want_is_error : (text : List ℕ) → text ≡ memory_frame → is_error_reply text ≡ true
want_is_error text same = ap is_error_reply same ∙ one_frame_tells 22 []

pub version_answers : (version : Version) → is_error_reply (version_frame version) ≡ false
version_answers One = one_frame_tells 118 _
version_answers Two = one_frame_tells 118 _
version_answers Three = one_frame_tells 118 _

pub counts_answer : (counts : List ℕ) → is_error_reply (counts_frame counts) ≡ false
counts_answer counts = one_frame_tells 109 counts

refused_answers : (why : MapRefusal) → is_error_reply (reply_frames (Refused why)) ≡ false
refused_answers NoDomain = one_frame_tells 30 _
refused_answers (Stale sequence) = one_frame_tells 31 _
refused_answers KidTaken = one_frame_tells 32 _
refused_answers TooMany = one_frame_tells 33 _
refused_answers TooLong = one_frame_tells 34 _
refused_answers SequenceFull = one_frame_tells 35 _
refused_answers (NotExpected found) = one_frame_tells 36 _

-- a reply of the map tells no error
pub reply_answers : (reply : Reply) → is_error_reply (reply_frames reply) ≡ false
reply_answers Stored = one_frame_tells 115 _
reply_answers Unchanged = one_frame_tells 117 _
reply_answers (Appended sequence) = one_frame_tells 112 _
reply_answers Removed = one_frame_tells 100 _
reply_answers (Found bundle) = one_frame_tells 102 _
reply_answers (All items) = frame_tells 97 _ _
reply_answers Same = one_frame_tells 101 _
reply_answers (Refused why) = refused_answers why

error_tells : (e : AskError) → is_error_reply (answer_frames (Err e)) ≡ true
error_tells error.Memory = one_frame_tells 22 _
error_tells (error.Worn shard) = one_frame_tells 40 _
error_tells (error.Moved shard first second) = one_frame_tells 41 _
error_tells (error.Held shard revision) = one_frame_tells 42 _
error_tells error.GateShut = one_frame_tells 56 _

-- what is shown after a plain answer; if the text that goes out tells no error, it is the plain map's reply
pub plain_goes_out : (answer : Result Reply AskError) (m : PlainMap) (shown : Option PlainMap) (op : Op) (text : List ℕ) → PlainAnswer m op answer shown → GoesOut answer text
    → (n : PlainMap) × (shown ≡ Some n) × (is_error_reply text ≡ false → (text ≡ reply_frames (ask m op).reply) × (n ≡ (ask m op).map))
plain_goes_out (Ok reply) m shown op text plain (inl same) = ((ask m op).map, plain.1, λ none. (same ∙ ap reply_frames plain.0, refl))
plain_goes_out (Ok reply) m shown op text plain (inr want) =
    ((ask m op).map, plain.1, λ none. absurd (not_both (is_error_reply text) (want_is_error text want.1) none))
plain_goes_out (Err e) m shown op text plain (inl same) =
    (m, plain, λ none. absurd (not_both (is_error_reply text) (ap is_error_reply same ∙ error_tells e) none))
plain_goes_out (Err e) m shown op text plain (inr want) = absurd want.0

-- if it tells an error, the map shown is as it was
pub errors_keep : (answer : Result Reply AskError) (m : PlainMap) (shown : Option PlainMap) (op : Op) (text : List ℕ) → PlainAnswer m op answer shown → GoesOut answer text
    → is_error_reply text ≡ true → shown ≡ Some m
errors_keep (Ok reply) m shown op text plain (inl same) tells = absurd (not_both (is_error_reply text) tells (ap is_error_reply same ∙ reply_answers reply))
errors_keep (Ok (All items)) m shown op text plain (inr want) tells = plain.1 ∙ ap Some (ask_keeps m op (ap is_change (sym plain.0)))
errors_keep (Ok Stored) m shown op text plain (inr want) tells = absurd want.0
errors_keep (Ok Unchanged) m shown op text plain (inr want) tells = absurd want.0
errors_keep (Ok (Appended sequence)) m shown op text plain (inr want) tells = absurd want.0
errors_keep (Ok Removed) m shown op text plain (inr want) tells = absurd want.0
errors_keep (Ok (Found bundle)) m shown op text plain (inr want) tells = absurd want.0
errors_keep (Ok Same) m shown op text plain (inr want) tells = absurd want.0
errors_keep (Ok (Refused why)) m shown op text plain (inr want) tells = absurd want.0
errors_keep (Err e) m shown op text plain out tells = plain

-- the reply to a refused payload tells no error, unless it says that memory ran out
refusal_answers : (refusal : Refusal) (text : List ℕ) → text ≡ refusal_frame refusal → ¬ (text ≡ memory_frame) → is_error_reply text ≡ false
refusal_answers BadRequest text same other = ap is_error_reply same ∙ one_frame_tells 51 _
refusal_answers (BadName name.Empty) text same other = ap is_error_reply same ∙ one_frame_tells 1 _
refusal_answers (BadName name.TooLong) text same other = ap is_error_reply same ∙ one_frame_tells 2 _
refusal_answers (BadName (name.BadChar at)) text same other = ap is_error_reply same ∙ one_frame_tells 3 _
refusal_answers (BadName name.Memory) text same other = absurd (other same)
refusal_answers (BadDocument doc.TooLong) text same other = ap is_error_reply same ∙ one_frame_tells 10 _
refusal_answers (BadDocument doc.NotJson) text same other = ap is_error_reply same ∙ one_frame_tells 11 _
refusal_answers (BadDocument doc.NotObject) text same other = ap is_error_reply same ∙ one_frame_tells 12 _
refusal_answers (BadDocument doc.NoKeys) text same other = ap is_error_reply same ∙ one_frame_tells 13 _
refusal_answers (BadDocument doc.BadSequence) text same other = ap is_error_reply same ∙ one_frame_tells 14 _
refusal_answers (BadDocument doc.BadHint) text same other = ap is_error_reply same ∙ one_frame_tells 15 _
refusal_answers (BadDocument (doc.BadEntry place)) text same other = ap is_error_reply same ∙ one_frame_tells 16 _
refusal_answers (BadDocument (doc.BadKey place)) text same other = ap is_error_reply same ∙ one_frame_tells 17 _
refusal_answers (BadDocument (doc.BadX5c place)) text same other = ap is_error_reply same ∙ one_frame_tells 18 _
refusal_answers (BadDocument (doc.BadKid place)) text same other = ap is_error_reply same ∙ one_frame_tells 19 _
refusal_answers (BadDocument (doc.KidTwice place)) text same other = ap is_error_reply same ∙ one_frame_tells 20 _
refusal_answers (BadDocument doc.TooMany) text same other = ap is_error_reply same ∙ one_frame_tells 21 _
refusal_answers (BadDocument doc.Memory) text same other = absurd (other same)
refusal_answers PassedOver text same other = ap is_error_reply same ∙ one_frame_tells 23 _
refusal_answers Memory text same other = absurd (other same)

module _ {S : Type 0} (answers : S → Op → Result Reply AskError → S → Type 0) where
  answer_answers : (op : Op) (answer : Result Reply AskError) (old new : S) (text : List ℕ) → answers old op answer new → GoesOut answer text
      → ¬ (TellsError answers text) → is_error_reply text ≡ false
  answer_answers op (Ok reply) old new text answered (inl same) none = ap is_error_reply same ∙ reply_answers reply
  answer_answers op (Ok reply) old new text answered (inr want) none = absurd (none (inl want.1))
  answer_answers op (Err e) old new text answered (inl same) none = absurd (none (inr (e, (old, op, new, answered), same)))
  answer_answers op (Err e) old new text answered (inr want) none = absurd want.0

  request_answers : (read : Result Judged Refusal) (old new : SessionState S) (text : List ℕ) → AnswersRequest answers read old text new
      → ¬ (TellsError answers text) → is_error_reply text ≡ false
  request_answers (Err refusal) old new text answer none = refusal_answers refusal text answer.0 (λ same. none (inl same))
  request_answers (Ok (SetVersion version)) old new text answer none = ap is_error_reply answer.0 ∙ version_answers version
  request_answers (Ok TellCounts) old new text answer none = ap is_error_reply answer.2 ∙ counts_answer answer.0
  request_answers (Ok (Ask op)) old new text answer none = answer_answers op answer.0 old.1 new.1 text answer.1 answer.2 none

  -- a text that tells no error has no code that says so, unless its payload is turned away
  pub one_answers : (payload : List ℕ) (old new : SessionState S) (text : List ℕ) → Answers answers old payload text new
      → is_turned_away old.0.reads_only payload ≡ false → ¬ (TellsError answers text) → is_error_reply text ≡ false
  one_answers payload old new text answer here none = unless (is_turned_away old.0.reads_only payload) here answer
    where
      unless : (away : Bool) → away ≡ false → AnswersUnless answers away old payload text new → is_error_reply text ≡ false
      unless true here turned = absurd (not_both true refl here)
      unless false here (inl request) = request_answers (request_of old.0.version payload) old new text request none
      unless false here (inr want) = absurd (none (inl want.0))

-- over one map out of memory is the only error
pub one_map_tells : (text : List ℕ) → TellsError ContentsAnswer text → text ≡ memory_frame
one_map_tells text (inl same) = same
one_map_tells text (inr told) = told.2 ∙ ap (λ (e : AskError). answer_frames (Err e)) told.1.3.0
