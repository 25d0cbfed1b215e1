-- A session that is to fill a store, told by what is seen of it.
use Rattle.std.proofs.Common.{◌≡◌, ◌+◌, ℕ, zero, suc, List, [], ◌++◌, append_assoc, append-nil, ◌<◌, ◌-◌, arith, refl, sym, ap, ◌∙◌, subst}
use Rattle.std.specs.Prelude.{Option, Some, Result, Ok, Err}
use Rattle.std.proofs.lemmas.List.{append_cancel_left}
use Rattle.map_core.specs.declared.reply.Reply.TheVariants.{Stored}
use Rattle.wire.specs.Answers.{reply_frames, version_frame}
use Rattle.wire.specs.declared.version.Version.TheVariants.{Two}
use Rattle.frame_front.specs.Transcript.{Transcript}
use Rattle.wire.specs.declared.error.FrontError.{FrontError}
use Rattle.wire.specs.declared.error.FrontError.TheVariants.{BadLength, Truncated, ReadFault, WriteFault, TurnsUsed, Memory}
use Rattle.shard_store.specs.declared.change.Seen.{Seen}
use Rattle.shard_store.specs.Pass.{StoreView, SeatedView}
use Rattle.shard_store.specs.Seated.{SeatedAnswer}
use Rattle.workers.proofs.KeptAlong.{served_keeps}
use Rattle.workers.proofs.PassLaws.{StaysSeated, seated_same, seated_then, seated_answer}
use Rattle.workers.specs.Filling.{Fills, NotFills, IsNotFilled, in_memory, most_reads, seated_view, stored_replies}
use Rattle.workers.specs.declared.filling.FillError.{FillError}
use Rattle.workers.specs.declared.filling.FillError.TheVariants.{Front}

pub session_by : (result : Result ℕ FrontError) (requests replies : List ℕ) (store : StoreView) (old new : Seen) (a b c d : Option (List ℕ)) (s t : SeatedView)
    → a ≡ Some requests → c ≡ Some [] → d ≡ Some replies → s ≡ seated_view store old → t ≡ seated_view store new
    → Transcript SeatedAnswer result most_reads a b c d s t
    → Transcript SeatedAnswer result most_reads (Some requests) b (Some []) (Some replies) (seated_view store old) (seated_view store new)
session_by result requests replies store old new a b c d s t from none to begun done session =
    let with_from = subst (λ (x : Option (List ℕ)). Transcript SeatedAnswer result most_reads x b c d s t) from session in
    let with_none = subst (λ (x : Option (List ℕ)). Transcript SeatedAnswer result most_reads (Some requests) b x d s t) none with_from in
    let with_to = subst (λ (x : Option (List ℕ)). Transcript SeatedAnswer result most_reads (Some requests) b (Some []) x s t) to with_none in
    let with_begun = subst (λ (x : SeatedView). Transcript SeatedAnswer result most_reads (Some requests) b (Some []) (Some replies) x t) begun with_to in
    subst (λ (x : SeatedView). Transcript SeatedAnswer result most_reads (Some requests) b (Some []) (Some replies) (seated_view store old) x) done with_begun

pub fills_by : (requests : List ℕ) (store : StoreView) (old new : Seen) (count answered : ℕ) (left : Option (List ℕ))
    → answered ≡ suc count
    → Transcript SeatedAnswer (Ok answered) most_reads (Some requests) left (Some []) (Some (stored_replies count)) (seated_view store old) (seated_view store new)
    → Fills requests store old new
fills_by requests store old new count answered left all session = record {
  count = count;
  left = left;
  session = subst (λ (n : ℕ). Transcript SeatedAnswer (Ok n) most_reads (Some requests) left (Some []) (Some (stored_replies count)) (seated_view store old) (seated_view store new)) all session;
}

-- what a session that does not fill a store shows of itself: the pass stays at its store
pub not_fills_by : (error : FillError) (result : Result ℕ FrontError) (requests replies : List ℕ) (store : StoreView) (old : Seen) (a b c d : Option (List ℕ)) (s t : SeatedView)
    → a ≡ Some requests → c ≡ Some [] → d ≡ Some replies → s ≡ seated_view store old → IsNotFilled result replies error
    → Transcript SeatedAnswer result most_reads a b c d s t → NotFills requests store old error
not_fills_by error result requests replies store old a b c d s t from none to begun why session =
    let stays = served_keeps SeatedAnswer StaysSeated seated_same seated_then seated_answer result most_reads a b c d s t session in
    let done : t ≡ seated_view store t.seen = ap (λ (x : StoreView). seated_view x t.seen) (stays.0 ∙ ap (λ (x : SeatedView). x.store) begun) in
    record {
      result = result;
      left = b;
      replies = replies;
      new = t.seen;
      session = session_by result requests replies store old t.seen a b c d s t from none to begun done session;
      why = why;
    }

-- what a session did before a read failed, it may have done before memory ran out
out_of_memory : (turns : ℕ) (a b c d : Option (List ℕ)) (s t : SeatedView)
    → Transcript SeatedAnswer (Err ReadFault) turns a b c d s t → Transcript SeatedAnswer (Err Memory) turns a b c d s t
out_of_memory turns a b c d s t session = record {
  read = session.read;
  written = session.written;
  terms = session.terms;
  consumes = session.consumes;
  appends = session.appends;
  session = record {
    payloads = session.session.payloads;
    texts = session.session.texts;
    rest = session.session.rest;
    serves = session.session.serves;
    ends = tt;
    writes = session.session.writes;
  };
  few_read = session.few_read;
  used = tt;
  ended = tt;
}

-- a session that failed fills no store
pub failed_by : (fault : FrontError) (requests replies : List ℕ) (store : StoreView) (old : Seen) (a b c d : Option (List ℕ)) (s t : SeatedView)
    → a ≡ Some requests → c ≡ Some [] → d ≡ Some replies → s ≡ seated_view store old
    → Transcript SeatedAnswer (Err fault) most_reads a b c d s t → NotFills requests store old (Front (in_memory fault))
failed_by ReadFault requests replies store old a b c d s t from none to begun session =
    not_fills_by (Front Memory) (Err Memory) requests replies store old a b c d s t from none to begun refl (out_of_memory most_reads a b c d s t session)
failed_by WriteFault requests replies store old a b c d s t from none to begun session =
    not_fills_by (Front Memory) (Err WriteFault) requests replies store old a b c d s t from none to begun refl session
failed_by BadLength requests replies store old a b c d s t from none to begun session =
    not_fills_by (Front BadLength) (Err BadLength) requests replies store old a b c d s t from none to begun refl session
failed_by Truncated requests replies store old a b c d s t from none to begun session =
    not_fills_by (Front Truncated) (Err Truncated) requests replies store old a b c d s t from none to begun refl session
failed_by TurnsUsed requests replies store old a b c d s t from none to begun session =
    not_fills_by (Front TurnsUsed) (Err TurnsUsed) requests replies store old a b c d s t from none to begun refl session
failed_by Memory requests replies store old a b c d s t from none to begun session =
    not_fills_by (Front Memory) (Err Memory) requests replies store old a b c d s t from none to begun refl session

-- ---- replies that tell of bundles that were stored

-- one more reply follows if more bundles were stored
one_more : (n more : ℕ) → (rest : List ℕ) × (stored_replies (suc (n + more)) ≡ stored_replies n ++ (reply_frames Stored ++ rest))
one_more n zero =
    let none_more : suc (n + 0) ≡ suc n = omega arith in
    ([], ap stored_replies none_more ∙ ap (λ (xs : List ℕ). stored_replies n ++ xs) (sym (append-nil (reply_frames Stored))))
one_more n (suc more) =
    let (rest, same) = one_more n more in
    let before = reply_frames Stored ++ rest in
    let moved : suc (n + suc more) ≡ suc (suc (n + more)) = omega arith in (
      rest ++ reply_frames Stored,
      ap stored_replies moved ∙ (ap (λ (xs : List ℕ). xs ++ reply_frames Stored) same
          ∙ (append_assoc (stored_replies n) before (reply_frames Stored)
          ∙ ap (λ (xs : List ℕ). stored_replies n ++ xs) (append_assoc (reply_frames Stored) rest (reply_frames Stored)))),
    )

-- if all are told of, one reply stands after fewer
pub next_stored : (n count : ℕ) (left : List ℕ) → n < count → stored_replies count ≡ stored_replies n ++ left
    → (rest : List ℕ) × (left ≡ reply_frames Stored ++ rest)
next_stored n count left less same =
    let (rest, more) = one_more n (count - suc n) in
    let all : suc (n + (count - suc n)) ≡ count = omega (arith, less) in
    (rest, append_cancel_left (stored_replies n) left (reply_frames Stored ++ rest) (sym same ∙ (ap stored_replies (sym all) ∙ more)))

-- the first reply is to the request for version 2
pub version_first : (count : ℕ) → (rest : List ℕ) × (stored_replies count ≡ version_frame Two ++ rest)
version_first zero = ([], sym (append-nil (version_frame Two)))
version_first (suc count) =
    let (rest, same) = version_first count in
    (rest ++ reply_frames Stored, ap (λ (xs : List ℕ). xs ++ reply_frames Stored) same ∙ append_assoc (version_frame Two) rest (reply_frames Stored))
