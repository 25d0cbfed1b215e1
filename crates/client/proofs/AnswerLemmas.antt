-- Lemmas on the first payload of an answer.
use Rattle.std.proofs.Common.{◌≡◌, ℕ, zero, suc, ◌<◌, ◌^◌, List, [], ◌∷◌, ◌++◌, length, get_or, map, refl, sym, ap, subst, ◌∙◌, inl, arith, append-nil, Option, Ok, Err, Some, None, true, false}
use Rattle.std.specs.Prelude.{MatchOption, option_map, if◌then◌else◌}
use Rattle.std.specs.List.{AllByRecursion, flat_map}
use Rattle.std.specs.Int.{w32, w64, to_be_bytes, from_be_bytes}
use Rattle.std.specs.Cmp.Lexicographic.{nat_list_eq_equiv}
use Rattle.std.proofs.lemmas.Nat.{be_bytes_8}
use Rattle.spiffe_doc.specs.Authority.{BundleValue}
use Rattle.spiffe_doc.specs.Bundle.{IsBundle}
use Rattle.spiffe_doc.specs.Text.{text_of}
use Rattle.spiffe_doc.proofs.RoundTrip.{document-text_of}
use Rattle.map_core.specs.declared.op.Op.{Op}
use Rattle.map_core.specs.declared.op.Expect.TheVariants.{Absent, Sequence, Unnumbered}
use Rattle.map_core.specs.declared.reply.Reply.TheVariants as map_reply
use Rattle.map_core.specs.declared.reply.MapRefusal.{MapRefusal}
use Rattle.map_core.specs.declared.reply.MapRefusal.TheVariants.{NoDomain, Stale, KidTaken, TooMany, TooLong, SequenceFull, NotExpected}
use Rattle.map_core.specs.declared.reply.AskError.TheVariants as error
use Rattle.frame_front.specs.Dump.{Domains}
use Rattle.wire.specs.Frame.{IsPayload, IsUnfinished, frame}
use Rattle.wire.specs.Answers.{answer_frames, code_of, answer_form, bundle_form, bundles_of, shard_number}
use Rattle.wire.proofs.FrameLemmas.{frame_first, none_at_end}
use Rattle.frame_front.proofs.ReplyLemmas.{not_both}
use Rattle.wire.specs.declared.reply.Detail.TheVariants.{Nothing, SequenceOf, Expected}
use Rattle.wire.specs.declared.reply.ReplyForm.{ReplyForm}
use Rattle.wire.specs.ReplyForm.{Reply, Stored, Unchanged, Removed, Appended, Found, All, Refused, Moved, Held, Worn, Memory, Same, Shut, HasPayload, kind_of, payload_of, reply as said}
use Rattle.wire.proofs.AnswerLines.{answers_are_frames}
use Rattle.client.specs.Answer.{Answer, MayAnswer, IsValidAnswer, is_code_for}
use Rattle.client.specs.Client.{BeginsNoReply, NoReply}
use Rattle.client.specs.Private.Answers.{first_of, refusal_of, error_of, found_of, if_canonical, Says, IsWholeAnswer, Begins}
use Rattle.client.specs.declared.answer.First.{First}
use Rattle.client.specs.declared.answer.First.TheVariants as first

-- ---- numbers, as 8 bytes hold them

abbrev low : ℕ → ℕ
low n = from_be_bytes w64 (to_be_bytes w64 n)

small_at : (xs : List ℕ) → AllByRecursion (λ (b : ℕ). b < 256) xs → (i : ℕ) → get_or xs i 0 < 256
small_at [] all i = omega arith
small_at (x ∷ xs) all zero = all.0
small_at (x ∷ xs) all (suc i) = small_at xs all.1 i

bytes_of : (n i : ℕ) → get_or (to_be_bytes w64 n) i 0 < 256
bytes_of n = small_at (to_be_bytes w64 n) (omega arith, (omega arith, (omega arith, (omega arith, (omega arith, (omega arith, (omega arith, (omega arith, tt))))))))

low_bytes : (n : ℕ) → to_be_bytes w64 n ≡ to_be_bytes w64 (low n)
low_bytes n = sym (be_bytes_8 (to_be_bytes w64 n) (low n) refl (bytes_of n) refl)

below : (bytes : List ℕ) → ((i : ℕ) → get_or bytes i 0 < 256) → from_be_bytes w64 bytes < 2 ^ 64
below bytes at = omega (arith, at 0, at 1, at 2, at 3, at 4, at 5, at 6, at 7)

low_fits : (n : ℕ) → low n < 2 ^ 64
low_fits n = below (to_be_bytes w64 n) (bytes_of n)

-- ---- the reply that the first payload of an answer is read as

-- what is read says the answer, or of all bundles how many there are
abbrev pub Tells : Answer → Option First → Type 0
Tells a None = ⊥
Tells a (Some (first.Reply r)) = Unit {0}
Tells a (Some (first.Error e)) = Unit {0}
Tells a (Some (first.Count count)) = (items : Domains) × (a ≡ Ok (map_reply.All items)) × (length items ≡ count)

abbrev IsReadAs : Answer → Reply → Type 0
IsReadAs a r = HasPayload r × (payload_of (answer_form a) ≡ payload_of r) × IsPayload (payload_of r) × Tells a (first_of r)

found_text : (bundle : BundleValue) → IsBundle bundle → found_of (text_of bundle) ≡ Some bundle
unfolding found_of
found_text bundle valid =
    ap (if_canonical (text_of bundle)) (document-text_of bundle valid)
    ∙ ap (λ b. if b then Some bundle else None) (nat_list_eq_equiv.refl (text_of bundle))

found_read : (bundle : BundleValue) → IsBundle bundle → IsReadAs (Ok (map_reply.Found bundle)) (Found (text_of bundle))
unfolding first_of
found_read bundle valid = (
  tt,
  refl,
  (omega arith, omega (arith, valid.short)),
  subst (λ (o : Option BundleValue). Tells (Ok (map_reply.Found bundle)) (option_map first.Reply (option_map map_reply.Found o))) (sym (found_text bundle valid)) tt,
)

refusal_read : (why : MapRefusal) → (r : Reply) × IsReadAs (Ok (map_reply.Refused why)) r
unfolding first_of refusal_of kind_of
refusal_read NoDomain = (Refused 30 Nothing, ((refl, tt), refl, (omega arith, omega arith), tt))
refusal_read (Stale n) = (Refused 31 (SequenceOf (low n)), ((refl, low_fits n), ap (λ bytes. 31 ∷ bytes) (low_bytes n), (omega arith, omega arith), tt))
refusal_read KidTaken = (Refused 32 Nothing, ((refl, tt), refl, (omega arith, omega arith), tt))
refusal_read TooMany = (Refused 33 Nothing, ((refl, tt), refl, (omega arith, omega arith), tt))
refusal_read TooLong = (Refused 34 Nothing, ((refl, tt), refl, (omega arith, omega arith), tt))
refusal_read SequenceFull = (Refused 35 Nothing, ((refl, tt), refl, (omega arith, omega arith), tt))
refusal_read (NotExpected Absent) = (Refused 36 (Expected Absent), ((refl, tt), refl, (omega arith, omega arith), tt))
refusal_read (NotExpected (Sequence n)) =
    (Refused 36 (Expected (Sequence (low n))), ((refl, low_fits n), ap (λ bytes. 36 ∷ 1 ∷ bytes) (low_bytes n), (omega arith, omega arith), tt))
refusal_read (NotExpected Unnumbered) = (Refused 36 (Expected Unnumbered), ((refl, tt), refl, (omega arith, omega arith), tt))

shard_fits : (shard : ℕ) → shard_number shard < 2 ^ 32
shard_fits shard = omega arith

is_read : (a : Answer) → IsValidAnswer a → (r : Reply) × IsReadAs a r
unfolding first_of error_of
is_read (Ok map_reply.Stored) valid = (Stored, (tt, refl, (omega arith, omega arith), tt))
is_read (Ok map_reply.Unchanged) valid = (Unchanged, (tt, refl, (omega arith, omega arith), tt))
is_read (Ok map_reply.Removed) valid = (Removed, (tt, refl, (omega arith, omega arith), tt))
is_read (Ok (map_reply.Appended None)) valid = (Appended None, (tt, refl, (omega arith, omega arith), tt))
is_read (Ok (map_reply.Appended (Some n))) valid =
    (Appended (Some (low n)), (low_fits n, ap (λ bytes. 112 ∷ 1 ∷ bytes) (low_bytes n), (omega arith, omega arith), tt))
is_read (Ok (map_reply.Found bundle)) valid = (Found (text_of bundle), found_read bundle valid)
is_read (Ok (map_reply.All items)) valid = (All (length items), (valid.2, refl, (omega arith, omega arith), (items, refl, refl)))
is_read (Ok map_reply.Same) valid = (Same, (tt, refl, (omega arith, omega arith), tt))
is_read (Ok (map_reply.Refused why)) valid = refusal_read why
is_read (Err error.Memory) valid = (Memory, (tt, refl, (omega arith, omega arith), tt))
is_read (Err (error.Worn shard)) valid = (Worn (shard_number shard), (shard_fits shard, refl, (omega arith, omega arith), tt))
is_read (Err (error.Moved shard n m)) valid = (
  Moved (shard_number shard) (low n) (low m),
  ((shard_fits shard, low_fits n, low_fits m), (λ i. 41 ∷ to_be_bytes w32 (shard_number shard) ++ (low_bytes n i ++ low_bytes m i)), (omega arith, omega arith), tt),
)
is_read (Err (error.Held shard n)) valid = (
  Held (shard_number shard) (low n),
  ((shard_fits shard, low_fits n), (λ i. 42 ∷ to_be_bytes w32 (shard_number shard) ++ low_bytes n i), (omega arith, omega arith), tt),
)
is_read (Err error.GateShut) valid = (Shut, (tt, refl, (omega arith, omega arith), tt))

-- the frames behind the first
abbrev behind : Answer → List ℕ
behind a = flat_map (λ (r : Reply). frame (payload_of r)) (map bundle_form (bundles_of a))

told : (a : Answer) (form : Option ReplyForm) (r : Reply) → MatchOption form ⊥ (λ f. said f ≡ r) → Tells a (first_of r) → MatchOption form ⊥ (λ f. Tells a (first_of (said f)))
told a None r is tells = is
told a (Some f) r is tells = subst (λ (q : Reply). Tells a (first_of q)) (sym is) tells

-- the frame of a whole answer
pub whole_frame : (a : Answer) (r : Reply) (payload : List ℕ) → payload ≡ payload_of r → answer_form a ≡ r → bundles_of a ≡ [] → frame payload ≡ answer_frames a
whole_frame a r payload is says none =
    ap frame (is ∙ ap payload_of (sym says)) ∙ sym (append-nil (frame (payload_of (answer_form a))))
    ∙ ap (λ (items : Domains). frame (payload_of (answer_form a)) ++ flat_map (λ (r : Reply). frame (payload_of r)) (map bundle_form items)) (sym none)
    ∙ sym (answers_are_frames a)

-- ---- the code of a reply

-- the code follows the length
code_first : (p rest : List ℕ) → IsPayload p → code_of (frame p ++ rest) ≡ get_or p 0 0
unfolding frame
code_first [] rest good = absurd (omega (arith, good.0))
code_first (x ∷ xs) rest good = refl

code_alone : (p : List ℕ) → IsPayload p → code_of (frame p) ≡ get_or p 0 0
code_alone p good = ap code_of (sym (append-nil (frame p))) ∙ code_first p [] good

-- a code that the operation may have
pub right_code : (op : Op) (payload : List ℕ) (a : Answer) → IsPayload payload → is_code_for op (get_or payload 0 0) ≡ true → frame payload ≡ answer_frames a → MayAnswer op a
right_code op payload a good right same = ap (is_code_for op) (ap code_of (sym same) ∙ code_alone payload good) ∙ right

-- another code
pub wrong_code : (op : Op) (payload : List ℕ) → IsPayload payload → is_code_for op (get_or payload 0 0) ≡ false → BeginsNoReply op answer_frames (frame payload)
wrong_code op payload good wrong rest a may valid same =
    not_both _ may (ap (is_code_for op) (ap code_of same ∙ code_first payload rest good) ∙ wrong)

-- A payload is read as a reply, if it is any reply's.
module _ (payload : List ℕ) (good : IsPayload payload) (form : Option ReplyForm) (only : (wanted : Reply) → HasPayload wanted → payload ≡ payload_of wanted → MatchOption form ⊥ (λ f. said f ≡ wanted)) where
  -- an answer that begins with it
  pub first_told : (a : Answer) (rest : List ℕ) → IsValidAnswer a → answer_frames a ≡ frame payload ++ rest → MatchOption form ⊥ (λ f. Tells a (first_of (said f)))
  first_told a rest valid same =
      let read = is_read a valid in
      let first = frame_first (payload_of read.0) payload (behind a) rest read.1.2 good (ap (λ p. frame p ++ behind a) (sym read.1.1) ∙ sym (answers_are_frames a) ∙ same) in
      told a form read.0 (only read.0 read.1.0 (sym first.0)) read.1.3

  pub none_told : (op : Op) → ((a : Answer) → MatchOption form ⊥ (λ f. Tells a (first_of (said f))) → ⊥) → BeginsNoReply op answer_frames (frame payload)
  none_told op none rest a may valid same = none a (first_told a rest valid same)

  -- the reply that it is read as says an answer, or how many bundles follow
  module _ (f : ReplyForm) (is_form : form ≡ Some f) (is : payload ≡ payload_of (said f)) (has : HasPayload (said f)) (op : Op) (right : is_code_for op (get_or payload 0 0) ≡ true) where
    whole : (a : Answer) → answer_form a ≡ said f → bundles_of a ≡ [] → IsValidAnswer a → IsWholeAnswer op payload a
    whole a says none valid =
        let same = whole_frame a (said f) payload is says none in
        record { may = right_code op payload a good right same; valid = valid; is = same }

    pub begins : (first : First) → first_of (said f) ≡ Some first → Says first (said f) → Begins op payload first
    begins (first.Reply r) read says = whole (Ok r) says.0 says.1 says.2
    begins (first.Error e) read says = whole (Err e) says refl tt
    begins (first.Count count) read says = record {
      may = ap (λ p. is_code_for op (get_or p 0 0)) (sym (is ∙ ap payload_of says)) ∙ right;
      is = is ∙ ap payload_of says;
      fits = subst HasPayload says has;
      only = λ a rest valid same. let told = rw is_form at (first_told a rest valid same) in rw read at told;
    }

-- bytes that are not a whole frame
pub unfinished_reply : (op : Op) (read : List ℕ) → IsUnfinished read → NoReply op answer_frames read
unfinished_reply op read cut a may valid same =
    let first = is_read a valid in
    none_at_end (payload_of first.0) (behind a) read first.1.2 (sym same ∙ answers_are_frames a ∙ ap (λ p. frame p ++ behind a) first.1.1) (inl cut)
