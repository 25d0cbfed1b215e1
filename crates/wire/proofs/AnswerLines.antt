-- What a map answers has a line, and is told as a session tells it.
use Rattle.std.proofs.Common.{◌≡◌, ℕ, ◌<◌, ◌^◌, arith, List, [], ◌∷◌, ◌++◌, length, Option, Result, Ok, Err, Some, None, refl, sym, ap, subst, append-nil}
use Rattle.std.specs.Prelude.{codes, decimal, map}
use Rattle.std.specs.List.{AllByRecursion, flat_map}
use Rattle.std.proofs.lemmas.Fmt.{decimal_is_IsNumeral}
use Rattle.spiffe_doc.specs.Authority.{BundleValue}
use Rattle.spiffe_doc.specs.Bundle.{IsBundle}
use Rattle.spiffe_doc.specs.Text.{text_of}
use Rattle.map_core.specs.Name.{Name}
use Rattle.map_core.specs.Reply.{refusal_number}
use Rattle.map_core.specs.declared.reply.Reply.{Reply as Said}
use Rattle.map_core.specs.declared.reply.Reply.TheVariants as said
use Rattle.map_core.specs.declared.reply.MapRefusal.{MapRefusal}
use Rattle.map_core.specs.declared.reply.MapRefusal.TheVariants.{NoDomain, Stale, KidTaken, TooMany, TooLong, SequenceFull, NotExpected}
use Rattle.map_core.specs.declared.reply.AskError.{AskError}
use Rattle.map_core.specs.declared.reply.AskError.TheVariants as error
use Rattle.wire.specs.Frame.{frame}
use Rattle.wire.specs.declared.reply.Detail.{Detail}
use Rattle.wire.specs.declared.reply.Detail.TheVariants.{Nothing, Place, SequenceOf, Expected}
use Rattle.wire.specs.RequestForm.{IsOneLine, ◌then◌}
use Rattle.wire.specs.ReplyForm.{Reply, Appended, All, Refused, Moved, Held, Worn, IsLined, HasLine, HasPayload, SequenceFits, DetailFits, IsRefusal, kind_of, refusal_words, line_of, payload_of, Stored, Unchanged, Removed, Found, Same, Counts, Bundle, Speaks, Memory, Shut}
use Rattle.wire.specs.Decoding.{IsReplyLine}
use Rattle.wire.specs.Answers.{answer_frames, item_frame, detail_of, refusal_form, shard_number, error_form, reply_form, answer_form, bundles_of, bundle_form, answer_forms}
use Rattle.wire.specs.Laws.{IsAnswer, IsItem}
use Rattle.wire.proofs.Heads.{digits_are_line, expect_is_line}
use Rattle.wire.proofs.Lines.{both_lines}
use Rattle.wire.proofs.Texts.{found_is_lined, bundle_is_lined}

-- ---- lines of numbers

decimal_is_line : (n : ℕ) → n < 2 ^ 64 → IsOneLine (decimal n)
decimal_is_line n fits = digits_are_line (decimal n) (decimal_is_IsNumeral n fits).0.1

then_is_line : (word rest : List ℕ) → IsOneLine word → IsOneLine rest → IsOneLine (word then rest)
then_is_line word rest one two = both_lines word (32 ∷ rest) one two

pub appended_is_lined : (sequence : Option ℕ) → SequenceFits sequence → IsLined (Appended sequence)
appended_is_lined None fits = (tt, refl)
appended_is_lined (Some n) fits = (fits, then_is_line (codes "appended") (decimal n) refl (decimal_is_line n fits))

pub all_is_lined : (count : ℕ) → count < 2 ^ 64 → IsLined (All count)
all_is_lined count fits = (fits, then_is_line (codes "all") (decimal count) refl (decimal_is_line count fits))

-- ---- errors

pub worn_is_lined : (shard : ℕ) → shard < 2 ^ 32 → IsLined (Worn shard)
worn_is_lined shard low = (low, then_is_line (codes "worn") (decimal shard) refl (decimal_is_line shard (omega (arith, low))))

pub held_is_lined : (shard revision : ℕ) → shard < 2 ^ 32 → revision < 2 ^ 64 → IsLined (Held shard revision)
held_is_lined shard revision low fits =
    ((low, fits), then_is_line (codes "held") (decimal shard then decimal revision) refl (then_is_line (decimal shard) (decimal revision) (decimal_is_line shard (omega (arith, low))) (decimal_is_line revision fits)))

pub moved_is_lined : (shard first second : ℕ) → shard < 2 ^ 32 → first < 2 ^ 64 → second < 2 ^ 64 → IsLined (Moved shard first second)
moved_is_lined shard first second low one two = (
  (low, one, two),
  then_is_line (codes "moved") (decimal shard then decimal first then decimal second) refl
      (then_is_line (decimal shard) (decimal first then decimal second) (decimal_is_line shard (omega (arith, low)))
      (then_is_line (decimal first) (decimal second) (decimal_is_line first one) (decimal_is_line second two))),
)

-- ---- refusals

words_are_line : (number : ℕ) (detail : Detail) → number < 2 ^ 64 → DetailFits detail → IsOneLine (refusal_words number detail)
words_are_line number Nothing low fits = decimal_is_line number low
words_are_line number (Place place) low fits = then_is_line (decimal number) (decimal place) (decimal_is_line number low) (decimal_is_line place (omega (arith, fits)))
words_are_line number (SequenceOf sequence) low fits = then_is_line (decimal number) (decimal sequence) (decimal_is_line number low) (decimal_is_line sequence fits)
words_are_line number (Expected expect) low fits = then_is_line (decimal number) _ (decimal_is_line number low) (expect_is_line expect fits)

pub refused_is_lined : (number : ℕ) (detail : Detail) → number < 2 ^ 64 → IsRefusal number detail → IsLined (Refused number detail)
refused_is_lined number detail low is = (is, then_is_line (codes "refused") (refusal_words number detail) refl (words_are_line number detail low is.1))

pub refusal_is_lined : (refusal : MapRefusal) → DetailFits (detail_of refusal) → IsLined (refusal_form refusal)
unfolding kind_of
refusal_is_lined NoDomain fits = refused_is_lined 30 Nothing (omega arith) (refl, tt)
refusal_is_lined (Stale sequence) fits = refused_is_lined 31 (SequenceOf sequence) (omega arith) (refl, fits)
refusal_is_lined KidTaken fits = refused_is_lined 32 Nothing (omega arith) (refl, tt)
refusal_is_lined TooMany fits = refused_is_lined 33 Nothing (omega arith) (refl, tt)
refusal_is_lined TooLong fits = refused_is_lined 34 Nothing (omega arith) (refl, tt)
refusal_is_lined SequenceFull fits = refused_is_lined 35 Nothing (omega arith) (refl, tt)
refusal_is_lined (NotExpected found) fits = refused_is_lined 36 (Expected found) (omega arith) (refl, fits)

-- ---- what was found, and why it was refused, in parts

pub found_line : (bundle : BundleValue) (text : List ℕ) → IsBundle bundle → text ≡ text_of bundle → IsLined (Found text)
found_line bundle text valid is = subst (λ (t : List ℕ). IsLined (Found t)) (sym is) (found_is_lined bundle valid)

pub refusal_line : (refusal : MapRefusal) (number : ℕ) (detail : Detail) → number ≡ refusal_number refusal → detail ≡ detail_of refusal → DetailFits detail → IsLined (Refused number detail)
refusal_line refusal number detail n d fits =
    subst (λ (r : Reply). IsLined r) (sym (λ i. Refused (n i) (d i))) (refusal_is_lined refusal (subst DetailFits d fits))

-- ---- answers

shard_is_small : (shard : ℕ) → shard_number shard < 2 ^ 32
shard_is_small shard = omega arith

pub error_is_lined : (e : AskError) → IsAnswer (Err e) → IsLined (error_form e)
error_is_lined error.Memory is = (tt, refl)
error_is_lined (error.Worn shard) is = worn_is_lined (shard_number shard) (shard_is_small shard)
error_is_lined (error.Moved shard first second) is = moved_is_lined (shard_number shard) first second (shard_is_small shard) is.0 is.1
error_is_lined (error.Held shard revision) is = held_is_lined (shard_number shard) revision (shard_is_small shard) is
error_is_lined error.GateShut is = (tt, refl)

refused_fits : (refusal : MapRefusal) → IsAnswer (Ok (said.Refused refusal)) → DetailFits (detail_of refusal)
refused_fits NoDomain is = tt
refused_fits (Stale sequence) is = is
refused_fits KidTaken is = tt
refused_fits TooMany is = tt
refused_fits TooLong is = tt
refused_fits SequenceFull is = tt
refused_fits (NotExpected found) is = is

pub said_is_lined : (r : Said) → IsAnswer (Ok r) → IsLined (reply_form r)
said_is_lined said.Stored is = (tt, refl)
said_is_lined said.Unchanged is = (tt, refl)
said_is_lined said.Removed is = (tt, refl)
said_is_lined (said.Appended sequence) is = appended_is_lined sequence is
said_is_lined (said.Found bundle) is = found_is_lined bundle is
said_is_lined (said.All items) is = all_is_lined (length items) is.0
said_is_lined said.Same is = (tt, refl)
said_is_lined (said.Refused refusal) is = refusal_is_lined refusal (refused_fits refusal is)

pub answer_is_lined : (answer : Result Said AskError) → IsAnswer answer → IsLined (answer_form answer)
answer_is_lined (Ok r) is = said_is_lined r is
answer_is_lined (Err e) is = error_is_lined e is

-- what has a line has a payload
has_payload : (r : Reply) → HasLine r → HasPayload r
has_payload Stored has = has
has_payload Unchanged has = has
has_payload Removed has = has
has_payload (Appended sequence) has = has
has_payload (Found text) has = has
has_payload (All count) has = has
has_payload (Bundle name text) has = has.1
has_payload Same has = has
has_payload (Counts text) has = has
has_payload (Speaks version) has = has
has_payload (Refused number detail) has = has
has_payload (Moved shard first second) has = has
has_payload (Held shard revision) has = has
has_payload (Worn shard) has = has
has_payload Memory has = has
has_payload Shut has = has

pub lined_is_told : (r : Reply) → IsLined r → IsReplyLine (payload_of r) (line_of r)
lined_is_told r lined = (r, has_payload r lined.0, lined, refl, refl)

bundles_are_told : (items : List (Name × BundleValue)) → AllByRecursion IsItem items → AllByRecursion (λ r. IsReplyLine (payload_of r) (line_of r)) (map bundle_form items)
bundles_are_told [] all = tt
bundles_are_told (item ∷ items) all = (lined_is_told (bundle_form item) (bundle_is_lined item.0 item.1 all.0.0 all.0.1), bundles_are_told items all.1)

all_told : (answer : Result Said AskError) → IsAnswer answer → AllByRecursion (λ r. IsReplyLine (payload_of r) (line_of r)) (map bundle_form (bundles_of answer))
all_told (Ok said.Stored) is = tt
all_told (Ok said.Unchanged) is = tt
all_told (Ok said.Removed) is = tt
all_told (Ok (said.Appended sequence)) is = tt
all_told (Ok (said.Found bundle)) is = tt
all_told (Ok (said.All items)) is = bundles_are_told items is.1
all_told (Ok said.Same) is = tt
all_told (Ok (said.Refused refusal)) is = tt
all_told (Err e) is = tt

pub answers_have_lines : (answer : Result Said AskError) → IsAnswer answer → AllByRecursion (λ r. IsReplyLine (payload_of r) (line_of r)) (answer_forms answer)
answers_have_lines answer is = (lined_is_told (answer_form answer) (answer_is_lined answer is), all_told answer is)

-- ---- frames

one_frame : (payload : List ℕ) → frame payload ≡ frame payload ++ []
one_frame payload = sym (append-nil (frame payload))

items_are_frames : (items : List (Name × BundleValue)) → flat_map item_frame items ≡ flat_map (λ r. frame (payload_of r)) (map bundle_form items)
items_are_frames [] = refl
items_are_frames (item ∷ items) = ap (λ rest. item_frame item ++ rest) (items_are_frames items)

pub answers_are_frames : (answer : Result Said AskError) → answer_frames answer ≡ flat_map (λ r. frame (payload_of r)) (answer_forms answer)
answers_are_frames (Ok said.Stored) = one_frame _
answers_are_frames (Ok said.Unchanged) = one_frame _
answers_are_frames (Ok said.Removed) = one_frame _
answers_are_frames (Ok (said.Appended sequence)) = one_frame _
answers_are_frames (Ok (said.Found bundle)) = one_frame _
answers_are_frames (Ok (said.All items)) = ap (λ rest. frame (payload_of (All (length items))) ++ rest) (items_are_frames items)
answers_are_frames (Ok said.Same) = one_frame _
answers_are_frames (Ok (said.Refused NoDomain)) = one_frame _
answers_are_frames (Ok (said.Refused (Stale sequence))) = one_frame _
answers_are_frames (Ok (said.Refused KidTaken)) = one_frame _
answers_are_frames (Ok (said.Refused TooMany)) = one_frame _
answers_are_frames (Ok (said.Refused TooLong)) = one_frame _
answers_are_frames (Ok (said.Refused SequenceFull)) = one_frame _
answers_are_frames (Ok (said.Refused (NotExpected found))) = one_frame _
answers_are_frames (Err error.Memory) = one_frame _
answers_are_frames (Err (error.Worn shard)) = one_frame _
answers_are_frames (Err (error.Moved shard first second)) = one_frame _
answers_are_frames (Err (error.Held shard revision)) = one_frame _
answers_are_frames (Err error.GateShut) = one_frame _
