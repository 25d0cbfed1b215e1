-- A request that is written is read as its operation.
use Rattle.std.proofs.Common.{◌≡◌, ℕ, List, [], ◌∷◌, ◌++◌, append-nil, arith, refl, sym, ap, subst, ◌∙◌, Ok, true, Option, Some, None, ◌≤◌}
use Rattle.std.specs.List.{concat}
use Rattle.std.proofs.lemmas.Bool.Decides.{nat_tests}
use Rattle.map_core.specs.declared.op.Op.{Op}
use Rattle.map_core.specs.declared.op.Op.TheVariants.{Set, SetIf, Append, Remove, Get, FetchAll, FetchUnless}
use Rattle.map_core.specs.PlainMap.{PlainMap, ask}
use Rattle.wire.specs.declared.version.Version.{Version}
use Rattle.wire.specs.declared.version.Version.TheVariants.{One, Two, Three}
use Rattle.wire.specs.declared.judge.Judged.TheVariants.{Ask, SetVersion}
use Rattle.wire.specs.Frame.{frame, stream_of}
use Rattle.wire.specs.RequestForm as form
use Rattle.wire.specs.RequestForm.{HasPayload}
use Rattle.wire.specs.Judge.{judged, request_of}
use Rattle.wire.specs.Answers.{reply_frames, version_frame}
use Rattle.wire.proofs.JudgeLemmas.{request_read}
use Rattle.wire.proofs.Readings.{set_asks, set_if_asks, append_asks, remove_asks, get_asks}
use Rattle.frame_front.specs.Terms.{for_all}
use Rattle.frame_front.specs.PlainSession.{text_for, state_for, answers_to, state_after}
use Rattle.wire.specs.Fields.{version_number}
use Rattle.client.specs.Client.{reply_bytes, spoken_bytes}
use Rattle.client.specs.Request.{is_written, IsValidOp, request_form, request_payload, request_payloads, request_bytes, speak_bytes, speak_payload, payloads_behind, version_for, least_of, least_version}

-- the request that says a valid operation has a payload
has_payload : (op : Op) → IsValidOp op → HasPayload (request_form op)
has_payload (Set d b) valid = omega (arith, valid.0.short)
has_payload (SetIf d expect b) valid = (omega (arith, valid.0.short), valid.1)
has_payload (Append d a) valid = omega (arith, valid.0.short)
has_payload (Remove d) valid = omega (arith, valid.short)
has_payload (Get d) valid = omega (arith, valid.short)
has_payload FetchAll valid = tt
has_payload (FetchUnless known) valid = valid

-- it asks the operation, in each version that can
asks : (version : Version) (op : Op) → is_written op ≡ true → IsValidOp op → least_version op ≤ version_number version → judged version (request_form op) ≡ Ok (Ask op)
unfolding judged
asks version (Set d b) written valid may = set_asks version d b valid.0 valid.1
asks version (SetIf d expect b) written valid may = set_if_asks version d expect b may valid.0 valid.2
asks version (Append d a) written valid may = append_asks version d a valid.0 valid.1 (grind (arith, nat_tests, written))
asks version (Remove d) written valid may = remove_asks version d valid
asks version (Get d) written valid may = get_asks version d valid
asks version FetchAll written valid may = refl
asks One (FetchUnless known) written valid may = absurd (omega (arith, may))
asks Two (FetchUnless known) written valid may = absurd (omega (arith, may))
asks Three (FetchUnless known) written valid may = refl

pub read_asked : (version : Version) (op : Op) → is_written op ≡ true → IsValidOp op → least_version op ≤ version_number version → request_of version (request_payload op) ≡ Ok (Ask op)
read_asked version op written valid may = request_read version (request_form op) (has_payload op valid) ∙ asks version op written valid may

pub read_version : (version wanted : Version) → request_of version (speak_payload wanted) ≡ Ok (SetVersion wanted)
unfolding judged
read_version version wanted = request_read version (form.Speak wanted) tt

-- ---- what a session answers

one_text : (t : List ℕ) → concat (t ∷ []) ≡ t
one_text t = append-nil t

one_frame : (p : List ℕ) → frame p ≡ stream_of (p ∷ []) []
one_frame p = sym (append-nil (frame p ++ []) ∙ append-nil (frame p))

-- a request alone, which is read as its operation
module _ (version : Version) (m : PlainMap) (op : Op) (p : List ℕ) (read : request_of version p ≡ Ok (Ask op)) where
  alone : (concat (answers_to (for_all version, m) (p ∷ [])) ≡ reply_frames (ask m op).reply) × ((state_after (for_all version, m) (p ∷ [])).1 ≡ (ask m op).map)
  alone = (one_text (text_for (for_all version, m) (request_of version p)) ∙ ap (text_for (for_all version, m)) read, ap (λ r. (state_for (for_all version, m) r).1) read)

-- behind the request for a version
module _ (version wanted : Version) (m : PlainMap) (op : Op) (p : List ℕ) (read : request_of wanted p ≡ Ok (Ask op)) where
  behind : (concat (answers_to (for_all version, m) (speak_payload wanted ∷ p ∷ [])) ≡ version_frame wanted ++ reply_frames (ask m op).reply)
      × ((state_after (for_all version, m) (speak_payload wanted ∷ p ∷ [])).1 ≡ (ask m op).map)
  behind =
      let rest = alone wanted m op p read in
      let set = read_version version wanted in (
        ap (λ r. text_for (for_all version, m) r ++ concat (answers_to (state_for (for_all version, m) r) (p ∷ []))) set ∙ ap (λ t. version_frame wanted ++ t) rest.0,
        ap (λ r. (state_after (state_for (for_all version, m) r) (p ∷ [])).1) set ∙ rest.1,
      )

two_frames : (p q : List ℕ) → frame p ++ frame q ≡ stream_of (p ∷ q ∷ []) []
two_frames p q = ap (λ f. frame p ++ f) (sym (append-nil (frame q))) ∙ sym (append-nil (frame p ++ (frame q ++ [])))

from_one : (version : Version) → 1 ≤ version_number version
from_one One = omega arith
from_one Two = omega arith
from_one Three = omega arith

-- an operation that is asked by one request, or behind the one for a version
module _ (version : Version) (m : PlainMap) (op : Op) (written : is_written op ≡ true) (valid : IsValidOp op) where
  abbrev p : List ℕ
  p = request_payload op

  by : (needed : Option Version) → version_for op ≡ needed
      → (speak_bytes needed ++ frame p ≡ stream_of (payloads_behind needed p) [])
      × (concat (answers_to (for_all version, m) (payloads_behind needed p)) ≡ spoken_bytes needed ++ reply_frames (ask m op).reply)
      × ((state_after (for_all version, m) (payloads_behind needed p)).1 ≡ (ask m op).map)
  by None is =
      let told = alone version m op p (read_asked version op written valid (subst (λ (o : Option Version). least_of o ≤ version_number version) (sym is) (from_one version))) in
      (one_frame p, told.0, told.1)
  by (Some wanted) is =
      let told = behind version wanted m op p (read_asked wanted op written valid (subst (λ (o : Option Version). least_of o ≤ version_number wanted) (sym is) (omega arith))) in
      (two_frames (speak_payload wanted) p, told.0, told.1)

pub session_answers : (version : Version) (m : PlainMap) (op : Op) → is_written op ≡ true → IsValidOp op
    → (request_bytes op ≡ stream_of (request_payloads op) [])
    × (concat (answers_to (for_all version, m) (request_payloads op)) ≡ reply_bytes op (Ok (ask m op).reply))
    × ((state_after (for_all version, m) (request_payloads op)).1 ≡ (ask m op).map)
session_answers version m op written valid = by version m op written valid (version_for op) refl
