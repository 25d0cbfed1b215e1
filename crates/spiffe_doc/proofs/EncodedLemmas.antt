-- A text stands for the bytes whose encoding it is, and for no others.
use Rattle.std.proofs.Common.{◌≡◌, ℕ, List, length, true, nat_lt, Option, Some, None, Ok, Err, refl, sym, ap, ◌∙◌, arith, inl, inr}
use Rattle.std.specs.List.{list_all}
use Rattle.std.specs.Cmp.Lexicographic.{bytes_decides}
use Rattle.std.proofs.lemmas.Bool.{cases_Bool, cases_lt, lt-ltb, ltb-true, and_parts}
use Rattle.std.proofs.lemmas.List.{get_or_past, get_or_default}
use Rattle.std.proofs.lemmas.List.Sums.{AllPass-from_list_all, list_all-from_AllPass}
use Rattle.base64.specs.declared.decode.DecodeError.{DecodeError}
use Rattle.base64.specs.declared.engine.general_purpose.GeneralPurpose.{GeneralPurpose}
use Rattle.base64.specs.GeneralPurpose.{encode_of, decode_of, decoded_of, IsBytes, IsConsistent}
use Rattle.base64.proofs.EngineFacts.{decode_of-encode_of}
use Rattle.spiffe_doc.specs.Judgement.{if_passes, is_encoding, encoded_bytes}
use Rattle.spiffe_doc.specs.Private.Encoded.{or_none, Encodes}

pub IsBytes-list_all : (bytes : List ℕ) → list_all (λ byte. nat_lt byte 256) bytes ≡ true → IsBytes bytes
IsBytes-list_all bytes h i = elim (cases_lt i (length bytes)) [
  | inl inside ↦ ltb-true _ _ (AllPass-from_list_all (λ byte. nat_lt byte 256) bytes h i 0 inside)
  | inr past ↦ rw (get_or_past bytes i 0 past) (omega arith)
]

pub list_all-IsBytes : (bytes : List ℕ) → IsBytes bytes → list_all (λ byte. nat_lt byte 256) bytes ≡ true
list_all-IsBytes bytes h = list_all-from_AllPass (λ byte. nat_lt byte 256) bytes (λ k d inside. rw (get_or_default bytes k d 0 inside) (lt-ltb _ _ (h k)))

pub encoded_bytes-ok : (e : GeneralPurpose) (text bytes : List ℕ) → decode_of e text ≡ Ok bytes → IsBytes bytes → text ≡ encode_of e bytes → encoded_bytes e text ≡ Some bytes
unfolding encoded_bytes decoded_of
encoded_bytes-ok e text bytes ok are same = rw (ok, list_all-IsBytes bytes are, (bytes_decides text (encode_of e bytes)).1 same) refl

pub encoded_bytes-err : (e : GeneralPurpose) (text : List ℕ) (d : DecodeError) → decode_of e text ≡ Err d → encoded_bytes e text ≡ None
unfolding encoded_bytes decoded_of
encoded_bytes-err e text d err = rw err refl

-- no text besides the encoding of the bytes stands for them
pub encoded_bytes-some : (e : GeneralPurpose) (text bytes : List ℕ) → encoded_bytes e text ≡ Some bytes → IsBytes bytes × (text ≡ encode_of e bytes)
unfolding encoded_bytes
encoded_bytes-some e text bytes h = go (decoded_of e text) h
  where
    go : (o : Option (List ℕ)) → if_passes (is_encoding e text) o ≡ Some bytes → IsBytes bytes × (text ≡ encode_of e bytes)
    go None h = cc h
    go (Some b) h = elim (cases_Bool (is_encoding e text b)) [
      | inl passes ↦
          let same : b ≡ bytes = cc (rw passes at h) in
          let parts = and_parts _ _ (rw same at passes) in
          (IsBytes-list_all bytes parts.0, (bytes_decides text (encode_of e bytes)).0 parts.1)
      | inr fails ↦ cc (rw fails at h)
    ]

-- the encoding of bytes stands for them
pub encoded_bytes-encode_of : (e : GeneralPurpose) (bytes : List ℕ) → IsConsistent e → IsBytes bytes → encoded_bytes e (encode_of e bytes) ≡ Some bytes
encoded_bytes-encode_of e bytes consistent are = encoded_bytes-ok e _ bytes (decode_of-encode_of e bytes consistent are) are refl

-- what the decoder gives of it
pub decoded-is : (e : GeneralPurpose) (text bytes out : List ℕ) → IsConsistent e → encoded_bytes e text ≡ Some bytes → decode_of e text ≡ Ok out → out ≡ bytes
decoded-is e text bytes out consistent h ok =
    let p = encoded_bytes-some e text bytes h in
    cc (sym ok ∙ ap (decode_of e) p.1 ∙ decode_of-encode_of e bytes consistent p.0)

pub Encodes-of : (e : GeneralPurpose) (text bytes : List ℕ) (len : ℕ) → encoded_bytes e text ≡ Some bytes → len ≡ length bytes → Encodes e text len
Encodes-of e text bytes len h long =
    let is = ap or_none h in
    record { bytes = h ∙ ap Some (sym is); len_is = long ∙ ap length (sym is) }
