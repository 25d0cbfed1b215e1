-- Each stream of bytes has its frames.
use Rattle.std.proofs.Common.{◌≡◌, ◌⊎◌, ℕ, zero, suc, ◌+◌, ◌<◌, ◌≤◌, List, [], ◌∷◌, ◌++◌, length, take, drop, get_or, refl, sym, ap, ◌∙◌, inl, inr, arith, append_assoc, length-drop, get_or-drop, Bool, true, false}
use Rattle.std.specs.Prelude.{◌&&◌, nat_le, nat_lt, if◌then◌else◌}
use Rattle.std.proofs.lemmas.Bool.{cases_lt}
use Rattle.std.proofs.lemmas.Bool.Decides.{nat_tests}
use Rattle.wire.specs.Frame.{IsUnfinished, IsBadLength, HasFrames, frame, length_field, most_payload}
use Rattle.wire.proofs.FrameLemmas.{frame_cut_off}

-- whether a whole frame stands first
abbrev pub begins_with_frame : List ℕ → Bool
begins_with_frame bytes =
    nat_le 4 (length bytes) && (nat_lt 0 (length_field bytes) && (nat_le (length_field bytes) most_payload && nat_le (4 + length_field bytes) (length bytes)))

-- payloads, and the rest after their frames
pub record Frames : Type 0 where
  pub payloads : List (List ℕ)
  pub rest : List ℕ

-- at most so many frames from the start on
unfoldable pub first_frames : ℕ → List ℕ → Frames
first_frames zero bytes = record { payloads = []; rest = bytes }
first_frames (suc n) bytes =
    let size = length_field bytes in
    let others = first_frames n (drop (4 + size) bytes) in
    if begins_with_frame bytes then record { payloads = take size (drop 4 bytes) ∷ others.payloads; rest = others.rest } else record { payloads = []; rest = bytes }

-- the frames of a stream
unfoldable pub frames : List ℕ → Frames
frames bytes = first_frames (length bytes) bytes

stands_there : (bytes : List ℕ) → begins_with_frame bytes ≡ true → (4 + length_field bytes ≤ length bytes) × (0 < length_field bytes) × (length_field bytes ≤ most_payload)
stands_there bytes some = (grind (arith, nat_tests), grind (arith, nat_tests), grind (arith, nat_tests))

-- if no whole frame stands, the frames end
module _ (bytes : List ℕ) (none : begins_with_frame bytes ≡ false) where
  long_rest : 4 ≤ length bytes → 0 < length_field bytes → length_field bytes ≤ most_payload → length bytes < 4 + length_field bytes
  long_rest four some few = grind (arith, nat_tests)

  ends_long : 4 ≤ length bytes → IsUnfinished bytes ⊎ IsBadLength bytes
  ends_long four = elim (cases_lt 0 (length_field bytes)) [
    | inr empty ↦ inr (record { has_length = four; bad = λ good. absurd (omega (arith, good.0)) })
    | inl some ↦ elim (cases_lt most_payload (length_field bytes)) [
      | inl many ↦ inr (record { has_length = four; bad = λ good. absurd (omega (arith, good.1)) })
      | inr few ↦ inl (record { good = λ h. (some, few); short = λ h. long_rest four some few })
    ]
  ]

  ends_there : IsUnfinished bytes ⊎ IsBadLength bytes
  ends_there = elim (cases_lt (length bytes) 4) [
    | inl less ↦ inl (record { good = λ h. absurd (omega arith); short = λ h. absurd (omega arith) })
    | inr four ↦ ends_long four
  ]

-- a frame, and then those of the rest
one_more : (bytes : List ℕ) (others : Frames) (b : Bool) → begins_with_frame bytes ≡ b → ((i : ℕ) → get_or bytes i 0 < 256)
    → (b ≡ true → HasFrames (drop (4 + length_field bytes) bytes) others.payloads others.rest)
    → (let chosen : Frames = if b then record { payloads = take (length_field bytes) (drop 4 bytes) ∷ others.payloads; rest = others.rest } else record { payloads = []; rest = bytes } in
    HasFrames bytes chosen.payloads chosen.rest)
one_more bytes others false none fits more = record { whole = refl; each = tt; ends = ends_there bytes none }
one_more bytes others true some fits more =
    let stands = stands_there bytes some in
    let cut = frame_cut_off bytes (take (length_field bytes) (drop 4 bytes)) (drop (4 + length_field bytes) bytes) (length_field bytes) fits refl stands.1 stands.2 stands.0 refl refl in
    let rest = more refl in
    record {
      whole = cut.1 ∙ ap (λ r. frame (take (length_field bytes) (drop 4 bytes)) ++ r) rest.whole
          ∙ sym (append_assoc (frame (take (length_field bytes) (drop 4 bytes))) _ others.rest);
      each = (cut.0, rest.each);
      ends = rest.ends;
    }

has_first_frames : (n : ℕ) (bytes : List ℕ) → length bytes ≤ n → ((i : ℕ) → get_or bytes i 0 < 256)
    → HasFrames bytes (first_frames n bytes).payloads (first_frames n bytes).rest
unfolding first_frames
has_first_frames zero bytes few fits =
    record { whole = refl; each = tt; ends = inl (record { good = λ h. absurd (omega arith); short = λ h. absurd (omega arith) }) }
has_first_frames (suc n) bytes few fits =
    one_more bytes (first_frames n (drop (4 + length_field bytes) bytes)) (begins_with_frame bytes) refl fits
    (λ some. has_first_frames n (drop (4 + length_field bytes) bytes)
    (let stands = stands_there bytes some in omega (arith, stands.0, length-drop (4 + length_field bytes) bytes))
    (λ i. rw get_or-drop (fits (4 + length_field bytes + i))))

-- each stream of bytes has its frames
pub has_frames : (stream : List ℕ) → ((i : ℕ) → get_or stream i 0 < 256) → HasFrames stream (frames stream).payloads (frames stream).rest
unfolding frames
has_frames stream fits = has_first_frames (length stream) stream (omega arith) fits
