-- Lemmas on frames.
use Rattle.std.proofs.Common.{◌≡◌, ◌⊎◌, ℕ, ◌+◌, ◌<◌, ◌≤◌, List, [], ◌∷◌, ◌++◌, length, take, drop, get_or, refl, sym, ap, ◌∙◌, inl, inr, arith, append_assoc, length-append, length-drop, get_or-take}
use Rattle.std.proofs.lemmas.List.{append_cancel_left, length-take-le, take-append-drop, drop-drop, take_at}
use Rattle.std.proofs.lemmas.Nat.{be_bytes_4, from_be_bytes-to_be_bytes_4}
use Rattle.std.specs.Int.{w32, to_be_bytes}
use Rattle.std.specs.List.{AllByRecursion}
pub use Rattle.map_core.proofs.Dumps.{frame_in_parts}
use Rattle.wire.specs.Frame.{IsPayload, IsUnfinished, IsBadLength, HasFrames, frame, length_field, stream_of, most_payload}

-- a front of four bytes, what they say, and the rest
module _ (bytes : List ℕ) (n : ℕ) (long : 4 + n ≤ length bytes) where
  three_parts : (take 4 bytes ++ take n (drop 4 bytes)) ++ drop (4 + n) bytes ≡ bytes
  three_parts = append_assoc (take 4 bytes) (take n (drop 4 bytes)) (drop (4 + n) bytes)
      ∙ ap (λ rest. take 4 bytes ++ (take n (drop 4 bytes) ++ rest)) (sym (drop-drop n 4 bytes))
      ∙ ap (λ rest. take 4 bytes ++ rest) (take-append-drop n (drop 4 bytes))
      ∙ take-append-drop 4 bytes

  payload_length : length (take n (drop 4 bytes)) ≡ n
  payload_length = length-take-le n (drop 4 bytes) (omega (arith, length-drop 4 bytes))

  -- bytes whose first four spell n begin with the frame of the n bytes that follow
  frame_stands : ((i : ℕ) → get_or bytes i 0 < 256) → n ≡ length_field bytes
      → bytes ≡ frame (take n (drop 4 bytes)) ++ drop (4 + n) bytes
  unfolding frame length_field
  frame_stands fits spelled =
      let four : length (take 4 bytes) ≡ 4 = length-take-le 4 bytes (omega arith) in
      let small : (i : ℕ) → get_or (take 4 bytes) i 0 < 256 = λ i. grind (arith, get_or-take, fits i) in
      let field : to_be_bytes w32 n ≡ take 4 bytes = be_bytes_4 (take 4 bytes) n four small spelled in
      sym (ap (λ k. (to_be_bytes w32 k ++ take n (drop 4 bytes)) ++ drop (4 + n) bytes) payload_length
      ∙ ap (λ f. (f ++ take n (drop 4 bytes)) ++ drop (4 + n) bytes) field
      ∙ three_parts)

-- what is cut off such bytes is a payload, and they are its frame and the rest
pub frame_cut_off : (bytes payload rest : List ℕ) (n : ℕ) → ((i : ℕ) → get_or bytes i 0 < 256)
    → n ≡ length_field bytes → 0 < n → n ≤ most_payload → 4 + n ≤ length bytes
    → payload ≡ take n (drop 4 bytes) → rest ≡ drop (4 + n) bytes
    → IsPayload payload × (bytes ≡ frame payload ++ rest)
frame_cut_off bytes payload rest n fits spelled some few long is_payload is_rest =
    let lengths : length payload ≡ n = ap length is_payload ∙ payload_length bytes n long in
    ((omega arith, omega arith), frame_stands bytes n long fits spelled ∙ ap (λ p. frame p ++ drop (4 + n) bytes) (sym is_payload) ∙ ap (λ r. frame payload ++ r) (sym is_rest))

-- a frame spells its payload's length
pub length_field-frame : (p rest : List ℕ) → IsPayload p → length_field (frame p ++ rest) ≡ length p
unfolding frame length_field
length_field-frame p rest good = from_be_bytes-to_be_bytes_4 (length p) (omega arith)

pub drop_frame : (p rest : List ℕ) → drop 4 (frame p ++ rest) ≡ p ++ rest
unfolding frame
drop_frame p rest = refl

pub length-frame : (p rest : List ℕ) → length (frame p ++ rest) ≡ 4 + length (p ++ rest)
unfolding frame
length-frame p rest = grind arith

-- no frame begins another
pub frame_first : (p q x y : List ℕ) → IsPayload p → IsPayload q → frame p ++ x ≡ frame q ++ y → (p ≡ q) × (x ≡ y)
frame_first p q x y good_p good_q same =
    let lengths : length p ≡ length q = sym (length_field-frame p x good_p) ∙ ap length_field same ∙ length_field-frame q y good_q in
    let tails : p ++ x ≡ q ++ y = sym (drop_frame p x) ∙ ap (drop 4) same ∙ drop_frame q y in
    let payloads : p ≡ q = sym (take_at p x (length p) refl) ∙ ap (take (length p)) tails ∙ take_at q y (length p) (sym lengths) in
    (payloads, append_cancel_left p x y (tails ∙ ap (λ z. z ++ y) (sym payloads)))

-- if frames end, none stands
pub none_at_end : (p x rest : List ℕ) → IsPayload p → rest ≡ frame p ++ x → IsUnfinished rest ⊎ IsBadLength rest → ⊥
none_at_end p x rest good same (inl partial) =
    let spelled : length_field rest ≡ length p = ap length_field same ∙ length_field-frame p x good in
    let long : length rest ≡ 4 + length (p ++ x) = ap length same ∙ length-frame p x in
    let short : 4 ≤ length rest → length rest < 4 + length_field rest = partial.short in
    omega (arith, length-append p x, short (omega arith))
none_at_end p x rest good same (inr stop) =
    let spelled : length_field rest ≡ length p = ap length_field same ∙ length_field-frame p x good in
    stop.bad (omega arith, omega arith)

both_streams : (ps qs : List (List ℕ)) (r s : List ℕ) → stream_of ps r ≡ stream_of qs s
    → AllByRecursion IsPayload ps → AllByRecursion IsPayload qs
    → IsUnfinished r ⊎ IsBadLength r → IsUnfinished s ⊎ IsBadLength s → (ps ≡ qs) × (r ≡ s)
both_streams [] [] r s same each_p each_q end_r end_s = (refl, same)
both_streams [] (q ∷ qs) r s same each_p each_q end_r end_s =
    absurd (none_at_end q (stream_of qs s) r each_q.0 (same ∙ append_assoc (frame q) _ s) end_r)
both_streams (p ∷ ps) [] r s same each_p each_q end_r end_s =
    absurd (none_at_end p (stream_of ps r) s each_p.0 (sym same ∙ append_assoc (frame p) _ r) end_s)
both_streams (p ∷ ps) (q ∷ qs) r s same each_p each_q end_r end_s =
    let first = frame_first p q (stream_of ps r) (stream_of qs s) each_p.0 each_q.0 (sym (append_assoc (frame p) _ r) ∙ same ∙ append_assoc (frame q) _ s) in
    let others = both_streams ps qs r s first.1 each_p.1 each_q.1 end_r end_s in
    (cc, others.1)

-- a stream has one list of frames, and one rest
pub frames_unique : (stream : List ℕ) (ps qs : List (List ℕ)) (r s : List ℕ) → HasFrames stream ps r → HasFrames stream qs s → (ps ≡ qs) × (r ≡ s)
frames_unique stream ps qs r s a b = both_streams ps qs r s (sym a.whole ∙ b.whole) a.each b.each a.ends b.ends

pub longer_by_frame : (p rest : List ℕ) → 4 + length rest ≤ length (frame p ++ rest)
longer_by_frame p rest = omega (arith, length-frame p rest, length-append p rest)
