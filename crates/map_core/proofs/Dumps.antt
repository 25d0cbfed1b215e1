-- Lemmas on dumps.
use Rattle.std.proofs.Common.{◌≡◌, ℕ, ◌+◌, List, [], ◌∷◌, ◌++◌, length, ap, ◌∙◌, arith, append_assoc, length-append}
use Rattle.std.specs.Int.{w32, w64, to_be_bytes}
use Rattle.map_core.specs.Dump.{frame, count_payload}

-- a length, and then the payload in two parts, is a frame
pub frame_in_parts : (out front rest : List ℕ) (n : ℕ) → n ≡ length front + length rest
    → ((out ++ to_be_bytes w32 n) ++ front) ++ rest ≡ out ++ frame (front ++ rest)
unfolding frame
frame_in_parts out front rest n lengths =
    let whole : n ≡ length (front ++ rest) = omega (arith, length-append front rest) in
    append_assoc (out ++ to_be_bytes w32 n) front rest
    ∙ append_assoc out (to_be_bytes w32 n) (front ++ rest)
    ∙ ap (λ k. out ++ (to_be_bytes w32 k ++ (front ++ rest))) whole

-- the number of the domains, as it is put together
pub count_in_parts : (n : ℕ) (size digits : List ℕ) → size ≡ to_be_bytes w32 9 → digits ≡ to_be_bytes w64 n
    → (([] ++ size) ++ 97 ∷ []) ++ digits ≡ frame (count_payload n) ++ []
unfolding frame
count_in_parts n size digits is_size is_digits = grind arith
