-- An input, line by line.
use Rattle.std.proofs.Common.{◌≡◌, ℕ, ◌+◌, ◌-◌, ◌<◌, arith, Bool, true, false, List, [], ◌∷◌, ◌++◌, length, take, drop, Some, None, refl, sym, ap, subst, ◌∙◌, zero-add, take_all, length-drop}
use Rattle.std.specs.Prelude.{◌==◌, ◌||◌, if◌then◌else◌}
use Rattle.std.specs.List.{list_any}
use Rattle.memchr.specs.Find.{IsFirstByte, is_byte}
use Rattle.wire.specs.RequestForm.{IsOneLine}
use Rattle.wire.proofs.Lines.{no_line, line_at}
use Rattle.trace_lines.specs.Events.{lines_in, with_byte}

plain_parts : (byte : ℕ) (bytes : List ℕ) → IsOneLine (byte ∷ bytes) → ((byte == 10) ≡ false) × IsOneLine bytes
plain_parts byte bytes plain = by (byte == 10) (list_any (λ x. x == 10) bytes) plain
  where
    by : (b c : Bool) → (b || c) ≡ false → (b ≡ false) × (c ≡ false)
    by true c e = absurd (cc e)
    by false c e = (refl, e)

-- a line that a line feed ends
line_then : (line rest : List ℕ) → IsOneLine line → lines_in (line ++ 10 ∷ rest) ≡ line ∷ lines_in rest
unfolding lines_in
line_then [] rest plain = refl
line_then (byte ∷ line) rest plain =
    let parts = plain_parts byte line plain in
    ap (λ (b : Bool). if b then [] ∷ lines_in (line ++ 10 ∷ rest) else with_byte byte (lines_in (line ++ 10 ∷ rest))) parts.0 ∙ ap (with_byte byte) (line_then line rest parts.1)

-- the last line, which no line feed ends
pub last_line : (line : List ℕ) → IsOneLine line → 0 < length line → lines_in line ≡ line ∷ []
unfolding lines_in
last_line [] plain some = absurd (omega arith)
last_line (byte ∷ []) plain some =
    ap (λ (b : Bool). if b then [] ∷ lines_in [] else with_byte byte (lines_in [])) (plain_parts byte [] plain).0
last_line (byte ∷ next ∷ line) plain some =
    let parts = plain_parts byte (next ∷ line) plain in
    ap (λ (b : Bool). if b then [] ∷ lines_in (next ∷ line) else with_byte byte (lines_in (next ∷ line))) parts.0 ∙ ap (with_byte byte) (last_line (next ∷ line) parts.1 (omega arith))

pub no_lines : lines_in [] ≡ []
unfolding lines_in
no_lines = refl

-- ---- what a search tells

pub first_line : (bytes : List ℕ) (at : ℕ) → IsFirstByte (is_byte 10) bytes (Some at) → lines_in bytes ≡ take at bytes ∷ lines_in (take (length bytes - (at + 1)) (drop (at + 1) bytes))
first_line bytes at found =
    let cut : IsOneLine (take at bytes) × (bytes ≡ take at bytes ++ 10 ∷ drop (at + 1) bytes) × (at < length bytes) =
    subst (λ (n : ℕ). IsOneLine (take n bytes) × (bytes ≡ take n bytes ++ 10 ∷ drop (n + 1) bytes) × (n < length bytes)) (zero-add at)
    (line_at bytes 0 (omega arith) refl bytes refl at found) in
    let rest = drop (at + 1) bytes in
    ap lines_in cut.1 ∙ line_then (take at bytes) rest cut.0
    ∙ ap (λ r. take at bytes ∷ lines_in r) (sym (take_all (length bytes - (at + 1)) rest (omega (arith, length-drop (at + 1) bytes))))

pub only_line : (bytes : List ℕ) → IsFirstByte (is_byte 10) bytes None → 0 < length bytes → lines_in bytes ≡ bytes ∷ lines_in []
only_line bytes none some = last_line bytes (no_line bytes 0 (omega arith) refl bytes refl none) some ∙ ap (λ r. bytes ∷ r) (sym no_lines)
