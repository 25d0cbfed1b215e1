-- The symbols of a base64 text, and where they can end.
use Rattle.std.specs.Prelude.{◌≡◌, ℕ, ◌+◌, ◌%◌, ◌==◌, ◌&&◌, ◌||◌, ◌≢◌, List, length, slice_index, Bool, true, nat_lt}
use Rattle.base64.specs.declared.engine.general_purpose.GeneralPurpose.{GeneralPurpose}

-- the six bits that a symbol stands for
abbrev pub bits_of : GeneralPurpose → ℕ → ℕ
bits_of engine x = slice_index engine.decode_table x

-- x is a symbol of the engine: that of its bits
unfoldable pub is_symbol : GeneralPurpose → ℕ → Bool
is_symbol engine x = nat_lt (bits_of engine x) 64 && (slice_index engine.encode_table (bits_of engine x) == x)

-- `A`, `Q`, `g` and `w`: the last four bits are zero, so it can be the second of two symbols that stand for one byte
abbrev pub is_end_of_one : ℕ → Bool
is_end_of_one x = x == 65 || x == 81 || x == 103 || x == 119

-- `A`, `E`, `I` and so on: the last two bits are zero, so it can be the third of three symbols that stand for two bytes
abbrev pub is_end_of_two : ℕ → Bool
is_end_of_two x = x == 65 || x == 69 || x == 73 || x == 77 || x == 81 || x == 85 || x == 89
    || x == 99 || x == 103 || x == 107 || x == 111 || x == 115 || x == 119
    || x == 48 || x == 52 || x == 56

-- symbols that end with a whole byte: the bits after it are zero
pub record EndsWhole (symbols : List ℕ) : Type 0 where
  pub none_alone : length symbols % 4 ≢ 1
  pub one : (last : ℕ) → last + 1 ≡ length symbols → length symbols % 4 ≡ 2 → is_end_of_one (slice_index symbols last) ≡ true
  pub two : (last : ℕ) → last + 1 ≡ length symbols → length symbols % 4 ≡ 3 → is_end_of_two (slice_index symbols last) ≡ true
