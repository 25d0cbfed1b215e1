-- The fields of payloads, as requests and replies spell them.
use Rattle.std.specs.Prelude.{ℕ, List, [], ◌∷◌, min, ◌-◌, ◌^◌, Option, Some, None}
use Rattle.std.specs.Int.{w32, w64, to_be_bytes}
use Rattle.map_core.specs.declared.op.Expect.{Expect}
use Rattle.map_core.specs.declared.op.Expect.TheVariants.{Absent, Sequence, Unnumbered}
use Rattle.wire.specs.declared.version.Version.{Version}
use Rattle.wire.specs.declared.version.Version.TheVariants.{One, Two, Three}

-- a place or a shard in 4 bytes; none needs more
unfoldable pub place_bytes : ℕ → List ℕ
place_bytes place = to_be_bytes w32 (min place (2 ^ 32 - 1))

-- 0, or 1 and the sequence
abbrev pub sequence_bytes : Option ℕ → List ℕ
sequence_bytes None = 0 ∷ []
sequence_bytes (Some sequence) = 1 ∷ to_be_bytes w64 sequence

-- 0, or 1 and the sequence, or 2
abbrev pub expect_bytes : Expect → List ℕ
expect_bytes Absent = 0 ∷ []
expect_bytes (Sequence sequence) = 1 ∷ to_be_bytes w64 sequence
expect_bytes Unnumbered = 2 ∷ []

abbrev pub version_number : Version → ℕ
version_number One = 1
version_number Two = 2
version_number Three = 3
