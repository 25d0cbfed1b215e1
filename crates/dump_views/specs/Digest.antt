-- The digest of a dump (FIPS 180-4).
use Rattle.std.specs.Prelude.{ℕ, List, [], ◌∷◌, ◌++◌}
use Rattle.hex.specs.Hex.{encode_lower}
use Rattle.sha2.specs.Sha256.{sha256}
use Rattle.sha2.specs.Hashers.{Holds256}
use Rattle.dump_views.specs.declared.digest.PieceDigest.{PieceDigest}

-- the SHA-256 digest as lower-case hexadecimal digits, and a line feed
abbrev pub digest_line_of : List ℕ → List ℕ
digest_line_of dump = encode_lower (sha256 dump) ++ 10 ∷ []

-- these bytes came
abbrev pub HasHashed : PieceDigest → List ℕ → Type 0
HasHashed digest came = Holds256 digest.hasher came
