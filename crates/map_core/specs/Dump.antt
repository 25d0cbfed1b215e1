-- The dump of bundles, the frames in which a fetch-all is answered, and its digest.
use Rattle.std.specs.Prelude.{ℕ, List, ◌∷◌, ◌++◌, length}
use Rattle.std.specs.List.{flat_map}
use Rattle.std.specs.Int.{w32, w64, to_be_bytes}
use Rattle.sha2.specs.Sha256.{sha256}
use Rattle.spiffe_doc.specs.Authority.{BundleValue}
use Rattle.spiffe_doc.specs.Text.{text_of}
use Rattle.map_core.specs.Name.{Name}

-- a frame: the payload's length in four bytes, big-endian, and the payload
unfoldable pub frame : List ℕ → List ℕ
frame payload = to_be_bytes w32 (length payload) ++ payload

-- the length of a name in one byte, and the name
abbrev pub named : List ℕ → List ℕ
named name = length name ∷ name

-- the code a, and how many bundles there are
abbrev pub count_payload : ℕ → List ℕ
count_payload count = 97 ∷ to_be_bytes w64 count

-- the code i, the name of a trust domain, and the text of its bundle
abbrev pub bundle_payload : List ℕ → List ℕ → List ℕ
bundle_payload name text = 105 ∷ named name ++ text

-- a trust domain with its bundle, whose text is the canonical one
abbrev pub item_frame : Name × BundleValue → List ℕ
item_frame item = frame (bundle_payload item.0 (text_of item.1))

-- how many they are, and then each of them
abbrev pub dump : List (Name × BundleValue) → List ℕ
dump items = frame (count_payload (length items)) ++ flat_map item_frame items

-- the digest of bundles: the SHA-256 of their dump (FIPS 180-4)
unfoldable pub digest : List (Name × BundleValue) → List ℕ
digest items = sha256 (dump items)
