-- Laws of what is told of dumps.
use Rattle.std.specs.Prelude.{◌≡◌, ◌≢◌, ◌↔◌, ◌⊎◌, ℕ, ◌+◌, ◌<◌, ◌≤◌, List, [], length, slice_index_or, None}
use Rattle.std.specs.List.{concat}
use Rattle.sha2.specs.Sha256.{sha256}
use Rattle.spiffe_doc.specs.Authority.{BundleValue}
use Rattle.map_core.specs.Name.{Name}
use Rattle.map_core.specs.Laws.{Ascends}
use Rattle.map_core.specs.PlainMap.{PlainMap, bundles}
use Rattle.frame_front.specs.Dump.{Domains, IsDump, AreValid, dump_of}
use Rattle.dump_views.specs.Changes.{Change, AreChanges}
use Rattle.dump_views.specs.ChangeLines.{bundle_words, lines_of}
use Rattle.dump_views.specs.Digest.{digest_line_of}
use Rattle.dump_views.specs.Pem.{cut}

-- The pieces of a text joined are the text; each but the last has 64 characters, and the last has 1 to 64.
pub record PiecesAreWhole (text : List ℕ) : Type 0 where
  pub joined : concat (cut text) ≡ text
  pub whole : (i : ℕ) → i + 1 < length (cut text) → length (slice_index_or (cut text) i []) ≡ 64
  pub last : (i : ℕ) → i < length (cut text) → (0 < length (slice_index_or (cut text) i [])) × (length (slice_index_or (cut text) i []) ≤ 64)

-- Nothing is written of the changes if and only if the old domains and the new ones are the same.
abbrev pub NothingIsSame : Type 0
NothingIsSame = (old new : Domains) (changes : List (Name × Change)) → Ascends None old → Ascends None new → AreChanges old new changes
    → (lines_of changes ≡ []) ↔ (old ≡ new)

-- There is one list of changes.
abbrev pub ChangesAreOne : Type 0
ChangesAreOne = (old new : Domains) (changes others : List (Name × Change)) → AreChanges old new changes → AreChanges old new others → changes ≡ others

-- Nothing is said of two bundles if and only if they are the same.
abbrev pub NoWordsAreSame : Type 0
NoWordsAreSame = (old new : BundleValue) → (bundle_words old new ≡ []) ↔ (old ≡ new)

-- two texts that differ and have one digest
abbrev pub IsCollision : List ℕ → List ℕ → Type 0
IsCollision a b = (a ≢ b) × (sha256 a ≡ sha256 b)

-- If two dumps have equal digests, they hold the same domains, or they are a collision.
abbrev pub DigestTells : Type 0
DigestTells = (a b : List ℕ) (items others : Domains) → IsDump a items → IsDump b others → digest_line_of a ≡ digest_line_of b
    → (items ≡ others) ⊎ IsCollision a b

-- Two maps of the same bundles have dumps of equal digests; and if they have, the bundles are the same, or the dumps are a collision.
pub record DigestOfMaps (m n : PlainMap) : Type 0 where
  pub same : bundles m ≡ bundles n → digest_line_of (dump_of m) ≡ digest_line_of (dump_of n)
  pub tells : AreValid (bundles m) → AreValid (bundles n) → digest_line_of (dump_of m) ≡ digest_line_of (dump_of n)
      → (bundles m ≡ bundles n) ⊎ IsCollision (dump_of m) (dump_of n)
