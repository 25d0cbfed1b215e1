-- How a request is read from the payload of a frame.
use Rattle.std.specs.Prelude.{ℕ, List, [], ◌∷◌, length, take, drop, nat_le, ◌==◌, ◌&&◌, if◌then◌else◌, Option, Some, None, option_map}
use Rattle.std.specs.Int.{w64, from_be_bytes}
use Rattle.map_core.specs.declared.op.Expect.{Expect}
use Rattle.map_core.specs.declared.op.Expect.TheVariants.{Absent, Sequence, Unnumbered}
use Rattle.wire.specs.declared.version.Version.{Version}
use Rattle.wire.specs.declared.version.Version.TheVariants.{One, Two, Three}
use Rattle.wire.specs.RequestForm.{Request, Set, SetIf, Append, Remove, Get, Fetch, FetchUnless, Stats, Speak}

infixl 10 ◌>>=◌
abbrev pub ◌>>=◌ : {A B : Type 0} → Option A → (A → Option B) → Option B
None >>= f = None
(Some x) >>= f = f x

-- a byte that says how many bytes the name has, these bytes, and what follows them
unfoldable pub split_named : List ℕ → Option (List ℕ × List ℕ)
split_named [] = None
split_named (size ∷ bytes) = if nat_le size (length bytes) then Some (take size bytes, drop size bytes) else None

-- nothing follows
abbrev pub at_end : {A : Type 0} → A → List ℕ → Option A
at_end value [] = Some value
at_end value (byte ∷ bytes) = None

unfoldable pub lone_named : List ℕ → Option (List ℕ)
lone_named bytes = do
  parts ← split_named bytes
  at_end parts.0 parts.1

-- an expectation, and what follows it: 0, or 1 and a sequence in 8 bytes, or 2
unfoldable pub split_expect : List ℕ → Option (Expect × List ℕ)
split_expect [] = None
split_expect (kind ∷ bytes) =
    if kind == 0 then Some (Absent, bytes)
    else if (kind == 1) && nat_le 8 (length bytes) then Some (Sequence (from_be_bytes w64 (take 8 bytes)), drop 8 bytes)
    else if kind == 2 then Some (Unnumbered, bytes)
    else None

-- 1, 2 or 3, and nothing after it
unfoldable pub version_in : List ℕ → Option Version
version_in [] = None
version_in (number ∷ bytes) =
    if number == 1 then at_end One bytes
    else if number == 2 then at_end Two bytes
    else if number == 3 then at_end Three bytes
    else None

-- a digest, and nothing after it
unfoldable pub digest_in : List ℕ → Option (List ℕ)
digest_in bytes = if length bytes == 32 then Some bytes else None

-- what is made of two parts
abbrev pub of_both : {A : Type 0} → (List ℕ → List ℕ → A) → List ℕ × List ℕ → A
of_both form parts = form parts.0 parts.1

unfoldable pub set_if_in : List ℕ → Option Request
set_if_in bytes = do
  parts ← split_named bytes
  expected ← split_expect parts.1
  Some (SetIf parts.0 expected.0 expected.1)

unfoldable pub request_by_letter : ℕ → List ℕ → Option Request
request_by_letter letter bytes =
    if letter == 83 then option_map (of_both Set) (split_named bytes)
    else if letter == 65 then option_map (of_both Append) (split_named bytes)
    else if letter == 82 then option_map Remove (lone_named bytes)
    else if letter == 71 then option_map Get (lone_named bytes)
    else if letter == 70 then at_end Fetch bytes
    else if letter == 85 then option_map FetchUnless (digest_in bytes)
    else if letter == 77 then at_end Stats bytes
    else if letter == 86 then option_map Speak (version_in bytes)
    else if letter == 67 then set_if_in bytes
    else None

-- the request of a payload
unfoldable pub read_payload : List ℕ → Option Request
read_payload [] = None
read_payload (letter ∷ bytes) = request_by_letter letter bytes
