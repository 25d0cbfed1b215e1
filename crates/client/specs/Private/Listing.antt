-- The frames of all bundles, as a client reads them: one for each domain, in order of their names.
use Rattle.std.specs.Prelude.{◌≡◌, ◌≢◌, ℕ, List, ◌++◌, length, Option, None}
use Rattle.std.specs.List.{flat_map}
use Rattle.std.specs.Io.KnownBytes.{IsAtEnd}
use Rattle.wire.specs.Frame.{HasFrames, IsBadLength}
use Rattle.wire.specs.Answers.{item_frame}
use Rattle.frame_front.specs.Dump.{Domains, AreValid}
use Rattle.map_core.specs.Laws.{Ascends}
use Rattle.client.specs.declared.client_error.ClientError.{ClientError}
use Rattle.client.specs.declared.client_error.ClientError.TheVariants.{Memory, BadLength, BadReply, Truncated, ReadFault, WriteFault}

-- so many domains, each valid, in order of their names
abbrev pub IsListing : ℕ → Domains → Type 0
IsListing count items = AreValid items × Ascends None items × (length items ≡ count)

module _ (count : ℕ) where
  -- no so many are coded so
  abbrev pub NoListing : List ℕ → Type 0
  NoListing read = (items : Domains) → IsListing count items → flat_map item_frame items ≢ read

  -- What was read after the number if a client ends for this reason, and what its reader has left then.
  abbrev pub BreaksListing : ClientError → List ℕ → Option (List ℕ) → Type 0
  BreaksListing Truncated read left = NoListing read × IsAtEnd left
  BreaksListing ReadFault read left = NoListing read
  BreaksListing BadReply read left = (rest : List ℕ) → NoListing (read ++ rest)
  BreaksListing BadLength read left = (payloads : List (List ℕ)) × (rest : List ℕ) × HasFrames read payloads rest × IsBadLength rest
  BreaksListing Memory read left = Unit {0}
  BreaksListing WriteFault read left = ⊥
