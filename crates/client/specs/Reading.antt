-- Where the reading of a frame stops short.
use Rattle.std.specs.Prelude.{◌≡◌, ℕ, List, length, Option}
use Rattle.std.specs.Io.KnownBytes.{IsAtEnd}
use Rattle.wire.specs.Counted.{next_count}
use Rattle.wire.specs.Frame.{IsUnfinished, IsBadLength}
use Rattle.client.specs.declared.client_error.ClientError.{ClientError}
use Rattle.client.specs.declared.client_error.ClientError.TheVariants.{BadLength, Truncated, ReadFault}

-- The reader's faults are counted, and it has no others.
abbrev pub CountsFault : ClientError → ℕ → ℕ → Type 0
CountsFault ReadFault old new = new ≡ next_count old
CountsFault error old new = new ≡ old

-- Why no frame was read, what was read instead, and what the reader has left then.
abbrev pub NoFrame : ClientError → List ℕ → Option (List ℕ) → Type 0
NoFrame Truncated read left = IsUnfinished read × IsAtEnd left
NoFrame ReadFault read left = IsUnfinished read
NoFrame BadLength read left = IsBadLength read × (length read ≡ 4)
NoFrame error read left = ⊥
