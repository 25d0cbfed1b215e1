-- What the command `migrate` writes: the requests that store a dump again.
use Rattle.std.specs.Prelude.{◌≡◌, ℕ, List, [], Option}
use Rattle.wire.specs.Frame.{stream_of}
use Rattle.frame_front.specs.Dump.{Domains, requests_for}
use Rattle.commands.specs.Reading.{IsRead}
use Rattle.commands.specs.declared.input.Extent.TheVariants.{Limited}

-- the requests that store these domains again, as one stream
abbrev pub migration_stream : Domains → List ℕ
migration_stream items = stream_of (requests_for items) []

abbrev pub MigrationOf : List ℕ → Option (List ℕ) → Option (List ℕ) → Type 0
MigrationOf stream left_old left_new = (items : Domains) × IsRead Limited items left_old left_new × (stream ≡ migration_stream items)
