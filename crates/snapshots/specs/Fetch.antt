-- One fetch-all of a client.
use Rattle.std.specs.Prelude.{◌≡◌, ◌⊎◌, ℕ, List, Option, Result, Ok, Err, None, Some}
use Rattle.map_core.specs.declared.op.Op.{Op}
use Rattle.map_core.specs.declared.op.Op.TheVariants.{FetchAll, FetchUnless}
use Rattle.map_core.specs.declared.reply.Reply.TheVariants.{All, Same}
use Rattle.map_core.specs.declared.reply.AskError.TheVariants as error
use Rattle.frame_front.specs.Dump.{Domains}
use Rattle.client.specs.Client.{ClientState, Exchange}
use Rattle.snapshots.specs.declared.fetching.FetchError.{FetchError}
use Rattle.snapshots.specs.declared.fetching.FetchError.TheVariants.{Refused, Ended}

-- a fetch-all, or one that knows a digest
abbrev pub fetch_op : Option (List ℕ) → Op
fetch_op None = FetchAll
fetch_op (Some known) = FetchUnless known

-- The request was written, and the reply read whole: these domains, or that they have the digest, or a refusal. Or the client has ended, since what was read
-- is no reply; or there was no memory to begin, and nothing is written or read.
abbrev pub Fetches : Option (List ℕ) → Result (Option Domains) FetchError → ClientState → ClientState → Type 0
Fetches known (Ok (Some items)) old new = (new.ended ≡ None) × Exchange (fetch_op known) (Ok (Ok (All items))) old.ends new.ends
Fetches known (Ok None) old new = (new.ended ≡ None) × Exchange (fetch_op known) (Ok (Ok Same)) old.ends new.ends
Fetches known (Err (Refused why)) old new = (new.ended ≡ None)
    × (Exchange (fetch_op known) (Ok (Err why)) old.ends new.ends ⊎ ((why ≡ error.Memory) × (new ≡ old)))
Fetches known (Err (Ended why)) old new = (new.ended ≡ Some why) × Exchange (fetch_op known) (Err why) old.ends new.ends
