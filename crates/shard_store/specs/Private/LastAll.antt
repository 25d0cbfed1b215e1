-- What a pass remembers of its last fetch-all.
use Rattle.std.specs.Prelude.{◌≡◌, ℕ, List, ◌++◌, Option, Some, IfSome}
use Rattle.spiffe_doc.specs.Authority.{BundleValue}
use Rattle.map_core.specs.declared.op.Op.TheVariants.{FetchAll}
use Rattle.map_core.specs.declared.reply.Reply.TheVariants.{All}
use Rattle.map_core.specs.Name.{Name}
use Rattle.map_core.specs.Dump.{digest}
use Rattle.map_core.specs.PlainMap.{bundles}
use Rattle.shard_store.specs.declared.change.Change.{Change}
use Rattle.shard_store.specs.declared.change.Seen.{Seen}
use Rattle.shard_store.specs.declared.last_all.LastAll.{LastAll}
use Rattle.shard_store.specs.Changes.{after}
use Rattle.shard_store.specs.Promise.{IsReply}
use Rattle.shard_store.specs.Private.Readings.{AreRevisions}

-- the digest that is remembered, if any, is that of the bundles
abbrev pub IsDigestOf : List (Name × BundleValue) → Option (List ℕ) → Type 0
IsDigestOf all remembered = IfSome remembered (λ found. found ≡ digest all)

-- at some point of the log the shards, n of them, had these revisions, and these were all bundles; and the digest is theirs
abbrev pub WasAll : ℕ → List Change → LastAll → Type 0
WasAll n log last = (seen : List Change) × (new : List Change) × (log ≡ seen ++ new) × AreRevisions n seen last.revisions.items × (last.all ≡ bundles (after seen))
    × IsDigestOf last.all last.digest

-- so it was, if anything is remembered
abbrev pub IsLastAll : ℕ → List Change → Option LastAll → Type 0
IsLastAll n log remembered = (last : LastAll) → remembered ≡ Some last → WasAll n log last

-- these may be answered to a fetch-all, and may be remembered
abbrev pub IsFetched : ℕ → Seen → Seen → LastAll → Type 0
IsFetched n s t fetched = IsReply FetchAll s (All fetched.all) t × WasAll n t.log fetched
