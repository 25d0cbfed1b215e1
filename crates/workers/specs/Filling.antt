-- A store that is filled before its workers begin.
use Rattle.std.specs.Prelude.{◌≡◌, ◌≢◌, ℕ, zero, suc, List, [], ◌++◌, Option, Some, Result, Ok, Err}
use Rattle.map_core.specs.declared.reply.Reply.TheVariants.{Stored}
use Rattle.wire.specs.Answers.{reply_frames, version_frame}
use Rattle.frame_front.specs.Transcript.{Transcript}
use Rattle.wire.specs.declared.error.FrontError.{FrontError}
use Rattle.wire.specs.declared.error.FrontError.TheVariants.{ReadFault, WriteFault, Memory}
use Rattle.wire.specs.declared.version.Version.TheVariants.{Two}
use Rattle.shard_store.specs.declared.change.Seen.{Seen}
use Rattle.shard_store.specs.Pass.{StoreView, SeatedView}
use Rattle.shard_store.specs.Seated.{SeatedAnswer}
use Rattle.workers.specs.declared.filling.FillError.{FillError}
use Rattle.workers.specs.declared.filling.FillError.TheVariants.{Front, NotStored}

-- the replies to the request for version 2 and to so many requests of which each stored a bundle
abbrev pub stored_replies : ℕ → List ℕ
stored_replies zero = version_frame Two
stored_replies (suc count) = stored_replies count ++ reply_frames Stored

abbrev pub seated_view : StoreView → Seen → SeatedView
seated_view store seen = record { store = store; seen = seen }

-- the most reads that the requests may take; each takes at least a byte of them
abbrev pub most_reads : ℕ
most_reads = 1000000000

-- A session over memory took all the requests: the first was the one for version 2, and each other one stored a bundle.
pub record Fills (requests : List ℕ) (store : StoreView) (old new : Seen) : Type 0 where
  pub count : ℕ
  pub left : Option (List ℕ)
  pub session : Transcript SeatedAnswer (Ok (suc count)) most_reads (Some requests) left (Some []) (Some (stored_replies count)) (seated_view store old) (seated_view store new)

-- what is told of an error: no read of memory fails, and a write to memory only if it runs out
abbrev pub in_memory : FrontError → FrontError
in_memory ReadFault = Memory
in_memory WriteFault = Memory
in_memory error = error

-- what a session's end and its replies say of a store that is not filled: the session failed, and not in a read; or it answered
-- nothing, or not so
abbrev pub IsNotFilled : Result ℕ FrontError → List ℕ → FillError → Type 0
IsNotFilled (Ok zero) replies error = error ≡ NotStored
IsNotFilled (Ok (suc count)) replies error = (replies ≢ stored_replies count) × (error ≡ NotStored)
IsNotFilled (Err ReadFault) replies error = ⊥
IsNotFilled (Err fault) replies error = error ≡ Front (in_memory fault)

-- A session over memory was given all the requests, and did not fill the store.
pub record NotFills (requests : List ℕ) (store : StoreView) (old : Seen) (error : FillError) : Type 0 where
  pub result : Result ℕ FrontError
  pub left : Option (List ℕ)
  pub replies : List ℕ
  pub new : Seen
  pub session : Transcript SeatedAnswer result most_reads (Some requests) left (Some []) (Some replies) (seated_view store old) (seated_view store new)
  pub why : IsNotFilled result replies error
