-- What a pass at its store answers.
use Rattle.std.specs.Prelude.{◌≡◌, Result}
use Rattle.map_core.specs.declared.op.Op.{Op}
use Rattle.map_core.specs.declared.reply.Reply.{Reply}
use Rattle.map_core.specs.declared.reply.AskError.{AskError}
use Rattle.shard_store.specs.Pass.{SeatedView}
use Rattle.shard_store.specs.Promise.{StoreAnswer}

-- the store's answer to the pass, at the same store
abbrev pub SeatedAnswer : SeatedView → Op → Result Reply AskError → SeatedView → Type 0
SeatedAnswer old op result new = (new.store ≡ old.store) × StoreAnswer old.store op old.seen result new.seen
