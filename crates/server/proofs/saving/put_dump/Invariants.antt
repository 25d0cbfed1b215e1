use Rattle.std.proofs.Common.{◌++◌, take, length}
use Rattle.std.specs.List.{flat_map}
use Rattle.wire.specs.ReplyForm.{All}
use Rattle.wire.specs.Answers.{item_frame, reply_frame}
use Rattle.server.proofs.saving.put_dump.Given as goal

-- the frames so far are written to the draft
abbrev pub invariant-loop-item : goal.invariant-loop-item
invariant-loop-item g l = g.K.Keeper.holds l.draft (reply_frame (All (length l.domains)) ++ flat_map item_frame (take l.item-index l.domains))
