-- Which replies tell of a change, and the numbers of refusals.
use Rattle.std.specs.Prelude.{ℕ, Bool, true, false}
use Rattle.map_core.specs.declared.reply.Reply.{Reply}
use Rattle.map_core.specs.declared.reply.Reply.TheVariants.{Stored, Appended, Removed}
use Rattle.map_core.specs.declared.reply.MapRefusal.{MapRefusal}
use Rattle.map_core.specs.declared.reply.MapRefusal.TheVariants.{NoDomain, Stale, KidTaken, TooMany, TooLong, SequenceFull, NotExpected}
use Rattle.map_core.specs.declared.reply.AskError.{AskError}
use Rattle.map_core.specs.declared.reply.AskError.TheVariants.{Memory, Worn, Moved, Held, GateShut}

-- whether a reply says that the map was changed
abbrev pub is_change : Reply → Bool
is_change Stored = true
is_change (Appended s) = true
is_change Removed = true
is_change reply = false

abbrev pub refusal_number : MapRefusal → ℕ
refusal_number NoDomain = 30
refusal_number (Stale s) = 31
refusal_number KidTaken = 32
refusal_number TooMany = 33
refusal_number TooLong = 34
refusal_number SequenceFull = 35
refusal_number (NotExpected expect) = 36

abbrev pub error_number : AskError → ℕ
error_number Memory = 22
error_number (Worn shard) = 40
error_number (Moved shard first second) = 41
error_number (Held shard revision) = 42
error_number GateShut = 56
