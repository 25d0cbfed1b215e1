-- An outcome of the program: as a row of the table, and as what it leaves of a map.
use Rattle.std.specs.Prelude.{Option, Some, None}
use Rattle.std.specs.FinMap as finite
use Rattle.map_core.specs.declared.held.Holding.{Holding}
use Rattle.map_core.specs.declared.reply.Reply.{Reply}
use Rattle.map_core.specs.declared.table.RowEffect as program
use Rattle.map_core.specs.declared.table.RowEffect.TheVariants.{Kept, Put, Cleared}
use Rattle.map_core.specs.Name.{Name}
use Rattle.map_core.specs.Table.{Effect}
use Rattle.map_core.specs.PlainMap.{PlainMap}

-- the reply that it gives
abbrev pub reply_of : program.RowEffect → Reply
reply_of (Kept reply) = reply
reply_of (Put reply now) = reply
reply_of (Cleared reply) = reply

-- what it leaves at a name that held this
abbrev pub held_after : Option Holding → program.RowEffect → Option Holding
held_after held (Kept reply) = held
held_after held (Put reply now) = Some now
held_after held (Cleared reply) = None

-- the row of the table that it is, at a name that held this
abbrev pub outcome_at : Option Holding → program.RowEffect → Effect
outcome_at held outcome = record { reply = reply_of outcome; held = held_after held outcome }

-- what it leaves of a map, under the name of its operation
abbrev pub left_by : PlainMap → Option Name → program.RowEffect → PlainMap
left_by m (Some d) (Put reply now) = finite.insert m d now
left_by m (Some d) (Cleared reply) = finite.remove m d
left_by m name outcome = m
