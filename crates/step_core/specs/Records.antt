-- The records of a run, as operations on the plain map.
use Rattle.std.specs.Prelude.{ℕ, Bool, true, false, List, map, length, get_or, Option, Some, None, Result, Ok, Err}
use Rattle.std.specs.List.{range_with_len}
use Rattle.std.specs.FinMap as finite
use Rattle.map_core.specs.declared.op.Op.{Op}
use Rattle.map_core.specs.declared.op.Op.TheVariants.{FetchAll}
use Rattle.map_core.specs.declared.reply.Reply.{Reply}
use Rattle.map_core.specs.declared.reply.AskError.{AskError}
use Rattle.map_core.specs.PlainMap.{PlainMap, ask}
use Rattle.step_core.specs.declared.trace.OpRecord.{OpRecord}
use Rattle.step_core.specs.Linearization.{Operation, IsLinearization}

-- An operation that was answered took effect, and one that failed did not. One under way did if it has written.
abbrev pub took_effect_by : Option (Result Reply AskError) → Bool → Bool
took_effect_by (Some (Ok reply)) wrote = true
took_effect_by (Some (Err error)) wrote = false
took_effect_by None wrote = wrote

abbrev pub took_effect : OpRecord → Bool
took_effect r = took_effect_by r.reply r.wrote

-- the reply, if there is one and it is not an error
abbrev pub reply_of : Option (Result Reply AskError) → Option Reply
reply_of (Some (Ok reply)) = Some reply
reply_of (Some (Err error)) = None
reply_of None = None

-- the operation that this record tells of, under this number
abbrev pub operation : ℕ → OpRecord → Operation Op Reply
operation q r = record { id = q; op = r.op; invoked = r.first; responded = r.last; reply = reply_of r.reply; took_effect = took_effect r }

-- stands for a record that is not there
abbrev pub no_record : OpRecord
no_record = record { caller = 0; op = FetchAll; first = 0; last = None; reply = None; wrote = false }

-- the operations of these numbers, in this order
abbrev pub operations : List OpRecord → List ℕ → List (Operation Op Reply)
operations records numbers = map (λ q. operation q (get_or records q no_record)) numbers

abbrev pub all_operations : List OpRecord → List (Operation Op Reply)
all_operations records = operations records (range_with_len 0 (length records))

-- the plain map as a sequential specification
abbrev pub apply : PlainMap → Op → Reply × PlainMap
apply m op = let asked = ask m op in (asked.reply, asked.map)

-- The operations of these numbers, in this order, are a linearization of the run, over the plain map and from the empty one on.
abbrev pub IsLinearized : ℕ → List OpRecord → List ℕ → Type 0
IsLinearized events records order = IsLinearization apply finite.empty events (all_operations records) (operations records order)
