-- What a pass counts of its own changes: how many bundles they have brought and taken, and how many marks.
use Rattle.std.specs.Prelude.{◌≡◌, ℕ, ◌+◌, ◌-◌, ◌^◌, min, Bool, true, false, List, [], ◌∷◌, ◌++◌, Result, Ok, Err}
use Rattle.std.specs.FinMap as finite
use Rattle.map_core.specs.declared.held.Standing.{Standing}
use Rattle.map_core.specs.declared.held.Standing.TheVariants.{Nothing, Bundle, Mark}
use Rattle.map_core.specs.declared.reply.Reply.{Reply}
use Rattle.map_core.specs.declared.reply.AskError.{AskError}
use Rattle.map_core.specs.Reply.{is_change}
use Rattle.map_core.specs.Table.{standing}
use Rattle.shard_store.specs.declared.change.Change.{Change}
use Rattle.shard_store.specs.declared.tally.Flow.{Flow}
use Rattle.shard_store.specs.declared.tally.Tally.{Tally}
use Rattle.shard_store.specs.Changes.{after}

abbrev pub is_bundle : Standing → Bool
is_bundle Nothing = false
is_bundle Bundle = true
is_bundle Mark = false

abbrev pub is_mark : Standing → Bool
is_mark Nothing = false
is_mark Bundle = false
is_mark Mark = true

-- a number goes no further than 64 bits hold
abbrev pub capped : ℕ → ℕ
capped n = min n (2 ^ 64 - 1)

-- the flow after a name where one was, or was not, and where one is now, or is not
abbrev pub moved : Bool → Bool → Flow → Flow
moved false true flow = record flow { come = capped (flow.come + 1) }
moved true false flow = record flow { gone = capped (flow.gone + 1) }
moved true true flow = flow
moved false false flow = flow

-- the tally after a change of a name: what stood there, and what stands there by it
abbrev pub tallied : Standing → Standing → Tally → Tally
tallied before by t = record { bundles = moved (is_bundle before) (is_bundle by) t.bundles; marks = moved (is_mark before) (is_mark by) t.marks }

-- nothing was changed yet
abbrev pub no_tally : Tally
no_tally = record { bundles = record { come = 0; gone = 0 }; marks = record { come = 0; gone = 0 } }

abbrev pub both_flows : Flow → Flow → Flow
both_flows f g = record { come = capped (f.come + g.come); gone = capped (f.gone + g.gone) }

-- the tally of two passes together
abbrev pub both_tallies : Tally → Tally → Tally
both_tallies t u = record { bundles = both_flows t.bundles u.bundles; marks = both_flows t.marks u.marks }

-- the last change of the log was counted: what stood under its name before it, and what stands there by it
abbrev pub CountsLast : List Change → Tally → Tally → Type 0
CountsLast log old new = (list : List Change) × (change : Change) × (log ≡ list ++ change ∷ [])
    × (new ≡ tallied (standing (finite.get (after list) change.name)) (standing change.now) old)

-- the last change of the log was counted if the answer tells of one, and nothing else was
abbrev pub CountsAnswer : Result Reply AskError → List Change → Tally → Tally → Type 0
CountsAnswer (Ok reply) log old new = (is_change reply ≡ true → CountsLast log old new) × (is_change reply ≡ false → new ≡ old)
CountsAnswer (Err e) log old new = new ≡ old
