use Rattle.std.proofs.Common.{◌≡◌, ℕ, List, length, true}
use Rattle.wire.specs.Counted.{faults_in}
use Rattle.wire.specs.Output.{Tells, end_of}
use Rattle.refresh.specs.declared.outcome.Outcome.{Outcome}
use Rattle.refresh.specs.Each.{TellsFrom, all_are_good}
use Rattle.refresh.specs.Folder.{FetchesFile}
use Rattle.refresh.proofs.each.refresh_each.Given as goal

-- the relationships before this place are refreshed, and their lines are written, unless the writer failed
abbrev pub invariant-loop-place : goal.invariant-loop-place
invariant-loop-place g l =
    (outcomes : List Outcome)
    × TellsFrom FetchesFile (λ f. f.remark) g.T.Ask.answers g.T.Target.fault_in g.T.Target.empties_in g.T.Target.only_sends l.times (faults_in l.fn.lines)
    0 outcomes
    (record { source = l.fn.folder; target = l.fn.target; schedule = l.fn.schedule; lines = end_of g.L.Write.contents l.fn.lines })
    (record { source = l.folder; target = l.target; schedule = l.schedule; lines = end_of g.L.Write.contents l.lines })
    × (length outcomes ≡ l.place)
    × (l.all_went_well ≡ all_are_good outcomes)
    × (l.is_output ≡ true → faults_in l.lines ≡ faults_in l.fn.lines)
    × (length l.schedule.relationships ≡ length l.fn.schedule.relationships)
    × ((text : List ℕ) × Tells (end_of g.L.Write.contents l.fn.lines) (end_of g.L.Write.contents l.lines) text)
