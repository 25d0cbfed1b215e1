use Rattle.std.proofs.Common.{◌≡◌, ◌++◌, take}
use Rattle.doc_report.specs.Lines.{ignored_lines}
use Rattle.doc_report.proofs.lines.put_ignored_lines.Given as goal

abbrev pub invariant-loop-entry : goal.invariant-loop-entry
invariant-loop-entry l = l.out.items ≡ l.initial.out.items ++ ignored_lines l.name (take l.entry-index l.ignored.items)
