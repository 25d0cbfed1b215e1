use Rattle.std.proofs.Common.{◌≡◌, ◌+◌, ◌++◌, drop}
use Rattle.race_demo.specs.Report.{numbers_text}
use Rattle.race_demo.proofs.report.push_numbers.Given as goal

-- what was written, and the text of what is left
abbrev pub invariant-loop-number : goal.invariant-loop-number
invariant-loop-number l =
    (l.text.items ++ numbers_text l.letter (drop l.number-index l.numbers) ≡ l.fn.text.items ++ numbers_text 97 l.numbers) × (l.letter ≡ 97 + l.number-index)
