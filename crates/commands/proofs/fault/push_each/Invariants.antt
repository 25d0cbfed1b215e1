use Rattle.std.proofs.Common.{◌≡◌, ◌≤◌, ◌+◌, ◌*◌, ◌++◌, length, drop}
use Rattle.commands.specs.Fault.{numbers_text}
use Rattle.commands.proofs.fault.push_each.Given as goal

-- what was written, and the text of what is left
abbrev pub invariant-loop-number : goal.invariant-loop-number
invariant-loop-number l =
    (l.line.items ++ numbers_text (drop l.number-index l.numbers) ≡ l.fn.line.items ++ numbers_text l.numbers)
    × (length l.line.items ≤ 9 + 21 * l.number-index)
