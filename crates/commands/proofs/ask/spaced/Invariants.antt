use Rattle.std.proofs.Common.{◌≡◌, map, take}
use Rattle.commands.specs.Ask.{spaced}
use Rattle.commands.proofs.ask.spaced.Given as goal

-- the words before the place
abbrev pub invariant-loop-place : goal.invariant-loop-place
invariant-loop-place l = l.text.items ≡ spaced (take l.place (map (λ word. word.now) l.words))
