use Rattle.std.proofs.Common.{◌≡◌, ℕ, ◌<◌, [], true, get_or}
use Rattle.dump_views.specs.Choice.{is_named, names_of}
use Rattle.dump_views.proofs.choice.first_missing.Given as goal

-- each name before the place is there
abbrev pub invariant-loop-place : goal.invariant-loop-place
invariant-loop-place l = (k : ℕ) → k < l.place → is_named (names_of l.domains) (get_or l.names k []) ≡ true
