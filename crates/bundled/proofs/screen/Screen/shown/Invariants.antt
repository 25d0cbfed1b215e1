use Rattle.std.specs.List.{All}
use Rattle.bundled.specs.Screen.{IsShown}
use Rattle.bundled.proofs.screen.Screen.shown.Given as goal

abbrev pub invariant-loop-byte : goal.invariant-loop-byte
invariant-loop-byte g l = All IsShown l.text.items
