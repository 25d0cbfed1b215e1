use Rattle.std.proofs.Common.{◌≡◌, ◌+◌, ◌<◌, ◌^◌, ◌++◌, ℕ, List, length}
use Rattle.frame_front.specs.Dump.{Domains}
use Rattle.frame_front.specs.DumpDecoder.{HasTaken, kept_by}
use Rattle.commands.proofs.reading.take_piece.Given as goal

-- of all that came some domains are taken out, and given to the sink
abbrev pub invariant-loop-domain : goal.invariant-loop-domain
invariant-loop-domain g l =
    ((came : List ℕ) (items : Domains) → HasTaken l.fn.decoder came items → g.S.DumpSink.holds l.fn.sink came items → length came + length l.fn.piece < 2 ^ 64
    → (all : Domains) × HasTaken l.decoder (came ++ l.fn.piece) all × g.S.DumpSink.holds l.sink (came ++ l.fn.piece) all)
    × (g.S.DumpSink.kept l.sink ≡ g.S.DumpSink.kept l.fn.sink)

abbrev pub decreases-loop-domain : goal.decreases-loop-domain
decreases-loop-domain g l = kept_by l.decoder
