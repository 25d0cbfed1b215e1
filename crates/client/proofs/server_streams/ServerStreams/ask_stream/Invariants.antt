use Rattle.std.proofs.Common.{◌≡◌, []}
use Rattle.wire.specs.Counted.{end_in, faults_in}
use Rattle.client.specs.Asking.{ends}
use Rattle.client.specs.Private.Steps.{StreamSoFar, faults_of}
use Rattle.client.proofs.server_streams.ServerStreams.ask_stream.Given as goal

-- what was asked, told and shown since the greeting; no request waits
abbrev pub invariant-loop-turn : goal.invariant-loop-turn
invariant-loop-turn g l =
    StreamSoFar (g.T.TextSource.gives l.fn.texts) l.fn.how
    (ends (g.L.Read.remaining (end_in l.fn.lines)) (g.R.Read.remaining (end_in l.initial.self.from)) (g.W.Write.contents (end_in l.initial.self.to)) (g.O.Write.contents (end_in l.fn.out)))
    (ends (g.L.Read.remaining (end_in l.lines)) (g.R.Read.remaining (end_in l.self.from)) (g.W.Write.contents (end_in l.self.to)) (g.O.Write.contents (end_in l.out))) l.encoder l.refused l._turn
    × (l.request.items ≡ []) × (faults_in l.lines ≡ faults_in l.fn.lines) × (faults_of l.self l.out ≡ faults_of l.fn.self l.fn.out)
