use Rattle.workers.proofs.ServedLists.{ServedSoFar}
use Rattle.workers.proofs.sessions.serve_sessions.Given as goal

abbrev pub invariant-loop-session : goal.invariant-loop-session
invariant-loop-session g l =
    ServedSoFar g.A.Ask.answers g.S.Reader.Read.remaining g.S.Writer.Write.contents g.S.Sessions.takes_back g.S.Sessions.comes
    l.results.items (l.fn.sessions, l.fn.ask) (l.sessions, l.ask)

abbrev pub decreases-loop-session : goal.decreases-loop-session
decreases-loop-session g l = g.S.Sessions.left l.sessions
