use Rattle.std.proofs.Common.{List, Result, Ok, sym, subst}
use Rattle.std.specs.Prelude.{ℕ, Option}
use Rattle.workers.specs.declared.ended.SessionFault.{SessionFault}
use Rattle.workers.specs.declared.session.Session.{Session}
use Rattle.workers.proofs.ServedLists.{ServedSoFar, served_more}
use Rattle.workers.proofs.sessions.serve_sessions.Goals as goal

pub loop-session-preserved : goal.loop-session-preserved
loop-session-preserved g c =
    let remaining = g.S.Reader.Read.remaining in
    let contents = g.S.Writer.Write.contents in
    let takes_back = g.S.Sessions.takes_back in
    let comes = g.S.Sessions.comes in
    subst (λ (ends : List (Result ℕ SessionFault)). ServedSoFar g.A.Ask.answers remaining contents takes_back comes ends (c.args.sessions.now, c.args.ask.now) (c.serve_session.new.sessions, c.serve_session.new.ask))
    (sym c.in_ok-push-in-Ok-Some.ensures.items)
    (served_more g.A.Ask.answers remaining contents takes_back comes c.loop-session.results.items c.end_of-end.result c.serve_session.result _ (c.loop-session.sessions, c.loop-session.ask) c.next.new.self
    (c.serve_session.new.sessions, c.serve_session.new.ask) c.in-Ok-Some.session c.loop-session.invariant
    (subst (λ (next : Option (Session g.row.S-Reader.Denot g.row.S-Writer.Denot)). comes c.loop-session.sessions (Ok next) c.next.new.self) c.in-Ok-Some.field-0-is c.in-Ok-Some.ensures.comes) c.serve_session.ensures.runs c.end_of-end.ensures)
