use Rattle.workers.proofs.ServedLists.{runs_over}
use Rattle.workers.proofs.sessions.serve_session.Goals as goal

pub returns-clause-runs : goal.returns-clause-runs
returns-clause-runs g c =
    let reader = c.new-reader.ensures in
    let writer = c.new-writer.ensures in
    let served = c.serve-ended.ensures in
    runs_over g.A.Ask.answers g.S.Reader.Read.remaining g.S.Writer.Write.contents g.S.Sessions.takes_back g.S.Sessions.comes c.args.session c.serve-ended.result
    (c.args.sessions.now, c.args.ask.now) (c.take_back.new.self, c.serve-ended.new.ask) c.new-reader.result c.serve-ended.new.reader c.new-writer.result c.serve-ended.new.writer
    reader.end reader.faults reader.reads writer.end writer.faults served.transcript served.reads served.read_fault served.write_fault c.take_back.ensures.taken
