use Rattle.std.proofs.Common.{Err, ap}
use Rattle.commands.specs.Streams.{streams}
use Rattle.commands.proofs.Telling.{blames_a_session}
use Rattle.commands.proofs.run.run_over.Goals as goal

pub returns-in-Err-clause-runs : goal.returns-in-Err-clause-runs
returns-in-Err-clause-runs g c =
    let streams_of = streams g.R.Read.remaining g.W.Write.contents g.E.Write.contents in
    let old = streams_of c.args.reader.now c.args.out.now c.args.err.now in
    let new = streams_of c.serve_store.new.reader c.serve_store.new.out c.tell.new.err in
    record {
      ended = Err c.in-Err.error;
      left = c.in-Err.ensures.session.0;
      ends = (
        (c.tell.ensures.status, c.tell.ensures.tells),
        blames_a_session c.in-Err.error old new
            (λ e. c.in-Err.ensures.read_fault (ap (λ error. Err error) e)) (λ e. c.in-Err.ensures.write_fault (ap (λ error. Err error) e)),
      );
      reads = c.in-Err.ensures.reads;
      session = c.in-Err.ensures.session.1;
    }
