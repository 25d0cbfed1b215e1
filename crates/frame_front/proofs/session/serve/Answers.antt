use Rattle.wire.specs.Counted.{end_in}
use Rattle.frame_front.proofs.PlainLemmas.{Transcript-plain}
use Rattle.frame_front.proofs.session.serve.Goals as goal

pub returns-clause-plain : goal.returns-clause-plain
returns-clause-plain g c = λ m shown.
    Transcript-plain g.A.Ask.answers g.A.Ask.shows g.met.A.Ask.answers_plainly c.args.turns
    (g.R.Read.remaining (end_in c.args.reader.now)) (g.R.Read.remaining (end_in c.take_turns.new.reader))
    (g.W.Write.contents (end_in c.args.writer.now)) (g.W.Write.contents (end_in c.take_turns.new.writer))
    c.args.ask.now c.take_turns.new.ask m shown c.take_turns.result c.take_turns.ensures.transcript
