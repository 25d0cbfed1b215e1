use Rattle.workers.proofs.ReadLaws.{reads_change_nothing, shown_as_before}
use Rattle.workers.proofs.laws.readers_change_nothing.Goals as goal

pub returns-clause-plain : goal.returns-clause-plain
returns-clause-plain g c = reads_change_nothing

pub returns-clause-shown : goal.returns-clause-shown
returns-clause-shown g c = shown_as_before g.A.Ask.answers g.A.Ask.shows g.met.A.Ask.answers_plainly
