use Rattle.frame_front.proofs.LiveTables.{calls_keep_table, calls_keep_plain_table, calls_are_session}
use Rattle.frame_front.proofs.laws.live_sessions_are_sessions.Goals as goal

pub returns-clause-table : goal.returns-clause-table
returns-clause-table g c = calls_keep_table g.A.Ask.answers

pub returns-clause-whole : goal.returns-clause-whole
returns-clause-whole g c = calls_are_session g.A.Ask.answers

pub returns-clause-plain : goal.returns-clause-plain
returns-clause-plain g c = λ reads_only. calls_keep_plain_table g.A.Ask.answers reads_only g.A.Ask.shows g.met.A.Ask.answers_plainly
