use Rattle.refresh.proofs.RefreshLaws.{only_stored_changes}
use Rattle.refresh.proofs.laws.only_stored_changes.Goals as goal

pub returns : goal.returns
returns g c = only_stored_changes g.A.Ask.answers g.A.Ask.shows g.met.A.Ask.answers_plainly
