use Rattle.refresh.proofs.RefreshLaws.{set_keeps}
use Rattle.refresh.proofs.outcome.refresh_once.Goals as goal

pub returns-in-Ok-read_document-clause-kept : goal.returns-in-Ok-read_document-clause-kept
returns-in-Ok-read_document-clause-kept g c =
    set_keeps g.A.Ask.answers g.A.Ask.shows g.met.A.Ask.answers_plainly
    c.args.relationship.now c.args.now c.in-Ok-read_document.bundle c.args.ask.now c.set_bundle.result c.set_bundle.new.ask c.set_bundle.ensures
