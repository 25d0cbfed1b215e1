use Rattle.dump_views.proofs.DigestLaws.{digest_tells}
use Rattle.dump_views.proofs.laws.digest_tells.Goals as goal

pub returns : goal.returns
returns c = digest_tells
