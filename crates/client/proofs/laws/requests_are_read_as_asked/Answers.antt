use Rattle.client.proofs.RequestLaws.{read_asked, read_version}
use Rattle.client.proofs.laws.requests_are_read_as_asked.Goals as goal

pub returns : goal.returns
returns c = record { asked = read_asked; version = read_version }
