use Rattle.spiffe_doc.proofs.NameLemmas.{trust_domain-IsName, IsName-trust_domain}
use Rattle.spiffe_doc.proofs.laws.names_are_read_as_they_stand.Goals as goal

pub returns : goal.returns
returns c = λ text name. (trust_domain-IsName text name, λ h. IsName-trust_domain text name h.0 h.1)
