use Rattle.spiffe_doc.specs.Private.Equality.{ec_decides, rsa_decides, key_decides, authority_decides, bundle_decides}
use Rattle.spiffe_doc.proofs.laws.equality_is_of_all_parts.Goals as goal

pub returns-clause-ec_keys : goal.returns-clause-ec_keys
returns-clause-ec_keys c = λ a b. ec_decides a b

pub returns-clause-rsa_keys : goal.returns-clause-rsa_keys
returns-clause-rsa_keys c = λ a b. rsa_decides a b

pub returns-clause-keys : goal.returns-clause-keys
returns-clause-keys c = λ a b. key_decides a b

pub returns-clause-authorities : goal.returns-clause-authorities
returns-clause-authorities c = λ a b. authority_decides a b

pub returns-clause-bundles : goal.returns-clause-bundles
returns-clause-bundles c = λ a b. bundle_decides a b
