use Rattle.spiffe_doc.proofs.RoundTrip.{text_of-injective}
use Rattle.spiffe_doc.specs.Text.{text_of}
use Rattle.std.proofs.Common.{ap}
use Rattle.spiffe_doc.proofs.laws.texts_tell_bundles_apart.Goals as goal

pub returns : goal.returns
returns c = λ a b is_a is_b. (text_of-injective a b is_a is_b, λ same. ap text_of same)
