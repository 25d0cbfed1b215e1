use Rattle.std.proofs.Common.{ap, sym, ◌∙◌}
use Rattle.spiffe_doc.specs.Bundle.{same_kid}
use Rattle.spiffe_doc.proofs.MatchedTexts.{is_kid_next-entry}
use Rattle.spiffe_doc.proofs.matching.has_kid_of.Goals as goal

pub returns-in-Jwt : goal.returns-in-Jwt
returns-in-Jwt c other valid same =
    let found = rw (same, c.as_str.ensures.value) at c.has_kid.ensures in
    found ∙ is_kid_next-entry other valid c.in-Jwt.kid c.in-Jwt.key ∙ ap (same_kid other) (sym c.in-Jwt.is)
