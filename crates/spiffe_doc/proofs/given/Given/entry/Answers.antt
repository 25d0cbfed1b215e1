use Rattle.std.proofs.Common.{◌∙◌}
use Rattle.spiffe_doc.proofs.EntryTexts.{IsEntry-of, authority_in-is}
use Rattle.spiffe_doc.proofs.given.Given.entry.Goals as goal

pub new-requires : goal.new-requires
new-requires c = IsEntry-of _ _ _ c.requires.valid c.requires.text c.is_x509.ensures

pub returns : goal.returns
returns c = c.new.ensures ∙ authority_in-is _ _ c.requires.valid c.requires.text
