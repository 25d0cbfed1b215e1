use Rattle.std.proofs.Common.{ap, ◌∙◌}
use Rattle.base64.specs.Engines.{standard}
use Rattle.base64.specs.GeneralPurpose.{encode_of}
use Rattle.spiffe_doc.proofs.EncodedLemmas.{encoded_bytes-some}
use Rattle.spiffe_doc.proofs.PlainTexts.{standard_plain}
use Rattle.spiffe_doc.proofs.encoded.Standard.text.Goals as goal

pub returns-clause-value : goal.returns-clause-value
returns-clause-value c = (encoded_bytes-some standard _ _ c.self.invariant.bytes).1 ∙ ap (encode_of standard) c.self.view_is

pub returns-clause-plain : goal.returns-clause-plain
returns-clause-plain c =
    let bytes = encoded_bytes-some standard _ _ c.self.invariant.bytes in
    rw (bytes.1) (standard_plain _ bytes.0)
