use Rattle.std.proofs.Common.{refl, sym, ap, ◌∙◌}
use Rattle.base64.specs.Engines.{standard}
use Rattle.base64.specs.GeneralPurpose.{decode_of}
use Rattle.spiffe_doc.proofs.EncodedLemmas.{decoded-is}
use Rattle.spiffe_doc.proofs.encoded.Standard.decode.Goals as goal

pub returns-in-Ok : goal.returns-in-Ok
returns-in-Ok c =
    c.new.ensures
    ∙ decoded-is standard _ _ c.in-Ok.bytes.items refl c.self.invariant.bytes (ap (decode_of standard) (sym c.as_bytes.ensures.value) ∙ c.in-Ok.ensures.ok)
    ∙ c.self.view_is
