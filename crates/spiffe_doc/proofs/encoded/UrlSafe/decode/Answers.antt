use Rattle.std.proofs.Common.{refl, sym, ap, ◌∙◌}
use Rattle.base64.specs.Engines.{url_safe_no_pad}
use Rattle.base64.specs.GeneralPurpose.{decode_of}
use Rattle.spiffe_doc.proofs.EncodedLemmas.{decoded-is}
use Rattle.spiffe_doc.proofs.encoded.UrlSafe.decode.Goals as goal

pub returns-in-Ok : goal.returns-in-Ok
returns-in-Ok c =
    c.new.ensures
    ∙ decoded-is url_safe_no_pad _ _ c.in-Ok.bytes.items refl c.self.invariant.bytes (ap (decode_of url_safe_no_pad) (sym c.as_bytes.ensures.value) ∙ c.in-Ok.ensures.ok)
    ∙ c.self.view_is
