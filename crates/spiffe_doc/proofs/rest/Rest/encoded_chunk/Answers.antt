use Rattle.std.proofs.Common.{ap, sym, ◌∙◌}
use Rattle.std.specs.Prelude.{option_copied}
use Rattle.base64.proofs.EngineFacts.{encoded_prefix}
use Rattle.base64.specs.GeneralPurpose.{encode_of}
use Rattle.spiffe_doc.specs.Private.Matching.{after}
use Rattle.spiffe_doc.proofs.MatchingLemmas.{after-none}
use Rattle.spiffe_doc.proofs.rest.Rest.encoded_chunk.Goals as goal

pub returns-in-Some : goal.returns-in-Some
returns-in-Some c =
    let written = rw c.unwrap-len.ensures at c.encode_slice.ensures.written in
    let made = encoded_prefix _ _ _ _ _ _ _ c.encode_slice.auto.output c.encode_slice.ensures.fits c.encode_slice.ensures.too_small c.unwrap-len.ensures written in
    c.literal.ensures ∙ ap (λ text. after text c.args.self) made

pub returns-in-None : goal.returns-in-None
returns-in-None c = after-none (encode_of c.args.engine.now c.args.chunk.now) _ (sym c.self.view_is ∙ ap option_copied c.in-None.is)
