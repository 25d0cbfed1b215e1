use Rattle.std.proofs.Common.{◌++◌, false, codes, ap, ap₂, sym, ◌∙◌, append-nil, refl}
use Rattle.std.specs.Prelude.{not}
use Rattle.std.specs.List.{filter}
use Rattle.spiffe_doc.specs.Bundle.{is_x509}
use Rattle.spiffe_doc.specs.Private.Writing.{entry_texts, number_text}
use Rattle.dump_views.proofs.Texts.{texts_begun, rest_behind}
use Rattle.dump_views.specs.Map.{x509_part}
use Rattle.dump_views.proofs.map.put_x509_part.Goals as goal

pub loop-entry-init : goal.loop-entry-init
loop-entry-init c =
    let all = c.into_iter-entry-iterator.ensures.into_iter_gives ∙ c.iter-entry-items.ensures.value ∙ c.authorities.ensures.value in
    ap₂ (λ text xs. text ++ entry_texts false (filter is_x509 xs)) c.in_ok-extend_from_slice.ensures.items all
    ∙ texts_begun c.args.text.now.items (filter is_x509 c.args.bundle.now.authorities)

pub returns : goal.returns
returns c =
    let text = c.loop-entry.text.items in
    let written = sym (append-nil text)
    ∙ ap (λ xs. text ++ entry_texts (not c.loop-entry.is_first) (filter is_x509 xs)) (sym c.in-None.ensures.steps.0)
    ∙ c.loop-entry.invariant in
    rest_behind c.args.text.now.items text _ _ _ (x509_part c.args.bundle.now) written c.in_ok-push.ensures.items
    (c.in_ok-put_sequence.ensures ∙ ap (λ n. c.push.new.self.items ++ number_text (codes ",\"spiffe_sequence\":") n) c.sequence.ensures) c.in_ok-push-2.ensures.items refl
