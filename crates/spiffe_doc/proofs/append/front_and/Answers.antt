use Rattle.std.proofs.Common.{◌++◌, ◌∷◌, [], ap₂, ◌∙◌}
use Rattle.spiffe_doc.proofs.EntryTexts.{IsEntry-of, authority_in-is}
use Rattle.spiffe_doc.proofs.append.front_and.Goals as goal

pub new-requires : goal.new-requires
new-requires c = IsEntry-of c.deref.result.now c.is_x509.result c.args.last.now c.recall_valid.ensures (c.deref.ensures.value ∙ c.in_ok-text.ensures) c.is_x509.ensures

pub returns-clause-value : goal.returns-clause-value
returns-clause-value c =
    let entry = c.new.ensures ∙ authority_in-is c.deref.result.now c.args.last.now c.recall_valid.ensures (c.deref.ensures.value ∙ c.in_ok-text.ensures) in
    c.in_ok-push.ensures.value ∙ ap₂ (λ front a. front ++ a ∷ []) c.in_ok-front.ensures.value entry
