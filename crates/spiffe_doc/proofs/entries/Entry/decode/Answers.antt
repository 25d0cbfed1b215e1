use Rattle.std.proofs.Common.{Ok, Some, sym, ap, ◌∙◌}
use Rattle.std.specs.Prelude.{option_map}
use Rattle.spiffe_doc.specs.Private.Borrowed.{tree_data}
use Rattle.spiffe_doc.specs.Private.Given.{authority_given}
use Rattle.spiffe_doc.proofs.EntryLaws.{outcome_of}
use Rattle.spiffe_doc.proofs.EntryTexts.{authority_in-judged}
use Rattle.spiffe_doc.proofs.DocumentLaws.{json_tree-read}
use Rattle.spiffe_doc.proofs.entries.Entry.decode.Goals as goal

pub decode-requires : goal.decode-requires
decode-requires c = record { valid = (outcome_of 0 (tree_data c.in-Ok.tree) (Ok (Some (authority_given c.in-Ok-Some.given))) (c.in-Ok-Some.ensures ∙ ap (λ given. Ok (option_map authority_given given)) c.in-Ok-Some.field-0-is)).0 }

pub returns-in-Ok-Some : goal.returns-in-Ok-Some
returns-in-Ok-Some c =
    let judged = c.in-Ok-Some.ensures ∙ ap (λ given. Ok (option_map authority_given given)) c.in-Ok-Some.field-0-is in
    let reads = json_tree-read c.self.inside.text.now (tree_data c.in-Ok.tree) c.in-Ok.ensures in
    let same = sym (authority_in-judged c.self.inside.text.now (tree_data c.in-Ok.tree) (authority_given c.in-Ok-Some.given) reads judged) ∙ c.self.view_is in
    rw (← same) c.decode.ensures
