use Rattle.std.proofs.Common.{Ok, Some, ap, ◌∙◌}
use Rattle.std.specs.Prelude.{option_map}
use Rattle.spiffe_doc.specs.Private.Borrowed.{tree_data}
use Rattle.spiffe_doc.specs.Private.Given.{authority_given}
use Rattle.spiffe_doc.proofs.EntryLaws.{outcome_of}
use Rattle.spiffe_doc.proofs.document.read_entry.Goals as goal

pub decode-requires : goal.decode-requires
decode-requires c = record { valid = (outcome_of 0 (tree_data c.in_ok-tree.tree) (Ok (Some (authority_given c.in-Some.given))) (c.in_ok-given.ensures ∙ ap (λ given. Ok (option_map authority_given given)) c.in-Some.is)).0 }
