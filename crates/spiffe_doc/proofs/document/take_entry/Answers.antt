use Rattle.std.proofs.Common.{Ok, Some, ap, ◌∙◌}
use Rattle.std.specs.Prelude.{option_map}
use Rattle.spiffe_doc.specs.Private.Borrowed.{tree_data}
use Rattle.spiffe_doc.specs.Private.Given.{authority_given}
use Rattle.spiffe_doc.proofs.EntryLaws.{outcome_of}
use Rattle.spiffe_doc.proofs.document.take_entry.Goals as goal

pub entry-requires-clause-valid : goal.entry-requires-clause-valid
entry-requires-clause-valid g c = (outcome_of c.args.place (tree_data c.args.entry.now) (Ok (Some (authority_given c.in-Some.given))) (c.in_ok-given.ensures ∙ ap (λ given. Ok (option_map authority_given given)) c.in-Some.is)).0
