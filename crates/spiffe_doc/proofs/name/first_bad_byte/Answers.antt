use Rattle.std.proofs.Common.{◌∙◌, sym}
use Rattle.std.proofs.lemmas.List.Sums.{AllPass-from_list_all}
use Rattle.spiffe_doc.specs.Name.{is_name_byte}
use Rattle.spiffe_doc.proofs.NameLemmas.{no_bad_byte}
use Rattle.spiffe_doc.proofs.name.first_bad_byte.Goals as goal

pub returns-then-are_name_bytes : goal.returns-then-are_name_bytes
returns-then-are_name_bytes c =
    let all = AllPass-from_list_all is_name_byte c.args.bytes.now (sym c.are_name_bytes.ensures ∙ c.if-are_name_bytes.true) in
    sym (no_bad_byte c.args.bytes.now all)
