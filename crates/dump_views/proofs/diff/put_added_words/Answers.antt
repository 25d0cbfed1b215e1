use Rattle.std.proofs.Common.{◌≡◌, ◌++◌, length, codes, decimal, ap, ◌∙◌}
use Rattle.dump_views.specs.ChangeLines.{number_word, added_words}
use Rattle.dump_views.proofs.FrontLemmas.{four_appended}
use Rattle.dump_views.proofs.diff.put_added_words.Goals as goal

pub returns-clause-ok : goal.returns-clause-ok
unfolding added_words
returns-clause-ok c =
    let count : c.format.result.now ≡ decimal (length c.args.bundle.now.authorities) = c.format.ensures.text ∙ ap decimal (c.len.ensures ∙ ap length c.authorities.ensures.value) in
    four_appended c.args.out.now.items c.extend_from_slice.new.self.items c.extend_from_slice-2.new.self.items c.extend_from_slice-3.new.self.items c.put_number.new.out.items
    (codes " authorities ") (decimal (length c.args.bundle.now.authorities)) (codes " sequence ") (number_word c.args.bundle.now.sequence)
    c.in_ok-extend_from_slice.ensures.items
    (c.in_ok-extend_from_slice-2.ensures.items ∙ ap (λ t. c.extend_from_slice.new.self.items ++ t) (c.as_bytes.ensures.value ∙ count))
    c.in_ok-extend_from_slice-3.ensures.items
    (c.in_ok-put_number.ensures.ok ∙ ap (λ n. c.extend_from_slice-3.new.self.items ++ number_word n) c.sequence.ensures)
