use Rattle.std.proofs.Common.{sym, ◌∙◌, ap}
use Rattle.std.specs.Prelude.{bytes_eq}
use Rattle.std.specs.Cmp.Lexicographic.{nat_list_eq_equiv}
use Rattle.frame_front.proofs.ReplyLemmas.{not_both}
use Rattle.client.proofs.ListingLemmas.{joined_parts}
use Rattle.client.proofs.listing.is_joined.Goals as goal

pub returns-then-eq-clause-no : goal.returns-then-eq-clause-no
returns-then-eq-clause-no c = λ unequal same.
    let parts = joined_parts c.args.bytes.now c.args.first.now c.args.others.now same in
    let end = c.split_at.ensures.back ∙ parts.1 in
    not_both _ (ap (λ e. bytes_eq e c.args.others.now) end ∙ nat_list_eq_equiv.refl c.args.others.now) (sym c.eq-then-eq.ensures ∙ unequal)

pub returns-else-eq-clause-no : goal.returns-else-eq-clause-no
returns-else-eq-clause-no c = λ unequal same.
    let parts = joined_parts c.args.bytes.now c.args.first.now c.args.others.now same in
    let start = c.split_at.ensures.front ∙ parts.0 in
    not_both _ (ap (λ s. bytes_eq s c.args.first.now) start ∙ nat_list_eq_equiv.refl c.args.first.now) (sym c.eq.ensures ∙ c.if-eq.false)
