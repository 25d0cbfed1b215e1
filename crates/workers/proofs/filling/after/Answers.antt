use Rattle.std.proofs.Common.{List, ℕ, length, take, not, refl, ap, ◌∙◌}
use Rattle.std.specs.Prelude.{bytes_eq}
use Rattle.std.specs.Cmp.Lexicographic.{nat_list_eq_equiv}
use Rattle.std.proofs.lemmas.List.{take_at}
use Rattle.frame_front.proofs.ReplyLemmas.{not_both}
use Rattle.workers.proofs.filling.after.Goals as goal

pub returns-then-ne-clause-none : goal.returns-then-ne-clause-none
returns-then-ne-clause-none c _ rest same =
    let first = c.args.first.now in
    let front = c.split_at.ensures.front ∙ (ap (take (length first)) same ∙ take_at first rest (length first) refl) in
    not_both c.ne.result c.if-ne.true (c.ne.ensures ∙ ap not (ap (λ (bytes : List ℕ). bytes_eq bytes first) front ∙ nat_list_eq_equiv.refl first))
