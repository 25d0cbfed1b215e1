use Rattle.std.proofs.Common.{◌≡◌, length, arith, sym, ◌∙◌}
use Rattle.std.proofs.lemmas.Bool.Decides.{nat_tests}
use Rattle.dump_views.proofs.MergeLemmas.{none_left}
use Rattle.dump_views.proofs.diff.put_changes.Goals as goal

pub returns-clause-ok : goal.returns-clause-ok
returns-clause-ok c =
    let no_old : length c.loop-olds.olds.now ≡ 0 = grind (arith, nat_tests) in
    let no_new : length c.loop-olds.news.now ≡ 0 = grind (arith, nat_tests) in
    sym (none_left c.loop-olds.out.items c.loop-olds.olds.now c.loop-olds.news.now no_old no_new) ∙ c.loop-olds.invariant.so_far
