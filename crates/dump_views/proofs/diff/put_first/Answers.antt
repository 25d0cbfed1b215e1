use Rattle.std.proofs.Common.{sym}
use Rattle.dump_views.proofs.MergeLemmas.{step_none_new, step_none_old, step_less, step_equal, step_greater}
use Rattle.dump_views.proofs.diff.put_first.Goals as goal

pub returns-in_ok-put_added-in-None-Some-clause-ok : goal.returns-in_ok-put_added-in-None-Some-clause-ok
returns-in_ok-put_added-in-None-Some-clause-ok c =
    step_none_new _ _ _ _ c.in-None-Some.first.now c.in-None-Some.news.now c.in-None-Some.ensures.cases c.in-None-Some.ensures'.cases.0 c.in_ok-put_added-in-None-Some.ensures.ok

pub returns-in_ok-put_removed-in-Some-None-clause-ok : goal.returns-in_ok-put_removed-in-Some-None-clause-ok
returns-in_ok-put_removed-in-Some-None-clause-ok c =
    step_none_old _ _ _ _ c.in-Some-None.first.now c.in-Some-None.olds.now c.in-Some-None.ensures.cases.0 c.in-Some-None.ensures'.cases c.in_ok-put_removed-in-Some-None.ensures.ok

pub returns-in_ok-put_removed-in-Less-clause-ok : goal.returns-in_ok-put_removed-in-Less-clause-ok
returns-in_ok-put_removed-in-Less-clause-ok c =
    step_less _ _ _ _ c.in-Some-Some.first.now c.in-Some-Some.other.now c.in-Some-Some.olds.now c.in-Some-Some.news.now c.in-Some-Some.ensures.cases.0 c.in-Some-Some.ensures'.cases.0 (sym c.in-Less.ensures) c.in_ok-put_removed-in-Less.ensures.ok

pub returns-in_ok-put_both-in-Equal-clause-ok : goal.returns-in_ok-put_both-in-Equal-clause-ok
returns-in_ok-put_both-in-Equal-clause-ok c =
    step_equal _ _ _ _ c.in-Some-Some.first.now c.in-Some-Some.other.now c.in-Some-Some.olds.now c.in-Some-Some.news.now c.in-Some-Some.ensures.cases.0 c.in-Some-Some.ensures'.cases.0 (sym c.in-Equal.ensures) c.in_ok-put_both-in-Equal.ensures.ok

pub returns-in_ok-put_added-in-Greater-clause-ok : goal.returns-in_ok-put_added-in-Greater-clause-ok
returns-in_ok-put_added-in-Greater-clause-ok c =
    step_greater _ _ _ _ c.in-Some-Some.first.now c.in-Some-Some.other.now c.in-Some-Some.olds.now c.in-Some-Some.news.now c.in-Some-Some.ensures.cases.0 c.in-Some-Some.ensures'.cases.0 (sym c.in-Greater.ensures) c.in_ok-put_added-in-Greater.ensures.ok
