use Rattle.std.proofs.Common.{Ok, Err, OnOk}
use Rattle.std.specs.Prelude.{Result}
use Rattle.dump_views.specs.Private.Merging.{merged}
use Rattle.dump_views.proofs.MergeLaws.{found}
use Rattle.dump_views.proofs.diff.put_diff.Goals as goal

-- what is so of an Ok is still so if it is said otherwise
on_ok : {A E : Type 0} {P Q : Type 0} (r : Result A E) → (P → Q) → OnOk r P → OnOk r Q
on_ok (Ok a) says is = says is
on_ok (Err e) says is = tt

pub returns-else-is_err-clause-ok : goal.returns-else-is_err-clause-ok
returns-else-is_err-clause-ok c =
    on_ok c.put_changes-put.result (λ written. (merged c.args.old.now c.args.new.now, found c.args.old.now c.args.new.now c.requires.old_in_order c.requires.new_in_order, written)) c.put_changes-put.ensures.ok
