-- What follows from the one order: what a fetch-all shows.
use Rattle.std.proofs.Common.{◌≡◌, ℕ, ◌<◌, nat_lt, ◌&&◌, Bool, true, cond, List, [], ◌∷◌, ◌++◌, Some, IfSome, Ok, arith, ap, subst, ◌∙◌}
use Rattle.std.proofs.lemmas.Bool.Decides.{nat_tests}
use Rattle.std.specs.FinMap as finite
use Rattle.map_core.specs.declared.op.Op.{Op}
use Rattle.map_core.specs.declared.reply.Reply.{Reply}
use Rattle.map_core.specs.Op.{known_of}
use Rattle.map_core.specs.Table.{meaning, fetched}
use Rattle.map_core.specs.PlainMap.{PlainMap, ask, bundles}
use Rattle.step_core.specs.declared.trace.OpRecord.{OpRecord}
use Rattle.step_core.specs.Run.{run_of, order_of}
use Rattle.step_core.specs.Records.{took_effect_by, took_effect}
use Rattle.step_core.proofs.Legal.{Replies}
use Rattle.step_core.specs.Laws.{is_fetch_all, map_after, ShowsOneMoment}
use Rattle.step_core.proofs.Points.{split-times}
use Rattle.step_core.proofs.Legality.{one_order}

-- what the plain map says where an answered operation stands
found : (records : ℕ → OpRecord) (q : ℕ) (reply : Reply) → (records q).reply ≡ Some (Ok reply) → (m : PlainMap) (before after : List ℕ) → Replies records m (before ++ q ∷ after) → reply ≡ (ask (map_after records m before) (records q).op).reply
found records q reply is m [] after h = let same : Ok reply ≡ Ok (ask m (records q).op).reply = subst (λ o. IfSome o (λ x. x ≡ Ok (ask m (records q).op).reply)) is h.0 in cc
found records q reply is m (r ∷ before) after h = found records q reply is (ask m (records r).op).map before after h.1

once : (q count t : ℕ) (s : Bool) → q < count → s ≡ true → t ≡ cond (nat_lt q count && s) 1 0 → 0 < t
once q count t s l e is = grind (arith, nat_tests)

fetch_all_reply : (m : PlainMap) (op : Op) → is_fetch_all op ≡ true → (ask m op).reply ≡ fetched (known_of op) (bundles m)
unfolding ask meaning
fetch_all_reply m op is = grind (arith, is)

pub shows_one_moment : ShowsOneMoment
shows_one_moment n rounds events some q reply known op is =
    let run = run_of n rounds events in
    let legal = one_order n rounds events some in
    let answered : took_effect (run.records q) ≡ true = ap (λ o. took_effect_by o (run.records q).wrote) is in
    let order = order_of run in
    let place = split-times q order (once q run.count _ _ known answered (legal.members q)) in
    let said = found run.records q reply is finite.empty place.0 place.1 (subst (Replies run.records finite.empty) place.2 legal.replies) in
    (place.0, place.1, place.2, said ∙ fetch_all_reply (map_after run.records finite.empty place.0) (run.records q).op op)
