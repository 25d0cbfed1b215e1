use Rattle.std.proofs.Common.{◌≡◌, List, [], ◌∷◌, All, sym, subst, ◌∙◌, ap, append-nil, length, arith}
use Rattle.std.specs.Vec.Iter.{into_iter_items, into_iter_len}
use Rattle.shard_store.specs.Pass.{IsOf}
use Rattle.workers.specs.declared.ended.Worked.{Worked}
use Rattle.workers.proofs.PassLists.{first_of_all, rest_of_all}
use Rattle.workers.proofs.ClosingLemmas.{IsJoined, joined_first, joined_more, none_left, closes_all}
use Rattle.workers.proofs.closing.close_store.Goals as goal

pub loop-worker-init : goal.loop-worker-init
loop-worker-init c =
    let store = c.args.store in
    let all : into_iter_items c.into_iter-workers.result ≡ c.args.worked.items = c.into_iter-workers.ensures.rest in
    let cut : into_iter_items c.into_iter-workers.result ≡ c.in-Some.first ∷ into_iter_items c.next.new.self = c.in-Some.ensures.items in
    let own = subst (λ (ws : List Worked). All (λ w. IsOf w.pass store) ws) (sym all ∙ cut) c.requires.own in
    let same = c.into_iter-worker-iterator.ensures.into_iter_gives in (
      first_of_all (λ (w : Worked). IsOf w.pass store) c.in-Some.first (into_iter_items c.next.new.self) own,
      subst (λ it. All (λ w. IsOf w.pass store) (into_iter_items it)) (sym same) (rest_of_all (λ (w : Worked). IsOf w.pass store) c.in-Some.first (into_iter_items c.next.new.self) own),
      subst (λ it. IsJoined (c.in-Some.first ∷ []) (into_iter_items it) c.args.worked.items c.in-Some.first.pass.seen) (sym same)
          (joined_first c.in-Some.first (into_iter_items c.next.new.self) c.args.worked.items (sym cut ∙ all)),
      subst (λ it. into_iter_len it ≡ length (into_iter_items it)) (sym same)
          (omega (arith, c.in-Some.ensures.len, c.into_iter-workers.ensures.len, c.args.worked.ok, ap length all, ap length cut)),
    )

pub loop-worker-preserved : goal.loop-worker-preserved
loop-worker-preserved c =
    let store = c.args.store in
    let worker = c.in-Some-worker.worker in
    let rest = into_iter_items c.next-in-loop-worker.new.self in
    let cut : into_iter_items c.loop-worker.worker-iterator ≡ worker ∷ rest = c.in-Some-worker.ensures.steps.0 in
    let own = subst (λ (ws : List Worked). All (λ w. IsOf w.pass store) ws) cut c.loop-worker.invariant.1 in
    let joined = subst (λ (ws : List Worked). IsJoined (c.in-Some.first ∷ c.loop-worker.yielded) ws c.args.worked.items c.loop-worker.pass.seen) cut c.loop-worker.invariant.2 in (
      c.join-pass.ensures.own,
      rest_of_all (λ (w : Worked). IsOf w.pass store) worker rest own,
      joined_more (c.in-Some.first ∷ c.loop-worker.yielded) worker rest c.args.worked.items c.loop-worker.pass.seen c.join-pass.result.seen joined
          c.join-pass.ensures.log.0 c.join-pass.ensures.log.1 c.join-pass.ensures.numbers,
      omega (arith, c.in-Some-worker.ensures.steps.1, c.loop-worker.invariant.3, ap length cut),
    )

pub returns : goal.returns
returns c =
    let all = c.args.worked.items in
    let seen = c.loop-worker.pass.seen in
    let taken = c.in-Some.first ∷ c.loop-worker.yielded in
    let empty : into_iter_items c.loop-worker.worker-iterator ≡ [] = none_left (into_iter_items c.loop-worker.worker-iterator) (sym c.loop-worker.invariant.3 ∙ c.in-None.ensures.steps.0) in
    let joined = subst (λ (ws : List Worked). IsJoined taken ws all seen) empty c.loop-worker.invariant.2 in
    let whole : taken ≡ all = sym (append-nil taken) ∙ joined.split in
    closes_all c.args.store all seen c.close.result (subst (λ (ws : List Worked). IsJoined ws [] all seen) whole joined) c.requires.all c.close.ensures
