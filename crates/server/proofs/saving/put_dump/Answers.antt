use Rattle.std.proofs.Common.{◌≡◌, ℕ, List, ◌+◌, [], ◌++◌, take, length, subst, sym, ap, ◌∙◌, append_assoc}
use Rattle.std.specs.List.{flat_map}
use Rattle.wire.specs.ReplyForm.{All}
use Rattle.wire.specs.Answers.{item_frame, reply_frame}
use Rattle.server.proofs.Keeping.{domains_step}
use Rattle.server.proofs.saving.put_dump.Goals as goal

pub loop-item-preserved : goal.loop-item-preserved
loop-item-preserved g c =
    let domains = c.args.domains.now in
    let i = c.loop-item.item-index in
    let item = c.item-item.result in
    let head = reply_frame (All (length domains)) in
    let is : (head ++ flat_map item_frame (take i domains)) ++ item_frame item ≡ head ++ flat_map item_frame (take (i + 1) domains) =
    append_assoc head (flat_map item_frame (take i domains)) (item_frame item)
    ∙ ap (λ (t : List ℕ). head ++ t) (sym (domains_step domains i item c.loop-item-test.true c.item-item.is)) in
    subst (g.K.Keeper.holds c.put_item.new.draft) is (c.in_ok-put_item.ensures.ok _ c.loop-item.invariant)
