use Rattle.dump_views.specs.ChangeLines.{have_same}
use Rattle.dump_views.proofs.CountLemmas.{none_beyond}
use Rattle.dump_views.proofs.authority_changes.put_authority_words.Goals as goal

pub put_order-requires : goal.put_order-requires
unfolding have_same
put_order-requires c =
    let added = none_beyond c.args.old.now c.args.new.now in
    let removed = none_beyond c.args.new.now c.args.old.now in
    cc (added, removed, c.are_zero.ensures, c.count_beyond-added.ensures.x509, c.count_beyond-added.ensures.jwt, c.count_beyond-removed.ensures.x509, c.count_beyond-removed.ensures.jwt)
