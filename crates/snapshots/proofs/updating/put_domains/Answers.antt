use Rattle.std.proofs.Common.{map, take, drop, sym, ◌+◌}
use Rattle.std.specs.Prelude.{flat_map}
use Rattle.snapshots.specs.Files.{domain_files}
use Rattle.snapshots.specs.Deeds.Deed.{Put}
use Rattle.snapshots.proofs.DeedLemmas.{on_err, cut_later, puts_at}
use Rattle.snapshots.proofs.updating.put_domains.Goals as goal

pub returns-in_err-put_domain-clause-err : goal.returns-in_err-put_domain-clause-err
returns-in_err-put_domain-clause-err g c =
    let items = c.args.domains.now in
    let i = c.loop-item.item-index in
    let item = c.item-item.result in
    on_err c.from_residual.result _ (rw (puts_at domain_files items i item c.loop-item-test.true (sym c.item-item.is))
    (cut_later _ _ _ (map Put (flat_map domain_files (take i items))) (map Put (domain_files item)) (map Put (flat_map domain_files (drop (i + 1) items)))
    c.loop-item.invariant c.in_err-put_domain.ensures.err))
