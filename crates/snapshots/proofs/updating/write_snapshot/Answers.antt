use Rattle.std.proofs.Common.{sym, map, [], ◌∷◌}
use Rattle.std.specs.Prelude.{flat_map}
use Rattle.snapshots.specs.Files.{domain_files, map_file}
use Rattle.snapshots.specs.Deeds.Deed.{Begin, Put, Show}
use Rattle.snapshots.proofs.DeedLemmas.{on_err, cut_first, cut_later, done_both}
use Rattle.snapshots.proofs.updating.write_snapshot.Goals as goal

pub returns-in_err-put_domains-clause-err : goal.returns-in_err-put_domains-clause-err
returns-in_err-put_domains-clause-err g c =
    let items = c.args.domains.now in
    on_err c.from_residual-in_err-put_domains.result _
    (cut_later _ _ _ (Begin ∷ Put (map_file items) ∷ []) (map Put (flat_map domain_files items)) (Show ∷ [])
    (done_both _ _ _ (Begin ∷ []) (Put (map_file items) ∷ []) c.in_ok-begin.ensures.ok (rw (sym c.requires) c.in_ok-put.ensures.ok)) c.in_err-put_domains.ensures.err)

pub returns-in_err-show-clause-err : goal.returns-in_err-show-clause-err
returns-in_err-show-clause-err g c =
    let items = c.args.domains.now in
    let begun = done_both _ _ _ (Begin ∷ []) (Put (map_file items) ∷ []) c.in_ok-begin.ensures.ok (rw (sym c.requires) c.in_ok-put.ensures.ok) in
    on_err c.from_residual-in_err-show.result _
    (cut_later _ _ _ (Begin ∷ Put (map_file items) ∷ map Put (flat_map domain_files items)) (Show ∷ []) []
    (done_both _ _ _ (Begin ∷ Put (map_file items) ∷ []) (map Put (flat_map domain_files items)) begun c.in_ok-put_domains.ensures.ok)
    (cut_first _ _ _ _ c.in_err-show.ensures.err))
