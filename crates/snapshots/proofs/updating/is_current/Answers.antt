use Rattle.std.proofs.Common.{◌++◌, sym, take, drop, ◌+◌, [], ◌∷◌, false}
use Rattle.std.specs.Prelude.{flat_map}
use Rattle.snapshots.specs.Files.{domain_files, map_file}
use Rattle.snapshots.proofs.CompareLemmas.{head_differs, head_there, there_after, differs_before, differs_at}
use Rattle.snapshots.proofs.DeedLemmas.{flat_at}
use Rattle.snapshots.proofs.updating.is_current.Goals as goal

pub returns-then-not-branch-clause-ok : goal.returns-then-not-branch-clause-ok
returns-then-not-branch-clause-ok g c =
    head_differs (g.F.Folder.shows c.args.folder.now) (map_file c.args.domains.now) _ _ c.in_ok-holds.field-0 c.requires c.if-not-branch.true c.in_ok-holds.ensures.ok

pub returns-then-not-branch-2-clause-ok : goal.returns-then-not-branch-2-clause-ok
returns-then-not-branch-2-clause-ok g c =
    let there = g.F.Folder.shows c.args.folder.now in
    let items = c.args.domains.now in
    let i = c.loop-item.item-index in
    let item = c.item-item.result in
    let before = flat_map domain_files (take i items) in
    let behind = flat_map domain_files (drop (i + 1) items) in
    let map_is = head_there there (map_file items) _ c.in_ok-holds.field-0 c.requires c.if-not-branch.false c.in_ok-holds.ensures.ok in
    let differs = differs_before there (domain_files item) behind (differs_at there (domain_files item) c.in_ok-has_domain.field-0 c.if-not-branch-2.true c.in_ok-has_domain.ensures.ok) in
    rw (flat_at domain_files items i item c.loop-item-test.true (sym c.item-item.is))
    (there_after there (map_file items ∷ []) (before ++ (domain_files item ++ behind)) false map_is
    (there_after there before (domain_files item ++ behind) false c.loop-item.invariant differs))
