use Rattle.std.proofs.Common.{refl, sym}
use Rattle.snapshots.specs.Files.{File}
use Rattle.snapshots.proofs.CompareLemmas.{head_differs, two_answered}
use Rattle.snapshots.proofs.updating.has_both.Goals as goal

pub returns-then-not-branch-clause-ok : goal.returns-then-not-branch-clause-ok
returns-then-not-branch-clause-ok g c =
    let there = g.F.Folder.shows c.args.folder.now in
    let file : File = (c.as_str.result.now, c.text.result.now) in
    rw c.in_ok-files.ensures (rw (sym c.as_str.ensures.value, sym c.text.ensures)
    (head_differs there file file _ c.in_ok-holds.field-0 refl c.if-not-branch.true c.in_ok-holds.ensures.ok))

pub returns-clause-ok : goal.returns-clause-ok
returns-clause-ok g c =
    let there = g.F.Folder.shows c.args.folder.now in
    let one : File = (c.as_str.result.now, c.text.result.now) in
    let two : File = (c.as_str-2.result.now, c.as_slice.result.now) in
    rw c.in_ok-files.ensures (rw (sym c.as_str.ensures.value, sym c.text.ensures, sym c.as_str-2.ensures.value, sym c.as_slice.ensures.value)
    (two_answered there one two one two c.in_ok-holds.field-0 c.holds-2.result refl refl c.if-not-branch.false c.in_ok-holds.ensures.ok c.holds-2.ensures.ok))
