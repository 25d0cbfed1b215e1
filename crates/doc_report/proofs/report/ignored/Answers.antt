use Rattle.std.proofs.Common.{◌<◌, length, map, Some, None, sym, ◌∙◌, arith, append-nil}
use Rattle.serde_json.specs.View.{view}
use Rattle.doc_report.specs.Report.{ignored_before}
use Rattle.doc_report.proofs.Entries.{one_more, get-map}
use Rattle.doc_report.proofs.report.ignored.Goals as goal
use Rattle.doc_report.proofs.report.ignored.Goals.{in-Some+in_ok-push, in_default}

pub loop-place-init : goal.loop-place-init
unfolding ignored_before
loop-place-init c = c.new-found.ensures.items

pub loop-place-preserved : goal.loop-place-preserved
loop-place-preserved c =
    let inside : c.loop-place.place < length c.args.entries.now = omega arith in
    let same = get-map c.args.entries.now c.loop-place.place c.index-entries-place.result inside c.index-entries-place.is in
    elim c.match-branch-2.branch [
      | in-Some+in_ok-push w ↦
          let step = one_more (map view c.args.entries.now) c.loop-place.place (view c.index-entries-place.result) (Some w.in-Some.reason) same (sym w.in-Some.is ∙ c.in_ok-reason.ensures) in
          rw (w.found-is, step, ← c.loop-place.invariant) w.in_ok-push.ensures.items
      | in_default w ↦
          let step = one_more (map view c.args.entries.now) c.loop-place.place (view c.index-entries-place.result) None same (sym w.in_default.is ∙ c.in_ok-reason.ensures) in
          rw (w.found-is, step, append-nil) c.loop-place.invariant
    ]
