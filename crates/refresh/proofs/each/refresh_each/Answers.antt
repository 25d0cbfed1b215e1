use Rattle.std.proofs.Common.{◌≡◌, ℕ, ◌+◌, [], ◌∷◌, ◌++◌, length, true, false, ◌&&◌, None, Ok, Err, alloc_error, refl, sym, ap, subst, ◌∙◌, inl, inr, arith}
use Rattle.wire.specs.Counted.{faults_in}
use Rattle.wire.specs.Output.{TellsUnlessFailed, end_of}
use Rattle.wire.proofs.OutputLemmas.{tells_nothing, tells_more}
use Rattle.refresh.specs.Schedule.{ScheduleValue}
use Rattle.refresh.specs.Each.{Scene, RefreshesPlace, TellsPlace, all_are_good}
use Rattle.refresh.specs.Folder.{FetchesFile, FolderState}
use Rattle.refresh.specs.OutcomeLine.{Details, outcome_line}
use Rattle.refresh.proofs.Rounds.{all_and_one, and_else, and_then, not_taken, one_more, taken_is, tells_next, tells_place}
use Rattle.refresh.proofs.each.refresh_each.Goals as goal
use Rattle.refresh.proofs.each.refresh_each.Goals.{else-is_output-via-then-is_output+else-not-is_taken, else-is_output-via-else-is_output, then-all_went_well, else-all_went_well}

pub loop-place-init : goal.loop-place-init
loop-place-init g c = ([], refl, refl, refl, λ on. refl, refl, ([], tells_nothing _))

pub returns-in_default-clause-each : goal.returns-in_default-clause-each
returns-in_default-clause-each g c =
    let so_far = c.loop-place.invariant in
    let came = c.in_default.ensures.refreshes in
    let mid : Scene FolderState g.row.T.Denot =
    record { source = c.loop-place.folder; target = c.loop-place.target; schedule = c.loop-place.schedule; lines = end_of g.L.Write.contents c.loop-place.lines } in
    let new : Scene FolderState g.row.T.Denot =
    record { source = c.refresh_at.new.source; target = c.refresh_at.new.ask; schedule = c.refresh_at.new.schedule; lines = end_of g.L.Write.contents c.loop-place.lines } in (
      so_far.0,
      mid,
      so_far.1,
      inl (
        came.0,
        subst (λ (n : ℕ). RefreshesPlace FetchesFile (λ f. f.remark) g.T.Ask.answers g.T.Target.fault_in g.T.Target.empties_in g.T.Target.only_sends
            c.args.times.now (faults_in c.args.lines.now) n came.0 (Err alloc_error) mid new) (sym so_far.2)
            record { at_place = came.1; refreshes = came.2; due = c.in_default.ensures.due },
        refl,
        refl,
      ),
    )

pub returns-in-Some-clause-each : goal.returns-in-Some-clause-each
returns-in-Some-clause-each g c =
    let so_far = c.loop-place.invariant in
    let came = c.in-Ok.ensures.refreshes in
    let mid : Scene FolderState g.row.T.Denot =
    record { source = c.loop-place.folder; target = c.loop-place.target; schedule = c.loop-place.schedule; lines = end_of g.L.Write.contents c.loop-place.lines } in
    let new : Scene FolderState g.row.T.Denot =
    record { source = c.refresh_at.new.source; target = c.refresh_at.new.ask; schedule = c.refresh_at.new.schedule; lines = end_of g.L.Write.contents c.loop-place.lines } in (
      so_far.0,
      mid,
      so_far.1,
      inr (inl (
        came.0,
        c.in-Ok.outcome,
        subst (λ (n : ℕ). RefreshesPlace FetchesFile (λ f. f.remark) g.T.Ask.answers g.T.Target.fault_in g.T.Target.empties_in g.T.Target.only_sends
            c.args.times.now (faults_in c.args.lines.now) n came.0 (Ok c.in-Ok.outcome) mid new) (sym so_far.2)
            record { at_place = came.1; refreshes = came.2; due = c.in-Ok.ensures.due },
        refl,
        sym c.in-Some.ensures,
      )),
    )

pub returns-then-not-is_taken-clause-tells : goal.returns-then-not-is_taken-clause-tells
returns-then-not-is_taken-clause-tells g c =
    let old = end_of g.L.Write.contents c.loop-place.lines in
    let new = end_of g.L.Write.contents c.write_line-is_taken.new.end in
    let details : Details = record {
      time = c.args.times.now.time;
      due = c.due.result;
      domain = c.domain.result.now;
      is_sent = c.is_sender.result;
      has_emptied = c.has_emptied.result;
      remark = c.remark.result;
    } in
    let line = outcome_line details c.in-Ok.outcome.what in
    let follows : TellsUnlessFailed (faults_in c.args.lines.now) old new line =
    subst (λ (before : ℕ). TellsUnlessFailed before old new line) c.faults-before.ensures c.write_line-is_taken.ensures.tells in
    (c.loop-place.invariant.6.0 ++ line, tells_more _ old new c.loop-place.invariant.6.0 line c.requires c.loop-place.invariant.6.1 follows)

pub returns-then-not-is_taken-clause-each : goal.returns-then-not-is_taken-clause-each
returns-then-not-is_taken-clause-each g c =
    let so_far = c.loop-place.invariant in
    let came = c.in-Ok.ensures.refreshes in
    let old = end_of g.L.Write.contents c.loop-place.lines in
    let left = end_of g.L.Write.contents c.write_line-is_taken.new.end in
    let mid : Scene FolderState g.row.T.Denot =
    record { source = c.loop-place.folder; target = c.loop-place.target; schedule = c.loop-place.schedule; lines = old } in
    let new : Scene FolderState g.row.T.Denot =
    record { source = c.refresh_at.new.source; target = c.refresh_at.new.ask; schedule = c.refresh_at.new.schedule; lines = left } in
    let details : Details = record {
      time = c.args.times.now.time;
      due = c.due.result;
      domain = c.domain.result.now;
      is_sent = c.is_sender.result;
      has_emptied = c.has_emptied.result;
      remark = c.remark.result;
    } in
    let line = outcome_line details c.in-Ok.outcome.what in
    let follows : TellsUnlessFailed (faults_in c.args.lines.now) old left line =
    subst (λ (before : ℕ). TellsUnlessFailed before old left line) c.faults-before.ensures c.write_line-is_taken.ensures.tells in
    let goes_on : g.T.Target.fault_in c.refresh_at.new.ask ≡ None = (cc) in
    let refused : c.write_line-is_taken.result ≡ false = grind arith in (
      so_far.0,
      mid,
      so_far.1,
      inr (inr (
        c.in-Ok.outcome,
        subst (λ (n : ℕ). TellsPlace FetchesFile (λ f. f.remark) g.T.Ask.answers g.T.Target.fault_in g.T.Target.empties_in g.T.Target.only_sends
            c.args.times.now (faults_in c.args.lines.now) n c.in-Ok.outcome mid new) (sym so_far.2)
            (tells_place FetchesFile (λ f. f.remark) g.T.Ask.answers g.T.Target.fault_in g.T.Target.empties_in g.T.Target.only_sends
            c.args.times.now (faults_in c.args.lines.now) c.loop-place.place c.in-Ok.outcome mid new came.0 c.relationship.result.now
            c.due.result c.domain.result.now c.is_sender.result c.has_emptied.result c.remark.result
            came.1 came.2 c.in-Ok.ensures.due goes_on c.due.ensures c.relationship.ensures c.domain.ensures
            c.is_sender.ensures c.has_emptied.ensures c.remark.ensures follows),
        c.if-is_output.true,
        not_taken c.write_line-is_taken.result (faults_in c.write_line-is_taken.new.end) c.faults-before.result (faults_in c.args.lines.now)
            c.write_line-is_taken.ensures.taken refused c.faults-before.ensures,
        refl,
      )),
    )

pub loop-place-preserved : goal.loop-place-preserved
loop-place-preserved g c =
    let so_far = c.loop-place.invariant in
    let came = c.in-Ok.ensures.refreshes in
    let old = end_of g.L.Write.contents c.loop-place.lines in
    let left = end_of g.L.Write.contents c.write_line-is_taken.new.end in
    let start : Scene FolderState g.row.T.Denot =
    record { source = c.args.folder.now; target = c.args.target.now; schedule = c.args.schedule.now; lines = end_of g.L.Write.contents c.args.lines.now } in
    let mid : Scene FolderState g.row.T.Denot =
    record { source = c.loop-place.folder; target = c.loop-place.target; schedule = c.loop-place.schedule; lines = old } in
    let new : Scene FolderState g.row.T.Denot =
    record { source = c.refresh_at.new.source; target = c.refresh_at.new.ask; schedule = c.refresh_at.new.schedule; lines = left } in
    let details : Details = record {
      time = c.args.times.now.time;
      due = c.due.result;
      domain = c.domain.result.now;
      is_sent = c.is_sender.result;
      has_emptied = c.has_emptied.result;
      remark = c.remark.result;
    } in
    let line = outcome_line details c.in-Ok.outcome.what in
    let follows : TellsUnlessFailed (faults_in c.args.lines.now) old left line =
    subst (λ (before : ℕ). TellsUnlessFailed before old left line) c.faults-before.ensures c.write_line-is_taken.ensures.tells in
    let goes_on : g.T.Target.fault_in c.refresh_at.new.ask ≡ None = (cc) in
    let here : c.loop-place.place ≡ 0 + length so_far.0 = omega arith in
    let moved : c.refresh_at.new.schedule.relationships ≡ c.loop-place.schedule.relationships =
    ap (λ (s : ScheduleValue). s.relationships) c.in-Ok.ensures.due in
    let all_good : c.if-all_went_well.all_went_well ≡ (c.loop-place.all_went_well && c.is_good-is_well.result) =
    elim c.if-all_went_well.branch [
      | then-all_went_well w ↦ and_then c.if-all_went_well.all_went_well c.loop-place.all_went_well c.is_good-is_well.result w.if-all_went_well.true w.all_went_well-is
      | else-all_went_well w ↦ and_else c.if-all_went_well.all_went_well c.loop-place.all_went_well c.is_good-is_well.result w.if-all_went_well.false (w.all_went_well-is ∙ w.if-all_went_well.false)
    ] in (
      so_far.0 ++ c.in-Ok.outcome ∷ [],
      tells_next FetchesFile (λ f. f.remark) g.T.Ask.answers g.T.Target.fault_in g.T.Target.empties_in g.T.Target.only_sends
          c.args.times.now (faults_in c.args.lines.now) 0 so_far.0 c.in-Ok.outcome start mid new so_far.1
          (subst (λ (n : ℕ). TellsPlace FetchesFile (λ f. f.remark) g.T.Ask.answers g.T.Target.fault_in g.T.Target.empties_in g.T.Target.only_sends
          c.args.times.now (faults_in c.args.lines.now) n c.in-Ok.outcome mid new) here
          (tells_place FetchesFile (λ f. f.remark) g.T.Ask.answers g.T.Target.fault_in g.T.Target.empties_in g.T.Target.only_sends
          c.args.times.now (faults_in c.args.lines.now) c.loop-place.place c.in-Ok.outcome mid new came.0 c.relationship.result.now
          c.due.result c.domain.result.now c.is_sender.result c.has_emptied.result c.remark.result
          came.1 came.2 c.in-Ok.ensures.due goes_on c.due.ensures c.relationship.ensures c.domain.ensures
          c.is_sender.ensures c.has_emptied.ensures c.remark.ensures follows)),
      one_more so_far.0 c.in-Ok.outcome c.loop-place.place so_far.2,
      all_good ∙ ap (λ b. b && c.is_good-is_well.result) so_far.3 ∙ ap (λ b. all_are_good so_far.0 && b) c.is_good-is_well.ensures
          ∙ sym (all_and_one so_far.0 c.in-Ok.outcome),
      λ on. elim c.else-is_output.branch [
        | else-is_output-via-then-is_output+else-not-is_taken w ↦
            let accepted : c.write_line-is_taken.result ≡ true = grind arith in
            taken_is c.write_line-is_taken.result (faults_in c.write_line-is_taken.new.end) c.faults-before.result (faults_in c.args.lines.now)
            c.write_line-is_taken.ensures.taken accepted c.faults-before.ensures
        | else-is_output-via-else-is_output w ↦ (cc)
      ],
      ap length moved ∙ so_far.5,
      (so_far.6.0 ++ line, tells_more _ old left so_far.6.0 line c.requires so_far.6.1 follows),
    )
