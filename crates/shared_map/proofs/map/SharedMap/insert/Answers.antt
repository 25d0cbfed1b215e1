use Rattle.std.proofs.Common.{Some, None, ap, arith}
use Rattle.shared_map.specs.Top.{marks, top_marks}
use Rattle.shared_map.proofs.Same.{same_is}
use Rattle.shared_map.proofs.Maps.{shows_at, roomed, inserted, inserted_sorted, inserted_more, inserted_over}
use Rattle.shared_map.proofs.map.SharedMap.insert.Goals as goal

pub invariant_of-self-in_err-make_room-in-Some : goal.invariant_of-self-in_err-make_room-in-Some
invariant_of-self-in_err-make_room-in-Some g c =
    let h = roomed (shows_at c.in-Some.is c.self.view_is c.self.invariant) (Some c.make_room.new.self) c.make_room.ensures in
    (h.sorted, h.counted)

pub invariant_of-self-in_err-put-in-Some : goal.invariant_of-self-in_err-put-in-Some
invariant_of-self-in_err-put-in-Some g c =
    let h = roomed (shows_at c.in-Some.is c.self.view_is c.self.invariant) (Some c.make_room.new.self) c.make_room.ensures in
    let kept = roomed h (Some c.put.new.self) (same_is (ap marks c.in_err-put-in-Some.ensures.err)) in
    (kept.sorted, kept.counted)

pub invariant_of-self-then-branch : goal.invariant_of-self-then-branch
invariant_of-self-then-branch g c =
    let h = roomed (shows_at c.in-Some.is c.self.view_is c.self.invariant) (Some c.make_room.new.self) c.make_room.ensures in
    let put = c.in_ok-put-in-Some.ensures in
    let old = top_marks (Some c.make_room.new.self) in
    let new = top_marks (Some c.put.new.self) in (
      inserted_sorted c.args.self.now old h.view h.sorted c.args.name c.args.value new (put.ok h.sorted),
      inserted_more c.args.self.now old h.view h.sorted c.args.name c.args.value new (put.ok h.sorted) _ c.self.inside.len _ (put.is_new h.sorted) c.if-branch.true h.counted (let more = c.in-Some-checked_add.ensures in omega arith),
    )

pub invariant_of-self-else-branch : goal.invariant_of-self-else-branch
invariant_of-self-else-branch g c =
    let h = roomed (shows_at c.in-Some.is c.self.view_is c.self.invariant) (Some c.make_room.new.self) c.make_room.ensures in
    let put = c.in_ok-put-in-Some.ensures in
    let old = top_marks (Some c.make_room.new.self) in
    let new = top_marks (Some c.put.new.self) in (
      inserted_sorted c.args.self.now old h.view h.sorted c.args.name c.args.value new (put.ok h.sorted),
      inserted_over c.args.self.now old h.view h.sorted c.args.name c.args.value new (put.ok h.sorted) _ c.self.inside.len (put.is_new h.sorted) c.if-branch.false h.counted,
    )

pub returns-in_ok-of-in-None-clause-ok : goal.returns-in_ok-of-in-None-clause-ok
returns-in_ok-of-in-None-clause-ok g c =
    let h = shows_at c.in-None.is c.self.view_is c.self.invariant in
    inserted c.args.self.now (top_marks None) h.view h.sorted c.args.name c.args.value (top_marks (Some c.in_ok-of-in-None.field-0)) (same_is c.in_ok-of-in-None.ensures)

pub returns-then-branch-clause-ok : goal.returns-then-branch-clause-ok
returns-then-branch-clause-ok g c =
    let h = roomed (shows_at c.in-Some.is c.self.view_is c.self.invariant) (Some c.make_room.new.self) c.make_room.ensures in
    inserted c.args.self.now (top_marks (Some c.make_room.new.self)) h.view h.sorted c.args.name c.args.value (top_marks (Some c.put.new.self)) (c.in_ok-put-in-Some.ensures.ok h.sorted)

pub returns-else-branch-clause-ok : goal.returns-else-branch-clause-ok
returns-else-branch-clause-ok g c =
    let h = roomed (shows_at c.in-Some.is c.self.view_is c.self.invariant) (Some c.make_room.new.self) c.make_room.ensures in
    inserted c.args.self.now (top_marks (Some c.make_room.new.self)) h.view h.sorted c.args.name c.args.value (top_marks (Some c.put.new.self)) (c.in_ok-put-in-Some.ensures.ok h.sorted)
