use Rattle.std.proofs.Common.{◌≡◌, ◌≢◌, [], refl, subst, sym, arith, rules}
use Rattle.frame_front.specs.Private.DumpReading.{HasRead}
use Rattle.frame_front.proofs.DumpLemmas.{HasRead-none, HasRead-then, HasRead-whole, HasRead-bound, wrong_next, too_much, bad_head, some_left, nothing_left}
use Rattle.frame_front.proofs.dump.read_dump.Goals as goal

pub returns-in_default-clause-err : goal.returns-in_default-clause-err
returns-in_default-clause-err c = bad_head c.args.dump.now (λ i. search rules) c.in_default.ensures.none

pub loop-place-init : goal.loop-place-init
loop-place-init c =
    let found = c.in-Some.ensures.found in
    let none : c.new-domains.result.items ≡ [] = c.new-domains.ensures.items in (
      subst (HasRead c.args.dump.now c.in-Some.count c.in-Some.rest.now 0) (sym none)
          (HasRead-none c.args.dump.now found.0 c.in-Some.rest.now c.in-Some.count found.1 found.2 found.3),
      omega arith,
    )

pub overflow_add-result : goal.overflow_add-result
overflow_add-result c =
    omega (arith, HasRead-bound c.args.dump.now c.in-Some.count c.loop-place.rest.now c.loop-place.place c.loop-place.domains.items c.loop-place.invariant.0)

pub returns-then-not-is_empty-clause-err : goal.returns-then-not-is_empty-clause-err
returns-then-not-is_empty-clause-err c =
    let some : c.loop-place.rest.now ≢ [] = some_left c.loop-place.rest.now c.if-not-is_empty.ensures in
    too_much c.args.dump.now c.in-Some.count c.loop-place.rest.now c.loop-place.place c.loop-place.domains.items c.loop-place.invariant.0
    (λ i. search rules) (omega arith) some

pub returns-clause-ok : goal.returns-clause-ok
returns-clause-ok c =
    let none : c.loop-place.rest.now ≡ [] = nothing_left c.loop-place.rest.now c.if-not-is_empty.ensures in
    let so_far = c.loop-place.invariant.0 in
    rw c.from_pairs.ensures
    (HasRead-whole c.args.dump.now c.in-Some.count c.loop-place.rest.now c.loop-place.place c.loop-place.domains.items so_far (omega arith) none, so_far.valid)

pub returns-in-Ok-None-clause-err : goal.returns-in-Ok-None-clause-err
returns-in-Ok-None-clause-err c =
    let none = rw c.as_slice.ensures.value at (rw c.in-Ok-None.field-0-is at c.in-Ok-None.ensures.none) in
    wrong_next c.args.dump.now c.in-Some.count c.loop-place.rest.now c.loop-place.place c.loop-place.domains.items c.loop-place.invariant.0
    (λ i. search rules) (omega arith) none

pub loop-place-preserved : goal.loop-place-preserved
loop-place-preserved c =
    let item = c.in-Ok-Some.item in
    let found = rw c.as_slice.ensures.value at (rw c.in-Ok-Some.field-0-is at c.in-Ok-Some.ensures.found) in (
      HasRead-then c.args.dump.now c.in-Some.count c.loop-place.rest.now c.loop-place.place c.loop-place.domains.items c.loop-place.invariant.0
          found.0 item.rest.now (item.domain, item.bundle) _ _ found.1 found.2 found.3 found.4 found.5 (search rules) refl,
      omega arith,
    )
