use Rattle.std.proofs.Common.{◌≡◌, length, sym, ap, ◌∙◌, arith, rules, Ok}
use Rattle.std.specs.Prelude.{Bool}
use Rattle.std.proofs.lemmas.List.{length-map}
use Rattle.workers.specs.Connection.{ConnectionView, opened}
use Rattle.workers.proofs.WorkedLists.{followed_in_place, if_ok_then, pass_in_place, served_in_place}
use Rattle.workers.proofs.lasting.run_arrivals.Goals as goal

pub map_vec-requires-after_bounds : goal.map_vec-requires-after_bounds
map_vec-requires-after_bounds g c κs within =
    λ i x l is. (pass_in_place c.args.store.now c.in_ok-tasks.tasks.items c.args.passes.items c.in_ok-tasks.ensures.passes c.requires.own i x l is, search rules)

pub returns-clause-followed : goal.returns-clause-followed
returns-clause-followed g c =
    let start : Bool → g.row.V-End.Denot → ConnectionView = λ reads_only end. opened reads_only c.args.common.now.limits.turns (g.V.End.Stream.may end) (g.V.End.Stream.left end) (g.V.End.Stream.held end) in
    if_ok_then c.all_worked.result (λ all gave.
    followed_in_place (g.G.Gate.opens c.args.gate.now) c.args.common.now.limits.patience c.args.common.now.limits.turns c.args.store.now start g.V.Arrivals.comes c.in_ok-tasks.tasks.items c.args.passes.items c.args.arrivals.items c.in_ok-given.given.items all.items
    c.in_ok-tasks.ensures.passes c.in_ok-tasks.ensures.arrivals c.in_ok-tasks.ensures.numbers gave (omega (arith, c.in_ok-given.ensures.len, c.in_ok-given.given.ok, c.in_ok-tasks.tasks.ok))
    (λ i r l. let e = c.in_ok-given.ensures.each i r l in (e.1.job, e.1.job_read, e.1.call.met))) c.all_worked.ensures

pub returns-clause-served : goal.returns-clause-served
returns-clause-served g c =
    let start : Bool → g.row.V-End.Denot → ConnectionView = λ reads_only end. opened reads_only c.args.common.now.limits.turns (g.V.End.Stream.may end) (g.V.End.Stream.left end) (g.V.End.Stream.held end) in
    if_ok_then c.all_worked.result (λ all gave.
    let long : length c.in_ok-given.given.items ≡ length c.in_ok-tasks.tasks.items = omega (arith, c.in_ok-given.ensures.len, c.in_ok-given.given.ok, c.in_ok-tasks.tasks.ok) in
    let passes_long : length c.args.passes.items ≡ length c.in_ok-tasks.tasks.items =
    ap length (sym c.in_ok-tasks.ensures.passes) ∙ length-map c.in_ok-tasks.tasks.items (λ w. w.pass) in
    let all_long : length all.items ≡ length c.in_ok-given.given.items = sym (length-map all.items _) ∙ ap length gave in
    served_in_place (g.G.Gate.opens c.args.gate.now) c.args.common.now.limits.patience c.args.common.now.limits.turns c.args.store.now start g.V.Arrivals.comes c.args.passes.items c.args.arrivals.items all.items (omega (arith, long, passes_long, all_long))
    (λ i w l. (c.in_ok-given.ensures.each i (Ok w) (omega (arith, l, passes_long))).1.job.arrivals)
    (followed_in_place (g.G.Gate.opens c.args.gate.now) c.args.common.now.limits.patience c.args.common.now.limits.turns c.args.store.now start g.V.Arrivals.comes c.in_ok-tasks.tasks.items c.args.passes.items c.args.arrivals.items c.in_ok-given.given.items all.items
    c.in_ok-tasks.ensures.passes c.in_ok-tasks.ensures.arrivals c.in_ok-tasks.ensures.numbers gave long
    (λ i r l. let e = c.in_ok-given.ensures.each i r l in (e.1.job, e.1.job_read, e.1.call.met)))) c.all_worked.ensures
