use Rattle.std.proofs.Common.{arith, rules}
use Rattle.workers.proofs.FinishedLists.{if_ok_then, pass_in_place, worked_in_place}
use Rattle.workers.proofs.run.run_workers.Goals as goal

pub map_vec-requires-after_bounds : goal.map_vec-requires-after_bounds
map_vec-requires-after_bounds g c κs within =
    λ i x l is. (pass_in_place (g.P.Seating.store c.args.store) c.in_ok-workers.workers.items c.args.passes.items c.in_ok-workers.ensures.passes c.requires.own i x l is, search rules)

pub returns : goal.returns
returns g c =
    if_ok_then c.all_finished.result (λ all gave.
    worked_in_place (g.G.Gate.opens c.args.gate.now) g.S.Reader.Read.remaining g.S.Writer.Write.contents g.S.Sessions.takes_back g.S.Sessions.comes
    (g.P.Seating.store c.args.store) c.in_ok-workers.workers.items c.args.passes.items c.args.sessions.items c.in_ok-given.given.items all.items
    c.in_ok-workers.ensures.passes c.in_ok-workers.ensures.sessions c.in_ok-workers.ensures.numbers gave (omega (arith, c.in_ok-given.ensures.len, c.in_ok-given.given.ok, c.in_ok-workers.workers.ok))
    (λ i r l. let e = c.in_ok-given.ensures.each i r l in (e.1.job, e.1.job_read, e.1.call.met))) c.all_finished.ensures
