use Rattle.std.proofs.Common.{map, ap, ◌∙◌}
use Rattle.std.proofs.lemmas.List.{map-append}
use Rattle.workers.specs.declared.lasting.Task.{Task}
use Rattle.workers.proofs.lasting.add_task.Goals as goal

pub returns-clause-passes : goal.returns-clause-passes
returns-clause-passes g c = ap (map (λ (w : Task g.row.V.Denot). w.pass)) c.in_ok-push.ensures.items ∙ map-append (λ (w : Task g.row.V.Denot). w.pass) c.args.tasks.now.items _

pub returns-clause-arrivals : goal.returns-clause-arrivals
returns-clause-arrivals g c =
    ap (map (λ (w : Task g.row.V.Denot). w.arrivals)) c.in_ok-push.ensures.items ∙ map-append (λ (w : Task g.row.V.Denot). w.arrivals) c.args.tasks.now.items _
