use Rattle.std.proofs.Common.{map, ap, ◌∙◌}
use Rattle.std.proofs.lemmas.List.{map-append}
use Rattle.workers.specs.declared.run.Worker.{Worker}
use Rattle.workers.proofs.run.add_worker.Goals as goal

pub returns-clause-passes : goal.returns-clause-passes
returns-clause-passes g c = ap (map (λ (w : Worker g.row.S.Denot). w.pass)) c.in_ok-push.ensures.items ∙ map-append (λ (w : Worker g.row.S.Denot). w.pass) c.args.workers.now.items _

pub returns-clause-sessions : goal.returns-clause-sessions
returns-clause-sessions g c =
    ap (map (λ (w : Worker g.row.S.Denot). w.sessions)) c.in_ok-push.ensures.items ∙ map-append (λ (w : Worker g.row.S.Denot). w.sessions) c.args.workers.now.items _
