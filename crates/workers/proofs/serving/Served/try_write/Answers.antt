use Rattle.std.proofs.Common.{refl}
use Rattle.std.specs.Prelude.{None}
use Rattle.workers.specs.Private.Serving.{work_of}
use Rattle.workers.proofs.ServingLemmas.{on_ok_then, skips_write, tries_write}
use Rattle.workers.proofs.serving.Served.try_write.Goals as goal

pub returns-then-has_replies : goal.returns-then-has_replies
returns-then-has_replies g c =
    on_ok_then c.serve.result (λ served.
    tries_write g.A.Ask.answers c.args.worker.now.limits c.args.place (work_of c.args.self.now) (work_of c.serve.new.self) c.args.ask.now.ask c.serve.new.ask.ask
    (c.has_replies.ensures.some c.if-has_replies.true) (served None refl)) c.serve.ensures

pub returns-else-has_replies : goal.returns-else-has_replies
returns-else-has_replies g c =
    skips_write g.A.Ask.answers c.args.worker.now.limits c.args.place (work_of c.args.self.now) c.args.ask.now.ask (c.has_replies.ensures.none c.if-has_replies.false)
