use Rattle.frame_front.proofs.ShownLemmas.{shown_now}
use Rattle.frame_front.proofs.replies.Replies.show_get.Goals as goal

pub returns-in-Ok-None-clause-answers : goal.returns-in-Ok-None-clause-answers
returns-in-Ok-None-clause-answers g c = shown_now g.A.Ask.answers c.args.ask.now c.show_get.new.self c.in-Ok.domain c.args.self.now.ready.bytes.items c.show_get.new.viewer.bytes.items c.in-Ok-None.field-0
    c.args.self.now.terms c.args.name.now c.in-Ok.ensures c.in-Ok-None.field-0-is c.in-Ok-None.ensures.shown
