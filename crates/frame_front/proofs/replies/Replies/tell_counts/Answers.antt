use Rattle.frame_front.proofs.ShownLemmas.{counts_now}
use Rattle.frame_front.proofs.replies.Replies.tell_counts.Goals as goal

pub returns-in-Ok-clause-answers : goal.returns-in-Ok-clause-answers
returns-in-Ok-clause-answers g c = λ read is.
    let told = c.in-Ok.ensures.ok in
    counts_now g.A.Ask.answers (c.args.self.now.terms, c.args.ask.now) read told.0 c.args.self.now.ready.bytes.items c.store_counts.new.ready.items is told.1 told.2 told.3
