use Rattle.std.proofs.Common.{◌≡◌, Bool, true, false, refl}
use Rattle.std.specs.Prelude.{Result}
use Rattle.map_core.specs.Name.{Name}
use Rattle.map_core.specs.declared.op.Op.{Op}
use Rattle.map_core.specs.declared.op.Op.TheVariants.{Get}
use Rattle.map_core.specs.declared.reply.Reply.{Reply}
use Rattle.map_core.specs.declared.reply.AskError.{AskError}
use Rattle.map_core.proofs.Shows.{shows_as}
use Rattle.workers.specs.AtPort.{PortAnswer}
use Rattle.workers.proofs.at_port.AtPortAsk.show_get.Goals as goal

at_port : {S : Type 0} (answers : S → Op → Result Reply AskError → S → Type 0) (reads_only : Bool) (old : S) (d : Name) (answer : Result Reply AskError) (new : S) → answers old (Get d) answer new → PortAnswer answers reads_only old (Get d) answer new
at_port answers true old d answer new asked = asked
at_port answers false old d answer new asked = asked

pub returns : goal.returns
returns g c =
    record {
      shown = shows_as g.V.Viewer.notes (λ (answer : Result Reply AskError). g.A.Ask.answers c.args.self.now.ask (Get c.args.domain) answer c.show_get.new.self)
          (λ (answer : Result Reply AskError). (c.args.self.now.reads_only ≡ c.args.self.now.reads_only) × PortAnswer g.A.Ask.answers c.args.self.now.reads_only c.args.self.now.ask (Get c.args.domain) answer c.show_get.new.self)
          (g.V.Viewer.noted c.args.viewer.now) c.show_get.result (g.V.Viewer.noted c.show_get.new.viewer)
          (λ (answer : Result Reply AskError) (asked : g.A.Ask.answers c.args.self.now.ask (Get c.args.domain) answer c.show_get.new.self).
          (refl, at_port g.A.Ask.answers c.args.self.now.reads_only c.args.self.now.ask c.args.domain answer c.show_get.new.self asked))
          c.show_get.ensures.shown;
    }
