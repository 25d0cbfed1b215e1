use Rattle.std.proofs.Common.{refl, subst}
use Rattle.workers.specs.AtPort.{PortAnswer}
use Rattle.workers.specs.Connection.{Turn, told, turn_rounds}
use Rattle.workers.specs.Places.{Place}
use Rattle.workers.proofs.ServingLemmas.{turn_behind}
use Rattle.workers.proofs.serving.OpenConnection.turn.Goals as goal
use Rattle.workers.proofs.serving.OpenConnection.turn.Goals.{then-had_replies, else-had_replies+then-not-had_begun, else-had_replies+else-not-had_begun}

pub returns-clause-turn : goal.returns-clause-turn
returns-clause-turn g c =
    let turn = subst (λ (p : Place). Turn turn_rounds (PortAnswer g.A.Ask.answers p.reads_only) c.turn-after.result (told c.args.is_closing p.connection) c.turn-after.new.self c.args.ask.now.ask c.turn-after.new.ask.ask) c.self.view_is
    (turn_behind g.A.Ask.answers turn_rounds c.turn-after.result (told c.args.is_closing c.self.inside.connection) c.turn-after.new.self c.self.inside.reads_only _ c.turn-after.new.ask refl c.turn-after.ensures) in
    elim c.if-had_replies.branch [
      | then-had_replies w ↦ rw w.self-inside-is turn
      | else-had_replies+then-not-had_begun w ↦ rw w.self-inside-is turn
      | else-had_replies+else-not-had_begun w ↦ rw w.self-inside-is turn
    ]
