use Rattle.std.proofs.Common.{◌≡◌, ℕ, List, subst, sym}
use Rattle.command_line.specs.declared.settings.Connections.{Connections}
use Rattle.command_line.specs.declared.settings.Connections.TheVariants.{Each, Unlimited}
use Rattle.command_line.specs.declared.settings.Lasting.{Lasting}
use Rattle.wire.specs.Output.{end_of}
use Rattle.server.specs.Saving.{IsUnknown}
use Rattle.server.specs.Serve.{SetUpRun}
use Rattle.shard_store.specs.Pass.{StoreView, PassView}
use Rattle.workers.specs.declared.ended.Worked.{Worked}
use Rattle.server.specs.Serving.{ServedBeside, ServedInTurn, most_taken, most_turns}
use Rattle.bundled.specs.Serve.{ServedAs}
use Rattle.bundled.proofs.serving.serve.serve_as.Goals as goal

-- what is said of the form with a number of clients is said of these connections
in_turn : (P : (StoreView → List PassView → List Worked → Type 0) → Type 0) (connections : Connections) (turns count : ℕ) → connections ≡ Each count
    → P (ServedInTurn (most_taken connections) (most_turns turns)) → P (ServedAs connections turns)
in_turn P connections turns count is =
    subst (λ (c : Connections). P (ServedInTurn (most_taken c) (most_turns turns)) → P (ServedAs c turns)) (sym is) (λ said. said)

-- the same of the form that lasts
beside : (P : (StoreView → List PassView → List Worked → Type 0) → Type 0) (connections : Connections) (turns : ℕ) (lasting : Lasting) → connections ≡ Unlimited lasting
    → P (ServedBeside lasting turns) → P (ServedAs connections turns)
beside P connections turns lasting is =
    subst (λ (c : Connections). P (ServedBeside lasting turns) → P (ServedAs c turns)) (sym is) (λ said. said)

pub returns-in-Each-clause-run : goal.returns-in-Each-clause-run
returns-in-Each-clause-run g c =
    let settings = c.args.begun.serving.settings in
    let set_up = c.args.begun.set_up in
    let run : (StoreView → List PassView → List Worked → Type 0) → Type 0 = λ served.
    SetUpRun IsUnknown served set_up.store set_up.passes.items c.serve_in_turn.result (end_of g.W.Write.contents c.args.out.now) (end_of g.W.Write.contents c.serve_in_turn.new.out)
    (end_of g.E.Write.contents c.args.err.now) (end_of g.E.Write.contents c.serve_in_turn.new.err) in
    in_turn run settings.connections settings.turns c.in-Each.field-0 c.in-Each.is c.serve_in_turn.ensures

pub returns-in-Unlimited-clause-run : goal.returns-in-Unlimited-clause-run
returns-in-Unlimited-clause-run g c =
    let settings = c.args.begun.serving.settings in
    let set_up = c.args.begun.set_up in
    let run : (StoreView → List PassView → List Worked → Type 0) → Type 0 = λ served.
    SetUpRun IsUnknown served set_up.store set_up.passes.items c.serve_many.result (end_of g.W.Write.contents c.args.out.now) (end_of g.W.Write.contents c.serve_many.new.out)
    (end_of g.E.Write.contents c.args.err.now) (end_of g.E.Write.contents c.serve_many.new.err) in
    beside run settings.connections settings.turns c.in-Unlimited.lasting c.in-Unlimited.is c.serve_many.ensures.run
