use Rattle.std.proofs.Common.{ℕ, List, refl, ap, subst, inl, inr}
use Rattle.wire.specs.Output.{End, end_of}
use Rattle.server.specs.Saving.{IsUnknown}
use Rattle.server.specs.Serve.{SetUpRun}
use Rattle.server.specs.Serving.{ServedInTurn, most_taken, most_turns}
use Rattle.server.proofs.Keeping.{unknown_kept}
use Rattle.bundled.proofs.serving.serve.serve_in_turn.Goals as goal

pub returns : goal.returns
returns g c =
    let same = ap (end_of g.E.Write.contents) c.in-Ok.ensures.ok in
    let settings = c.args.begun.serving.settings in
    let set_up = c.args.begun.set_up in
    let run : End → (List ℕ → Type 0) → Type 0 = λ old Kept. SetUpRun Kept (ServedInTurn (most_taken settings.connections) (most_turns settings.turns)) set_up.store set_up.passes.items c.serve_on.result
    (end_of g.W.Write.contents c.args.out.now) (end_of g.W.Write.contents c.serve_on.new.out) old (end_of g.E.Write.contents c.serve_on.new.err) in
    subst (λ (old : End). run old IsUnknown) same (unknown_kept (run (end_of g.E.Write.contents c.listener_or_told.new.err)) c.args.begun.keeper c.serve_on.ensures)

pub returns-in-Err : goal.returns-in-Err
returns-in-Err g c = inr (inl (c.in-Err.ensures.status, refl, c.in-Err.ensures.tells))
