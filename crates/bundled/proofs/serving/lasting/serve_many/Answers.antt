use Rattle.std.proofs.Common.{◌≡◌, ℕ, List, inl, inr, refl, ap, subst}
use Rattle.std.specs.Prelude.{◌⊎◌}
use Rattle.wire.specs.Output.{End, end_of}
use Rattle.commands.specs.declared.fault.Fault.TheVariants.{Front, Listen}
use Rattle.wire.specs.declared.error.FrontError.TheVariants.{Memory}
use Rattle.shard_store.specs.Pass.{StoreView, PassView}
use Rattle.server.specs.Saving.{IsUnknown}
use Rattle.server.specs.Serve.{SetUpRun, TellsFault}
use Rattle.server.proofs.Keeping.{unknown_kept}
use Rattle.workers.specs.declared.ended.Worked.{Worked}
use Rattle.server.specs.Serving.{ServedBeside}
use Rattle.bundled.proofs.serving.lasting.serve_many.Goals as goal

-- what the workers wait with can't be had, which is told
unwatched : (Served : StoreView → List PassView → List Worked → Type 0) (store : StoreView) (passes : List PassView) (status : ℕ) (out err_old err_new : End)
    → status ≡ 1 → TellsFault Listen err_old err_new ⊎ TellsFault (Front Memory) err_old err_new
    → SetUpRun IsUnknown Served store passes status out out err_old err_new
unwatched Served store passes status out err_old err_new one (inl listen) = inr (inl (one, refl, listen))
unwatched Served store passes status out err_old err_new one (inr memory) = inl (one, refl, memory)

pub returns-in-Err-clause-run : goal.returns-in-Err-clause-run
returns-in-Err-clause-run g c = inr (inl (c.in-Err.ensures.status, refl, c.in-Err.ensures.tells))

pub returns-in-Err-waits_of-clause-run : goal.returns-in-Err-waits_of-clause-run
returns-in-Err-waits_of-clause-run g c =
    let same = ap (end_of g.E.Write.contents) c.in-Ok.ensures.ok in
    let out = end_of g.W.Write.contents c.args.out.now in
    let at = c.args.at in
    let served = ServedBeside at.lasting at.settings.turns in
    let run : End → Type 0 = λ old. SetUpRun IsUnknown served at.set_up.store at.set_up.passes.items c.tell_early.result out out old (end_of g.E.Write.contents c.tell_early.new.err) in
    subst run same (unwatched served at.set_up.store at.set_up.passes.items _ _ _ _ c.tell_early.ensures.status c.tell_early.ensures.tells)

pub returns-clause-run : goal.returns-clause-run
returns-clause-run g c =
    let same = ap (end_of g.E.Write.contents) c.in-Ok.ensures.ok in
    let at = c.args.at in
    let run : End → (List ℕ → Type 0) → Type 0 = λ old Kept. SetUpRun Kept (ServedBeside at.lasting at.settings.turns) at.set_up.store at.set_up.passes.items c.serve_at.result
    (end_of g.W.Write.contents c.args.out.now) (end_of g.W.Write.contents c.serve_at.new.out) old (end_of g.E.Write.contents c.serve_at.new.err) in
    subst (λ (old : End). run old IsUnknown) same (unknown_kept (run (end_of g.E.Write.contents c.ports_or_told.new.err)) at.keeper c.serve_at.ensures.run)
