use Rattle.std.proofs.Common.{◌≡◌, ℕ, List, [], true, false, All, refl, subst, sym, ap, ◌∙◌, arith, inl, inr}
use Rattle.std.specs.Prelude.{None, length}
use Rattle.std.specs.List.{flat_map}
use Rattle.std.proofs.lemmas.List.{length-map}
use Rattle.shard_store.specs.Pass.{IsOf}
use Rattle.workers.specs.Closing.{AreAll}
use Rattle.workers.specs.Run.{kept}
use Rattle.workers.specs.declared.ended.Worked.{Worked}
use Rattle.workers.proofs.FinishedLists.{all_long, all_own, kept_own, kept_ranges, ranges_same}
use Rattle.server.specs.Saving.{Keeps}
use Rattle.server.specs.Serve.{always_open, write_fault, Reports}
use Rattle.commands.specs.Fault.{fault_line}
use Rattle.commands.specs.declared.fault.Fault.TheVariants.{Front}
use Rattle.wire.specs.Output.{TellsUnlessFailed, end_of}
use Rattle.wire.specs.declared.error.FrontError.TheVariants.{Memory}
use Rattle.server.specs.Serving.{ClientComes, EndsClient, unknown}
use Rattle.server.proofs.serving.blocking.serve_on.Goals as goal

pub report-requires-clause-some : goal.report-requires-clause-some
report-requires-clause-some g c =
    let ran = c.in-Ok-run_in_turn.ensures in
    let long = all_long always_open unknown unknown EndsClient ClientComes c.args.task.set_up.store 0 c.args.task.set_up.passes.items c.in-Ok.clients.items ran.0 ran.1 in
    omega (arith, ap length ran.2, length-map ran.0 kept, long, c.requires.workers, c.args.task.settings.some.0, c.in-Ok-run_in_turn.worked.ok)

pub report-requires-clause-own : goal.report-requires-clause-own
report-requires-clause-own g c =
    let ran = c.in-Ok-run_in_turn.ensures in
    let store = c.args.task.set_up.store in
    let own = all_own always_open unknown unknown EndsClient ClientComes store 0 c.args.task.set_up.passes.items c.in-Ok.clients.items ran.0 ran.1 in
    subst (λ (worked : List Worked). All (λ w. IsOf w.pass store) worked) (sym ran.2) (kept_own store ran.0 own)

pub report-requires-clause-all : goal.report-requires-clause-all
report-requires-clause-all g c =
    let ran = c.in-Ok-run_in_turn.ensures in
    let ranges : List Worked → List (ℕ × ℕ) = λ worked. flat_map (λ (w : Worked). w.pass.seen.ranges) worked in
    let same = ranges_same always_open unknown unknown EndsClient ClientComes c.args.task.set_up.store 0 c.args.task.set_up.passes.items c.in-Ok.clients.items ran.0 ran.1 in
    subst AreAll (sym (ap ranges ran.2 ∙ (kept_ranges ran.0 ∙ same))) c.requires.all

pub returns-in-Ok-run_in_turn : goal.returns-in-Ok-run_in_turn
returns-in-Ok-run_in_turn g c =
    let before = c.faults-before.ensures in
    let ran = c.in-Ok-run_in_turn.ensures in
    let worked = c.in-Ok-run_in_turn.worked.items in
    inr (inr (
      c.in-Ok-address.address,
      record {
        reads = None;
        taken = true;
        out = end_of g.W.Write.contents c.say.new.out;
        error = end_of g.E.Write.contents c.say.new.err;
        listening = c.if-not-say.ensures.offered;
        tells = subst (λ (b : ℕ). TellsUnlessFailed b (end_of g.E.Write.contents c.args.err.now) (end_of g.E.Write.contents c.say.new.err) []) before c.if-not-say.ensures.tells;
        serves = inr (
          worked,
          (c.in-Ok.clients.items, ran.0, c.in-Ok.ensures.may, ran.1, ran.2),
          subst (λ (b : ℕ). Reports (Keeps g.K.Keeper.keeps c.args.task.keeper) worked b c.report.result (end_of g.W.Write.contents c.say.new.out) (end_of g.W.Write.contents c.report.new.out)
              (end_of g.E.Write.contents c.say.new.err) (end_of g.E.Write.contents c.report.new.err)) before c.report.ensures,
        );
      },
    ))

pub returns-then-not-say : goal.returns-then-not-say
returns-then-not-say g c =
    let before = c.faults-before.ensures in
    inr (inr (
      c.in-Ok-address.address,
      record {
        reads = None;
        taken = false;
        out = end_of g.W.Write.contents c.say.new.out;
        error = end_of g.E.Write.contents c.say.new.err;
        listening = c.if-not-say.ensures.offered;
        tells = subst (λ (b : ℕ). TellsUnlessFailed b (end_of g.E.Write.contents c.args.err.now) (end_of g.E.Write.contents c.say.new.err) (write_fault false)) before
            c.if-not-say.ensures.tells;
        serves = (refl, refl, refl);
      },
    ))

pub returns-in-Err : goal.returns-in-Err
returns-in-Err g c =
    let before = c.faults-before.ensures in
    inr (inr (
      c.in-Ok-address.address,
      record {
        reads = None;
        taken = true;
        out = end_of g.W.Write.contents c.say.new.out;
        error = end_of g.E.Write.contents c.say.new.err;
        listening = c.if-not-say.ensures.offered;
        tells = subst (λ (b : ℕ). TellsUnlessFailed b (end_of g.E.Write.contents c.args.err.now) (end_of g.E.Write.contents c.say.new.err) []) before c.if-not-say.ensures.tells;
        serves = inl (
          refl,
          refl,
          subst (λ (b : ℕ). TellsUnlessFailed b (end_of g.E.Write.contents c.say.new.err) (end_of g.E.Write.contents c.tell_unless_failed.new.err) (fault_line (Front Memory)))
              before c.tell_unless_failed.ensures,
        );
      },
    ))
