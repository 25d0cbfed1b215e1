use Rattle.std.proofs.Common.{ℕ, [], true, refl, subst, sym, arith, inl, inr, option_map}
use Rattle.workers.specs.Closing.{AreAll}
use Rattle.server.specs.Saving.{Keeps}
use Rattle.server.specs.Serve.{always_open, Reports}
use Rattle.commands.specs.Fault.{fault_line}
use Rattle.commands.specs.declared.fault.Fault.TheVariants.{Front}
use Rattle.wire.specs.Output.{TellsUnlessFailed, end_of}
use Rattle.wire.specs.declared.error.FrontError.TheVariants.{Memory}
use Rattle.workers.proofs.WorkedLists.{all_own, all_long, ranges_same}
use Rattle.server.specs.Serving.{patience}
use Rattle.server.proofs.serving.lasting.serve_at.Goals as goal

pub report-requires-clause-some : goal.report-requires-clause-some
report-requires-clause-some g c =
    omega (arith, all_long always_open (patience c.args.task.lasting) c.args.task.settings.turns c.args.task.set_up.store 0 c.args.task.set_up.passes.items c.in-Ok-run_all.worked.items c.in-Ok-run_all.ensures.served, c.requires.workers, c.args.task.settings.some.0, c.in-Ok-run_all.worked.ok)

pub report-requires-clause-own : goal.report-requires-clause-own
report-requires-clause-own g c = all_own always_open (patience c.args.task.lasting) c.args.task.settings.turns c.args.task.set_up.store 0 c.args.task.set_up.passes.items c.in-Ok-run_all.worked.items c.in-Ok-run_all.ensures.served

pub report-requires-clause-all : goal.report-requires-clause-all
report-requires-clause-all g c =
    subst AreAll (sym (ranges_same always_open (patience c.args.task.lasting) c.args.task.settings.turns c.args.task.set_up.store 0 c.args.task.set_up.passes.items c.in-Ok-run_all.worked.items c.in-Ok-run_all.ensures.served)) c.requires.all

pub returns-in-Ok-run_all-clause-run : goal.returns-in-Ok-run_all-clause-run
returns-in-Ok-run_all-clause-run g c =
    let before = c.faults-before.ensures in
    inr (inr (
      c.addresses.result.0.now,
      record {
        reads = option_map (λ address. address.now) c.addresses.result.1;
        taken = true;
        out = end_of g.W.Write.contents c.say.new.out;
        error = end_of g.E.Write.contents c.say.new.err;
        listening = c.if-not-say.ensures.offered;
        tells = subst (λ (b : ℕ). TellsUnlessFailed b (end_of g.E.Write.contents c.args.err.now) (end_of g.E.Write.contents c.say.new.err) []) before c.if-not-say.ensures.tells;
        serves = inr (
          c.in-Ok-run_all.worked.items,
          c.in-Ok-run_all.ensures.served,
          subst (λ (b : ℕ). Reports (Keeps g.K.Keeper.keeps c.args.task.keeper) c.in-Ok-run_all.worked.items b c.report.result (end_of g.W.Write.contents c.say.new.out) (end_of g.W.Write.contents c.report.new.out)
              (end_of g.E.Write.contents c.say.new.err) (end_of g.E.Write.contents c.report.new.err)) before c.report.ensures,
        );
      },
    ))

pub returns-in-Err-clause-run : goal.returns-in-Err-clause-run
returns-in-Err-clause-run g c =
    let before = c.faults-before.ensures in
    inr (inr (
      c.addresses.result.0.now,
      record {
        reads = option_map (λ address. address.now) c.addresses.result.1;
        taken = true;
        out = end_of g.W.Write.contents c.say.new.out;
        error = end_of g.E.Write.contents c.say.new.err;
        listening = c.if-not-say.ensures.offered;
        tells = subst (λ (b : ℕ). TellsUnlessFailed b (end_of g.E.Write.contents c.args.err.now) (end_of g.E.Write.contents c.say.new.err) []) before c.if-not-say.ensures.tells;
        serves = inl (
          refl,
          refl,
          subst (λ (b : ℕ). TellsUnlessFailed b (end_of g.E.Write.contents c.say.new.err) (end_of g.E.Write.contents c.tell_unless_failed.new.err) (fault_line (Front Memory)))
              before c.tell_unless_failed.ensures,
        );
      },
    ))

pub returns-in_default-clause-run : goal.returns-in_default-clause-run
returns-in_default-clause-run g c = inl (c.tell.ensures.status, refl, inl c.tell.ensures.tells)

pub returns-then-not-can_make_thread-clause-run : goal.returns-then-not-can_make_thread-clause-run
returns-then-not-can_make_thread-clause-run g c = inr (inl (c.tell_in_words.ensures.status, refl, c.tell_in_words.ensures.tells))
