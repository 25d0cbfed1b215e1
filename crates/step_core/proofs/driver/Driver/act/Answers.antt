use Rattle.std.proofs.Common.{◌≡◌, ℕ, Result, OnOk, sym, subst}
use Rattle.std.specs.declared.alloc.AllocError.{AllocError}
use Rattle.step_core.specs.declared.event.Event.{Event}
use Rattle.step_core.specs.declared.driver.Driver.{Driver}
use Rattle.step_core.specs.Run.{Run, act}
use Rattle.step_core.specs.Private.Shown.{IsShown}
use Rattle.step_core.proofs.driver.Driver.act.Goals as goal

same_event : (r : Result (Unit {0}) AllocError) (old new : Driver) (now : ℕ) (a b : Event) → a ≡ b → OnOk r ((n rounds : ℕ) (run : Run) → run.events ≡ now → IsShown n rounds old run → IsShown n rounds new (act n rounds run b)) → OnOk r ((n rounds : ℕ) (run : Run) → run.events ≡ now → IsShown n rounds old run → IsShown n rounds new (act n rounds run a))
same_event r old new now a b is h = subst (λ (e : Event). OnOk r ((n rounds : ℕ) (run : Run) → run.events ≡ now → IsShown n rounds old run → IsShown n rounds new (act n rounds run e))) (sym is) h

pub returns-in-Begin-clause-acts : goal.returns-in-Begin-clause-acts
returns-in-Begin-clause-acts c = same_event c.begin.result c.args.self.now c.begin.new.self c.args.now _ _ c.in-Begin.is c.begin.ensures.acts

pub returns-in-Quit-clause-acts : goal.returns-in-Quit-clause-acts
returns-in-Quit-clause-acts c = same_event c.quit.result c.args.self.now c.quit.new.self c.args.now _ _ c.in-Quit.is c.quit.ensures.acts
