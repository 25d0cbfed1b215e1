use Rattle.std.proofs.Common.{◌≡◌, refl, sym, ap, ◌∙◌}
use Rattle.std.specs.Prelude.{Some}
use Rattle.std.specs.List.{AllByRecursion}
use Rattle.slab.specs.Slab.{get, with_value}
use Rattle.workers.specs.Places.{IsLast, Place}
use Rattle.workers.specs.Private.Serving.{Work, work_of}
use Rattle.workers.proofs.StepLemmas.{all_stay, serves_none, stay_then}
use Rattle.workers.proofs.ServingLemmas.{has_last_turn, last_ends, on_ok_then}
use Rattle.workers.proofs.serving.Served.end.Goals as goal

pub returns-in_default-clause-served : goal.returns-in_default-clause-served
returns-in_default-clause-served g c =
    serves_none g.A.Ask.answers c.args.worker.now.limits (AllByRecursion IsLast) (work_of c.args.self.now) (work_of c.args.self.now) c.args.ask.now.ask c.args.ask.now.ask
    tt (all_stay (get c.args.self.now.open)) refl refl refl

pub returns-clause-served : goal.returns-clause-served
returns-clause-served g c =
    let inside = c.placed.inside in
    let slab = c.args.self.now.open in
    let before : Place = record { connection = inside.connection; reads_only = inside.reads_only; silent = inside.silent; age = inside.age } in
    let behind : Place = record { connection = c.last_turn-end.new.self; reads_only = inside.reads_only; silent = inside.silent; age = inside.age } in
    let was : get slab c.args.place ≡ Some before = sym c.in-Some.ensures.value ∙ ap Some (sym c.placed.view_is) in
    let turn = has_last_turn g.A.Ask.answers slab c.args.place c.last_turn-end.result before behind.connection _ c.last_turn-end.new.ask was refl c.last_turn-end.ensures in
    let mid : Work = record { places = get (with_value slab c.args.place behind); waiting = c.args.self.now.waiting.items; kept = c.args.self.now.ends } in
    let close = c.close.ensures in
    on_ok_then c.close.result (λ noted.
    last_ends g.A.Ask.answers c.args.worker.now.limits c.args.place c.last_turn-end.result (work_of c.args.self.now) mid (work_of c.close.new.self) c.args.ask.now.ask c.last_turn-end.new.ask.ask
    turn refl refl close.left close.others close.waits noted) close.noted

pub returns-clause-others : goal.returns-clause-others
returns-clause-others g c =
    let inside = c.placed.inside in
    let slab = c.args.self.now.open in
    let before : Place = record { connection = inside.connection; reads_only = inside.reads_only; silent = inside.silent; age = inside.age } in
    let behind : Place = record { connection = c.last_turn-end.new.self; reads_only = inside.reads_only; silent = inside.silent; age = inside.age } in
    let was : get slab c.args.place ≡ Some before = sym c.in-Some.ensures.value ∙ ap Some (sym c.placed.view_is) in
    let turn = has_last_turn g.A.Ask.answers slab c.args.place c.last_turn-end.result before behind.connection _ c.last_turn-end.new.ask was refl c.last_turn-end.ensures in
    stay_then c.args.place (get slab) (get (with_value slab c.args.place behind)) (get c.close.new.self.open) turn.others c.close.ensures.others
