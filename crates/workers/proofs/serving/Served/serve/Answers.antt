use Rattle.std.proofs.Common.{refl, sym}
use Rattle.slab.specs.Slab.{get, with_value}
use Rattle.workers.specs.declared.turn_end.TurnEnd.TheVariants.{Waits, Again}
use Rattle.workers.specs.Places.{Place}
use Rattle.workers.specs.Private.Serving.{Work, work_of}
use Rattle.workers.proofs.StepLemmas.{all_stay}
use Rattle.workers.proofs.ServingLemmas.{has_turn, missed_serves, on_ok_then, over_serves, turn_serves}
use Rattle.workers.proofs.serving.Served.serve.Goals as goal

pub returns-in_default : goal.returns-in_default
returns-in_default g c =
    λ ready closes.
    missed_serves g.A.Ask.answers c.args.worker.now.limits c.args.place ready (work_of c.args.self.now) (work_of c.args.self.now) c.args.ask.now.ask c.args.ask.now.ask
    (sym c.in_default.ensures.value, all_stay (get c.args.self.now.open), refl) refl refl

pub returns-in-Waits : goal.returns-in-Waits
returns-in-Waits g c =
    let slab = c.args.self.now.open in
    let behind : Place = c.turn-after.new.self in
    let had = c.turn-after.ensures in
    let turn = has_turn g.A.Ask.answers slab c.args.place c.args.is_closing c.turn-after.result c.in-Some.placed.now behind c.args.ask.now.ask c.turn-after.new.ask.ask (sym c.in-Some.ensures.value) had.turn had.reads_only had.silent had.age in
    let new : Work = record { places = get (with_value slab c.args.place behind); waiting = c.wait_no_more.new.waiting.items; kept = c.args.self.now.ends } in
    λ ready closes.
    turn_serves g.A.Ask.answers c.args.worker.now.limits c.args.place c.args.is_closing ready c.turn-after.result Waits (work_of c.args.self.now) new c.args.ask.now.ask c.turn-after.new.ask.ask
    refl c.in-Waits.is closes turn c.wait_no_more.ensures refl

pub returns-in_ok-push_back-in-Again : goal.returns-in_ok-push_back-in-Again
returns-in_ok-push_back-in-Again g c =
    let slab = c.args.self.now.open in
    let behind : Place = c.turn-after.new.self in
    let had = c.turn-after.ensures in
    let turn = has_turn g.A.Ask.answers slab c.args.place c.args.is_closing c.turn-after.result c.in-Some.placed.now behind c.args.ask.now.ask c.turn-after.new.ask.ask (sym c.in-Some.ensures.value) had.turn had.reads_only had.silent had.age in
    let new : Work = record { places = get (with_value slab c.args.place behind); waiting = c.push_back.new.self.items; kept = c.args.self.now.ends } in
    λ ready closes.
    turn_serves g.A.Ask.answers c.args.worker.now.limits c.args.place c.args.is_closing ready c.turn-after.result Again (work_of c.args.self.now) new c.args.ask.now.ask c.turn-after.new.ask.ask
    refl c.in-Again.is closes turn (rw c.wait_no_more.ensures at c.in_ok-push_back-in-Again.ensures.items) refl

pub returns-in-Over : goal.returns-in-Over
returns-in-Over g c =
    let slab = c.args.self.now.open in
    let behind : Place = c.turn-after.new.self in
    let had = c.turn-after.ensures in
    let turn = has_turn g.A.Ask.answers slab c.args.place c.args.is_closing c.turn-after.result c.in-Some.placed.now behind c.args.ask.now.ask c.turn-after.new.ask.ask (sym c.in-Some.ensures.value) had.turn had.reads_only had.silent had.age in
    let close = c.close.ensures in
    let mid : Work = record { places = get (with_value slab c.args.place behind); waiting = c.wait_no_more.new.waiting.items; kept = c.args.self.now.ends } in
    on_ok_then c.close.result (λ noted ready closes.
    over_serves g.A.Ask.answers c.args.worker.now.limits c.args.place c.args.is_closing ready c.turn-after.result c.in-Over.end (work_of c.args.self.now) mid (work_of c.close.new.self) c.args.ask.now.ask c.turn-after.new.ask.ask
    c.in-Over.is closes turn c.wait_no_more.ensures refl close.left close.others close.waits noted) close.noted
