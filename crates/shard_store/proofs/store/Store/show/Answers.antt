use Rattle.std.proofs.Common.{◌≡◌, rules, Some, refl, sym, ap, ◌∙◌, subst}
use Rattle.std.specs.Prelude.{Result, Ok, Err}
use Rattle.map_core.specs.declared.op.Op.TheVariants.{Get}
use Rattle.map_core.specs.declared.reply.Reply.{Reply}
use Rattle.map_core.specs.declared.reply.AskError.{AskError}
use Rattle.map_core.specs.PlainMap.{PlainMap, shard_of}
use Rattle.map_core.proofs.Shows.{shows_as}
use Rattle.shard_store.specs.Changes.{own_count}
use Rattle.shard_store.specs.Numbers.{IsPart}
use Rattle.shard_store.specs.Promise.{StoreAnswer}
use Rattle.shard_store.specs.Private.Seat.{ShardAnswer}
use Rattle.shard_store.proofs.Asked.{shard_answers}
use Rattle.shard_store.proofs.AtTable.{all_at_table, later_keeps, answer_keeps}
use Rattle.shard_store.proofs.LastAll.{all_later}
use Rattle.shard_store.proofs.Promise.{answered_since, refused_since}
use Rattle.shard_store.proofs.Shown.{get_at, shown_by_part, shown_error}
use Rattle.shard_store.proofs.store.Store.show.Goals as goal

-- by what was read last
pub invariant_of-pass : goal.invariant_of-pass
invariant_of-pass g c = let d = c.pass.inside.desk in let all = c.pass.inside.last_all in let look = c.recall.ensures in
    later_keeps c.args.self.now.id d.seat.me.0.seen (record { seat = c.recall.new.seat; last_reads = d.last_reads }) c.pass.inside.numbers all (look.looked.0, look.told) look.looked.1 c.pass.invariant.1
    (all_at_table _ _ d.seat.me.0.seen all (ap (λ p. p.store) c.pass.view_is ∙ c.requires.own) c.pass.invariant.2)

pub invariant_of-pass-in-Some : goal.invariant_of-pass-in-Some
invariant_of-pass-in-Some g c = let d = c.pass.inside.desk in let all = c.pass.inside.last_all in let look = c.recall.ensures in
    later_keeps c.args.self.now.id d.seat.me.0.seen (record { seat = c.recall.new.seat; last_reads = d.last_reads }) c.pass.inside.numbers all (look.looked.0, look.told) look.looked.1 c.pass.invariant.1
    (all_at_table _ _ d.seat.me.0.seen all (ap (λ p. p.store) c.pass.view_is ∙ c.requires.own) c.pass.invariant.2)

pub returns-in-Some-clause-shown : goal.returns-in-Some-clause-shown
returns-in-Some-clause-shown g c = let s = c.pass.inside.desk.seat.me.0.seen in let t = c.recall.new.seat.me.0.seen in let n = c.args.self.now.id.slots in let i = c.home-shard.result in let op = Get c.args.domain.now in
    let home : shard_of n op ≡ Some i = get_at n c.slot_count.result c.args.domain.now i (search rules) c.home-shard.ensures.shard in
    let shows_part : IsPart n i t.log c.deref.result.now = subst (λ (m : PlainMap). IsPart n i t.log m) (sym c.deref.ensures) c.in-Some.ensures.read.1 in
    shows_as g.V.Viewer.notes (λ (answer : Result Reply AskError). ShardAnswer n op s answer t) (λ (answer : Result Reply AskError). StoreAnswer c.args.self.now op c.args.pass.now.seen answer t)
    (g.V.Viewer.noted c.args.viewer.now) (Ok c.in_ok-show.field-0) (g.V.Viewer.noted c.show.new.viewer)
    (λ (answer : Result Reply AskError) (a : ShardAnswer n op s answer t). shard_answers answer c.args.self.now op s c.args.pass.now.seen t (ap (λ p. p.seen) c.pass.view_is) a)
    (shown_by_part n i op c.args.domain.now s t c.deref.result.now refl home c.recall.ensures.looked.1 shows_part g.V.Viewer.notes (g.V.Viewer.noted c.args.viewer.now) c.in_ok-show.field-0 (g.V.Viewer.noted c.show.new.viewer) c.in_ok-show.ensures)

-- by a hold
pub get_name-requires-clause-home : goal.get_name-requires-clause-home
get_name-requires-clause-home g c = (search rules, get_at _ _ c.args.domain.now c.home-shard.result (search rules) c.home-shard.ensures.shard)

pub invariant_of-pass-in_err-reply : goal.invariant_of-pass-in_err-reply
invariant_of-pass-in_err-reply g c = let s = c.pass.inside.desk.seat.me.0.seen in let t = c.recall.new.seat.me.0.seen in let all = c.pass.inside.last_all in let l = c.recall.ensures.looked.1 in
    answer_keeps c.args.self.now.id (Get c.args.domain.now) t c.get_name.result c.get_name.new.desk c.pass.inside.numbers all c.get_name.ensures.ready c.get_name.ensures.answer (ap own_count l.1 ∙ c.pass.invariant.1)
    (all_later _ s t all l (all_at_table _ _ s all (ap (λ p. p.store) c.pass.view_is ∙ c.requires.own) c.pass.invariant.2))

pub returns-in_err-reply-clause-shown : goal.returns-in_err-reply-clause-shown
returns-in_err-reply-clause-shown g c = let s = c.pass.inside.desk.seat.me.0.seen in let t = c.recall.new.seat.me.0.seen in let u = c.get_name.new.desk.seat.me.0.seen in let op = Get c.args.domain.now in let e = c.in_err-reply.field-0.0 in
    shown_error g.V.Viewer.notes (λ (answer : Result Reply AskError). StoreAnswer c.args.self.now op c.args.pass.now.seen answer u) (g.V.Viewer.noted c.args.viewer.now) c.from_residual-in_err-reply.result (g.V.Viewer.noted c.args.viewer.now) e c.from_residual-in_err-reply.ensures.1
    (shard_answers (Err e) c.args.self.now op s c.args.pass.now.seen u (ap (λ p. p.seen) c.pass.view_is) (refused_since _ op s t u e c.recall.ensures.looked.1 c.in_err-reply.ensures.answer)) refl

pub invariant_of-pass-2 : goal.invariant_of-pass-2
invariant_of-pass-2 g c = let s = c.pass.inside.desk.seat.me.0.seen in let t = c.recall.new.seat.me.0.seen in let all = c.pass.inside.last_all in let l = c.recall.ensures.looked.1 in
    answer_keeps c.args.self.now.id (Get c.args.domain.now) t c.get_name.result c.get_name.new.desk c.pass.inside.numbers all c.get_name.ensures.ready c.get_name.ensures.answer (ap own_count l.1 ∙ c.pass.invariant.1)
    (all_later _ s t all l (all_at_table _ _ s all (ap (λ p. p.store) c.pass.view_is ∙ c.requires.own) c.pass.invariant.2))

pub returns-clause-shown : goal.returns-clause-shown
returns-clause-shown g c = let s = c.pass.inside.desk.seat.me.0.seen in let t = c.recall.new.seat.me.0.seen in let u = c.get_name.new.desk.seat.me.0.seen in let op = Get c.args.domain.now in let reply = c.in_ok-reply.reply in
    (shard_answers (Ok reply) c.args.self.now op s c.args.pass.now.seen u (ap (λ p. p.seen) c.pass.view_is) (answered_since op s t u reply c.recall.ensures.looked.1 c.in_ok-reply.ensures.answer), refl)
