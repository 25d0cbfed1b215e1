use Rattle.std.proofs.Common.{◌≡◌, ℕ, List, Option, Some, refl, ap, ◌∙◌}
use Rattle.map_core.specs.declared.reply.AskError.TheVariants.{Memory}
use Rattle.map_core.specs.PlainMap.{bundles}
use Rattle.map_core.specs.Table.{fetched}
use Rattle.shard_store.specs.Changes.{after}
use Rattle.shard_store.proofs.Asked.{any_fetch, any_refused}
use Rattle.shard_store.proofs.Changes.{extends_none}
use Rattle.shard_store.proofs.LastAll.{all_later, fetched_later, kept_all, refused_all_since, was_all}
use Rattle.shard_store.proofs.LastReads.{reads_later, some_there}
use Rattle.shard_store.proofs.Promise.{answered_since, error_passed, later_then}
use Rattle.shard_store.proofs.Readings.{all_answered}
use Rattle.shard_store.proofs.store.Store.ask_all.Goals as goal

pub returns-in-Some-clause-ready : goal.returns-in-Some-clause-ready
returns-in-Some-clause-ready c = let look = c.recall_all.ensures.looked in (look.0, reads_later _ c.args.desk.now.seat.me.0.seen c.recall_all.new.seat.me.0.seen _ look.1 c.requires.ready.1)

pub returns-in-Some-clause-all : goal.returns-in-Some-clause-all
returns-in-Some-clause-all c = all_later _ c.args.desk.now.seat.me.0.seen c.recall_all.new.seat.me.0.seen _ c.recall_all.ensures.looked.1 c.recall_all.ensures.kept

pub returns-in-Some-clause-answer : goal.returns-in-Some-clause-answer
returns-in-Some-clause-answer c = let s = c.args.desk.now.seat.me.0.seen in let t = c.recall_all.new.seat.me.0.seen in let l = c.recall_all.ensures.looked.1 in let all = bundles (after s.log) in
    any_fetch c.args.self.now.id.slots c.args.op.now s t all c.in-Some.recalled c.requires.each
    (some_there c.in_ok-recalled.field-0 c.in-Some.recalled (λ reply. reply ≡ fetched c.known-known.result all) c.in-Some.is c.in_ok-recalled.ensures.reply ∙ ap (λ (k : Option (List ℕ)). fetched k all) c.known-known.ensures)
    (all_answered s t s.log all (extends_none s) l.0 l.1 refl)

pub returns-in_err-recalled-clause-ready : goal.returns-in_err-recalled-clause-ready
returns-in_err-recalled-clause-ready c = let look = c.recall_all.ensures.looked in (look.0, reads_later _ c.args.desk.now.seat.me.0.seen c.recall_all.new.seat.me.0.seen _ look.1 c.requires.ready.1)

pub returns-in_err-recalled-clause-all : goal.returns-in_err-recalled-clause-all
returns-in_err-recalled-clause-all c = all_later _ c.args.desk.now.seat.me.0.seen c.recall_all.new.seat.me.0.seen _ c.recall_all.ensures.looked.1 c.recall_all.ensures.kept

pub returns-in_err-recalled-clause-answer : goal.returns-in_err-recalled-clause-answer
returns-in_err-recalled-clause-answer c = error_passed c.from_residual.result Memory _ _ c.from_residual.ensures.1 c.recall_all.ensures.looked.1

pub reply-requires : goal.reply-requires
reply-requires c = c.in_ok-last.ensures.answer.1.5

pub returns-in_err-reply-clause-answer : goal.returns-in_err-reply-clause-answer
returns-in_err-reply-clause-answer c = let t = c.recall_all.new.seat.me.0.seen in let u = c.fetch_anew.new.desk.seat.me.0.seen in
    error_passed c.from_residual-in_err-reply.result Memory _ _ c.from_residual-in_err-reply.ensures.1
    (later_then c.args.desk.now.seat.me.0.seen t u c.recall_all.ensures.looked.1 (fetched_later _ t u c.in_ok-last.last c.in_ok-last.ensures.answer))

pub fetch_anew-requires : goal.fetch_anew-requires
fetch_anew-requires c = let look = c.recall_all.ensures.looked in record { ready = (look.0, reads_later _ c.args.desk.now.seat.me.0.seen c.recall_all.new.seat.me.0.seen _ look.1 c.requires.ready.1) }

pub returns-in_err-last-clause-answer : goal.returns-in_err-last-clause-answer
returns-in_err-last-clause-answer c = let e = c.in_err-last.field-0.0 in
    error_passed c.from_residual-in_err-last.result e _ _ c.from_residual-in_err-last.ensures.1
    (any_refused c.args.self.now c.args.op.now c.args.desk.now.seat.me.0.seen c.fetch_anew.new.desk.seat.me.0.seen e c.requires.each
    (refused_all_since c.args.self.now c.args.desk.now.seat.me.0.seen c.recall_all.new.seat.me.0.seen c.fetch_anew.new.desk.seat.me.0.seen e c.recall_all.ensures.looked.1 c.in_err-last.ensures.answer))

pub returns-clause-all : goal.returns-clause-all
returns-clause-all c = let n = c.args.self.now.id.slots in let u = c.fetch_anew.new.desk.seat.me.0.seen in let last = c.reply.new.self in
    kept_all n u.log (Some last) last refl (was_all n u.log c.in_ok-last.last last c.reply.ensures.revisions c.reply.ensures.all c.reply.ensures.digest c.in_ok-last.ensures.answer.1)

pub returns-clause-answer : goal.returns-clause-answer
returns-clause-answer c = let s = c.args.desk.now.seat.me.0.seen in let t = c.recall_all.new.seat.me.0.seen in let u = c.fetch_anew.new.desk.seat.me.0.seen in let all = c.in_ok-last.last.all in
    answered_since c.args.op.now s t u c.in_ok-reply.reply c.recall_all.ensures.looked.1
    (any_fetch c.args.self.now.id.slots c.args.op.now t u all c.in_ok-reply.reply c.requires.each (c.in_ok-reply.ensures.reply ∙ ap (λ (k : Option (List ℕ)). fetched k all) c.known-known.ensures) c.in_ok-last.ensures.answer.0)
