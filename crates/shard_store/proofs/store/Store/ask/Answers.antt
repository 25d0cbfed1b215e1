use Rattle.std.proofs.Common.{◌≡◌, rules, sym, ap, ◌∙◌, subst}
use Rattle.map_core.specs.PlainMap.{shard_of}
use Rattle.shard_store.specs.declared.tally.Tally.{Tally}
use Rattle.shard_store.specs.Tally.{CountsAnswer}
use Rattle.shard_store.proofs.Shifts.{all_counts_nothing}
use Rattle.shard_store.proofs.Asked.{shard_answers, all_answers}
use Rattle.shard_store.proofs.AtTable.{ready_at, all_at_table, answer_keeps}
use Rattle.shard_store.proofs.store.Store.ask.Goals as goal

-- an operation on one name
pub ask_name-answer-requires-clause-ready : goal.ask_name-answer-requires-clause-ready
ask_name-answer-requires-clause-ready c = ready_at _ _ c.pass.inside.desk (ap (λ p. p.store) c.pass.view_is ∙ c.requires.own) c.pass.invariant.0

pub invariant_of-pass : goal.invariant_of-pass
invariant_of-pass c = let s = c.pass.inside.desk.seat.me.0.seen in let all = c.pass.inside.last_all in let answered = c.ask_name-answer.ensures in
    answer_keeps c.args.self.now.id c.args.op s c.ask_name-answer.result c.ask_name-answer.new.desk c.pass.inside.numbers all answered.ready answered.answer c.pass.invariant.1
    (all_at_table _ _ s all (ap (λ p. p.store) c.pass.view_is ∙ c.requires.own) c.pass.invariant.2)

pub returns-in-Some-clause-answer : goal.returns-in-Some-clause-answer
returns-in-Some-clause-answer c = shard_answers c.ask_name-answer.result c.args.self.now c.args.op _ _ c.ask_name-answer.new.desk.seat.me.0.seen (ap (λ p. p.seen) c.pass.view_is) c.ask_name-answer.ensures.answer

-- an operation on all names
pub ask_all-answer-requires-clause-each : goal.ask_all-answer-requires-clause-each
ask_all-answer-requires-clause-each c = let size : c.slot_count.result ≡ c.args.self.now.id.slots = search rules in
    ap (λ k. shard_of k c.args.op) (sym size) ∙ sym c.in-None.ensures.shard

pub ask_all-answer-requires-clause-ready : goal.ask_all-answer-requires-clause-ready
ask_all-answer-requires-clause-ready c = ready_at _ _ c.pass.inside.desk (ap (λ p. p.store) c.pass.view_is ∙ c.requires.own) c.pass.invariant.0

pub ask_all-answer-requires-clause-all : goal.ask_all-answer-requires-clause-all
ask_all-answer-requires-clause-all c = all_at_table _ _ c.pass.inside.desk.seat.me.0.seen c.pass.inside.last_all (ap (λ p. p.store) c.pass.view_is ∙ c.requires.own) c.pass.invariant.2

pub returns-in-None-clause-answer : goal.returns-in-None-clause-answer
returns-in-None-clause-answer c = all_answers c.ask_all-answer.result c.args.self.now c.args.op _ _ c.ask_all-answer.new.desk.seat.me.0.seen (ap (λ p. p.seen) c.pass.view_is) c.ask_all-answer.ensures.answer

pub returns-in-None-clause-counted : goal.returns-in-None-clause-counted
returns-in-None-clause-counted c = let size : c.slot_count.result ≡ c.args.self.now.id.slots = search rules in let t = c.ask_all-answer.new.desk.seat.me.0.seen in
    subst (λ (u : Tally). CountsAnswer c.ask_all-answer.result t.log u c.pass.inside.tally) (ap (λ p. p.tally) c.pass.view_is)
    (all_counts_nothing c.ask_all-answer.result c.args.self.now c.args.op _ t c.pass.inside.tally (ap (λ k. shard_of k c.args.op) (sym size) ∙ sym c.in-None.ensures.shard) c.ask_all-answer.ensures.answer)
