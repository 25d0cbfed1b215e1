use Rattle.std.proofs.Common.{sym, subst}
use Rattle.map_core.specs.Name.{Name}
use Rattle.map_core.specs.declared.op.Op.TheVariants.{Get}
use Rattle.map_core.specs.declared.reply.AskError.TheVariants.{Memory}
use Rattle.shard_store.specs.Private.Seat.{IsAtHome, ShardAnswer}
use Rattle.shard_store.proofs.Promise.{error_passed, later_self}
use Rattle.shard_store.proofs.store.Store.get_name.Goals as goal

pub returns-in_err-copy-clause-answer : goal.returns-in_err-copy-clause-answer
returns-in_err-copy-clause-answer c = error_passed c.from_residual.result Memory _ _ c.from_residual.ensures.1 (later_self c.args.desk.now.seat.me.0.seen)

pub ask_name-answer-requires-clause-home : goal.ask_name-answer-requires-clause-home
ask_name-answer-requires-clause-home c = subst (λ (d : Name). IsAtHome c.args.self.now.id (Get d) c.args.shard) (sym c.in_ok-copy.ensures) c.requires.home

pub returns-clause-answer : goal.returns-clause-answer
returns-clause-answer c =
    subst (λ (d : Name). ShardAnswer c.args.self.now.id.slots (Get d) c.args.desk.now.seat.me.0.seen c.ask_name-answer.result c.ask_name-answer.new.desk.seat.me.0.seen) c.in_ok-copy.ensures c.ask_name-answer.ensures.answer
