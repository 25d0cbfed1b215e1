use Rattle.std.proofs.Common.{◌≡◌, ℕ, List, sym, ◌∙◌}
use Rattle.std.specs.Arc.{arc_value}
use Rattle.shard_store.specs.declared.change.Change.{Change}
use Rattle.shard_store.specs.declared.last_reads.LastRead.{LastRead}
use Rattle.shard_store.specs.Private.LastReads.{IsAsRead}
use Rattle.map_core.specs.declared.op.Op.TheVariants.{FetchAll}
use Rattle.map_core.specs.declared.reply.AskError.TheVariants.{Memory}
use Rattle.shard_store.proofs.Promise.{later_then, refused_since, error_passed}
use Rattle.shard_store.proofs.LastReads.{copied_here, reads_later, reads_refused}
use Rattle.shard_store.proofs.store.Store.collect.Goals as goal

-- a copy of what was read
as_read : (n i : ℕ) (log : List Change) (r copy : LastRead) → (copy.revision ≡ r.revision) × (arc_value copy.version ≡ arc_value r.version) → IsAsRead n i log r → IsAsRead n i log copy
as_read n i log r copy same read = (read.0 ∙ sym same.0, same.1 ∙ read.1)

pub returns-in-Some-clause-read : goal.returns-in-Some-clause-read
returns-in-Some-clause-read c = (c.recall.ensures.looked.1, as_read _ c.args.shard c.recall.new.seat.me.0.seen.log c.in-Some.last.now c.in_ok-copy.field-0 c.in_ok-copy.ensures c.in-Some.ensures.read)

pub returns-in_err-read-clause-ready : goal.returns-in_err-read-clause-ready
returns-in_err-read-clause-ready c =
    (c.collect_held.ensures.free, reads_refused _ FetchAll c.recall.new.seat.me.0.seen c.collect_held.new.seat.me.0.seen c.in_err-read.field-0.0 _ c.in_err-read.ensures.read c.recall.ensures.told)

pub returns-in_err-read-clause-read : goal.returns-in_err-read-clause-read
returns-in_err-read-clause-read c = let e = c.in_err-read.field-0.0 in
    error_passed c.from_residual-in_err-read.result e _ _ c.from_residual-in_err-read.ensures.1
    (refused_since _ FetchAll c.args.desk.now.seat.me.0.seen c.recall.new.seat.me.0.seen c.collect_held.new.seat.me.0.seen e c.recall.ensures.looked.1 c.in_err-read.ensures.read)

pub returns-in_err-copy-2-clause-ready : goal.returns-in_err-copy-2-clause-ready
returns-in_err-copy-2-clause-ready c =
    (c.collect_held.ensures.free, reads_later _ c.recall.new.seat.me.0.seen c.collect_held.new.seat.me.0.seen _ c.in_ok-read.ensures.read.0 c.recall.ensures.told)

pub returns-in_err-copy-2-clause-read : goal.returns-in_err-copy-2-clause-read
returns-in_err-copy-2-clause-read c = error_passed c.from_residual-in_err-copy-2.result Memory _ _ c.from_residual-in_err-copy-2.ensures.1
    (later_then c.args.desk.now.seat.me.0.seen c.recall.new.seat.me.0.seen c.collect_held.new.seat.me.0.seen c.recall.ensures.looked.1 c.in_ok-read.ensures.read.0)

pub returns-clause-ready : goal.returns-clause-ready
returns-clause-ready c = let t = c.recall.new.seat.me.0.seen in let u = c.collect_held.new.seat.me.0.seen in let read = c.in_ok-read.ensures.read in let n = c.args.self.now.id.slots in
    (c.collect_held.ensures.free, c.keep.ensures n u.log (reads_later n t u c.args.desk.now.last_reads.by_shard.items read.0 c.recall.ensures.told) (copied_here n c.args.shard u.log c.in_ok-copy-2.copy _ _ c.in_ok-copy-2.ensures read.1.0 read.1.1))

pub returns-clause-read : goal.returns-clause-read
returns-clause-read c = let read = c.in_ok-read.ensures.read in
    (later_then c.args.desk.now.seat.me.0.seen c.recall.new.seat.me.0.seen c.collect_held.new.seat.me.0.seen c.recall.ensures.looked.1 read.0, read.1)
