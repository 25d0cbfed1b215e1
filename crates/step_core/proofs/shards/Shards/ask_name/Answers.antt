use Rattle.std.proofs.Common.{◌≡◌, ℕ, length, Result, slice_set, sym, ap, subst, ◌∙◌, rules}
use Rattle.map_core.specs.declared.reply.Reply.{Reply}
use Rattle.map_core.specs.declared.reply.AskError.{AskError}
use Rattle.map_core.specs.PlainMap.{shard_of}
use Rattle.step_core.specs.Phase.{start_phase_at}
use Rattle.step_core.specs.TaskView.{TaskView}
use Rattle.step_core.proofs.Parts.{Steps, steps, still_parts}
use Rattle.step_core.proofs.shards.Shards.ask_name.Goals as goal

pub replied-requires : goal.replied-requires
replied-requires c =
    let size : c.len.result ≡ length c.args.self.now = search rules in
    (c.args.place, ap (λ (t : TaskView). t.phase) c.in-Ok.ensures ∙ ap start_phase_at (ap (λ (n : ℕ). shard_of n c.args.op) size ∙ c.requires.home))

pub invariant_of-self : goal.invariant_of-self
invariant_of-self c =
    let at = rw (← c.self.view_is) at c.requires.home in
    let small = rw (← c.self.view_is) at c.requires.place in
    still_parts c.self.inside.shards.items c.args.op c.args.place c.index_mut.result.now c.index_mut.ensures.value c.self.invariant at small c.step.result c.step.new.self c.step.ensures.answer c.step.ensures.shard c.step.ensures.err

pub returns : goal.returns
returns c =
    let vs = c.self.inside.shards.items in
    let at = rw (← c.self.view_is) at c.requires.home in
    let small = rw (← c.self.view_is) at c.requires.place in
    let told = subst (λ (r : Result Reply AskError). Steps vs c.args.op c.args.place r (slice_set vs c.args.place c.step.new.self)) (sym (c.replied.ensures ∙ c.at_shard-answer.ensures))
    (steps vs c.args.op c.args.place c.index_mut.result.now c.index_mut.ensures.value c.self.invariant at small c.step.result c.step.new.self c.step.ensures.answer c.step.ensures.shard c.step.ensures.refused c.step.ensures.err) in
    rw (← c.self.view_is) (record { reply = told.reply; left = told.left; shards = told.shards; fit = told.fit; refused = told.refused; err = told.err })
