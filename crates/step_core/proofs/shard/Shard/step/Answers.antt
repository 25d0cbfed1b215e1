use Rattle.std.proofs.Common.{◌≡◌, ◌≢◌, ℕ, ◌+◌, ◌==◌, true, false, arith, sym, ap, ◌∙◌}
use Rattle.std.proofs.lemmas.Bool.Decides.{nat_tests}
use Rattle.std.specs.Arc.{arc_value}
use Rattle.map_core.specs.declared.op.Op.{Op}
use Rattle.map_core.specs.declared.reply.Reply.{Reply}
use Rattle.map_core.specs.Reply.{is_change}
use Rattle.map_core.specs.PlainMap.{PlainMap, ask}
use Rattle.map_core.proofs.MapLaws.{ask_keeps}
use Rattle.step_core.specs.Shard.{last_revision, step_on}
use Rattle.step_core.proofs.shard.Shard.step.Goals as goal
use Rattle.step_core.proofs.shard.Shard.step.Goals.{then-is_change, else-is_change}

-- what a step that changes leaves
written : (revision : ℕ) (part new : PlainMap) (op : Op) (reply : Reply) → reply ≡ (ask part op).reply → new ≡ (ask part op).map → true ≡ is_change reply → revision ≢ last_revision
    → record { revision = revision + 1; part = new } ≡ (step_on (record { revision = revision; part = part }) op).shard
written revision part new op reply r m change low =
    let changes : is_change (ask part op).reply ≡ true = sym (change ∙ ap is_change r) in
    let below : (revision == last_revision) ≡ false = grind (arith, nat_tests, low) in
    simp (changes, below) (ap (λ (x : PlainMap). record { revision = revision + 1; part = x }) m)

-- and one that does not
left : (revision : ℕ) (part new : PlainMap) (op : Op) (reply : Reply) → reply ≡ (ask part op).reply → new ≡ (ask part op).map → false ≡ is_change reply
    → record { revision = revision; part = new } ≡ (step_on (record { revision = revision; part = part }) op).shard
left revision part new op reply r m change =
    let keeps : is_change (ask part op).reply ≡ false = sym (change ∙ ap is_change r) in
    simp keeps (ap (λ (x : PlainMap). record { revision = revision; part = x }) (m ∙ ask_keeps part op keeps))

not_both : true ≡ false → ⊥
not_both e = cc

pub returns-clause-shard : goal.returns-clause-shard
returns-clause-shard c =
    let op : Op = c.args.op in
    let revision = c.self.inside.revision in
    let part : PlainMap = arc_value c.self.inside.version in
    let new : PlainMap = arc_value c.ask_version.new.version in
    let taken : revision ≡ last_revision → is_change (ask part op).reply ≡ false = rw (← c.self.view_is) at c.in_default.ensures.taken in
    let low : true ≡ is_change c.in_ok-reply.reply → revision ≢ last_revision =
    (λ change is. not_both (change ∙ ap is_change c.in_ok-reply.ensures.reply ∙ taken is)) in
    rw (← c.self.view_is) (elim c.if-is_change.branch [
      | then-is_change w ↦ w.self-is ∙ written revision part new op c.in_ok-reply.reply c.in_ok-reply.ensures.reply c.in_ok-reply.ensures.left w.if-is_change.ensures (low w.if-is_change.ensures)
      | else-is_change w ↦ w.self-is ∙ left revision part new op c.in_ok-reply.reply c.in_ok-reply.ensures.reply c.in_ok-reply.ensures.left w.if-is_change.ensures
    ])
