use Rattle.std.proofs.Common.{◌≡◌, ◌<◌, ℕ, List, length, Ok, rules, ap, ◌∙◌, subst}
use Rattle.std.specs.Prelude.{Result}
use Rattle.map_core.specs.Ask.{ShowsGet}
use Rattle.map_core.specs.PlainMap.{home}
use Rattle.map_core.specs.declared.op.Op.TheVariants.{Get}
use Rattle.map_core.specs.declared.reply.Reply.{Reply}
use Rattle.map_core.specs.declared.reply.AskError.{AskError}
use Rattle.step_core.specs.Shard.{ShardVersion}
use Rattle.step_core.specs.Shards.{ShardsAnswer}
use Rattle.step_core.proofs.Gets.{get_home, get_reply, get_shown}
use Rattle.step_core.proofs.shards.Shards.show.Goals as goal

pub returns : goal.returns
returns g c =
    let vs = c.self.inside.shards.items in
    let d = c.args.domain.now in
    let place = c.home-place.result in
    let old = g.V.Viewer.noted c.args.viewer.now in
    let new = g.V.Viewer.noted c.show.new.viewer in
    let size : c.len.result ≡ length vs = search rules in
    let small : place < length vs = subst (λ (n : ℕ). place < n) size c.home-place.ensures.below in
    let at : place ≡ home (length vs) d = c.home-place.ensures.shard ∙ ap (λ (n : ℕ). home n d) size in
    subst (λ (versions : List ShardVersion). ShowsGet {E = AskError} g.V.Viewer.notes (λ (answer : Result Reply AskError). ShardsAnswer versions (Get d) answer versions) old (Ok c.in_ok-show.field-0) new) c.self.view_is
    (get_shown g.V.Viewer.notes vs d c.index.result.now.part old c.in_ok-show.field-0 new
    (λ reply is. get_reply vs d place reply c.index.result.now c.self.invariant (get_home (length vs) place d at) small c.index.ensures is) c.in_ok-show.ensures)
