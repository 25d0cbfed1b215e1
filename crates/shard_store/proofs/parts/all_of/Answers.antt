use Rattle.std.proofs.Common.{ap, ◌∙◌}
use Rattle.map_core.specs.PlainMap.{bundles}
use Rattle.map_core.proofs.Apart.{if_ok}
use Rattle.shard_store.proofs.parts.all_of.Goals as goal

pub returns : goal.returns
returns c = λ m p. if_ok c.into_snapshot.result (λ all e. e ∙ ap bundles (c.in_ok-join_parts.ensures m p)) c.into_snapshot.ensures
