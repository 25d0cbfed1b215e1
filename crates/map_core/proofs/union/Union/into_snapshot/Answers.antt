use Rattle.std.proofs.Common.{sym, ap, ◌∙◌}
use Rattle.map_core.specs.PlainMap.{bundles}
use Rattle.map_core.specs.Union.{put_together}
use Rattle.map_core.proofs.Apart.{if_ok, same-bundles}
use Rattle.map_core.proofs.Unions.{only_map, union-empty}
use Rattle.map_core.proofs.union.Union.into_snapshot.Goals as goal

pub returns-in-len1 : goal.returns-in-len1
returns-in-len1 c =
    let only = only_map c.as_slice.result.now c.only-item.result c.in-len1.len_at_least c.in-len1.len_below c.only-item.is in
    let is = sym (union-empty c.only-item.result) ∙ ap put_together (sym only ∙ c.as_slice.ensures.value) ∙ c.self.view_is in
    if_ok c.snapshot.result (λ all e. e ∙ ap bundles is) c.snapshot.ensures

pub returns : goal.returns
returns c =
    if_ok c.take_bundles.result (λ all e.
    e ∙ same-bundles _ _ c.in_ok-gather_bundles-in_default.ensures ∙ ap bundles (ap put_together c.as_slice.ensures.value ∙ c.self.view_is)) c.take_bundles.ensures
