use Rattle.std.proofs.Common.{◌≡◌, take}
use Rattle.std.specs.Prelude.{option_map}
use Rattle.std.specs.Option.{option_to_list}
use Rattle.json.specs.Value.{value_view, members_view}
use Rattle.dump_views.specs.Import.{values_named}
use Rattle.dump_views.proofs.tree.only_value.Given as goal

abbrev pub invariant-loop-member : goal.invariant-loop-member
invariant-loop-member l =
    option_to_list (option_map (λ value. value_view value.now) l.found) ≡ values_named l.name (members_view (take l.member-index l.members.items))
