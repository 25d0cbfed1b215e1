use Rattle.std.proofs.Common.{◌≡◌, ◌++◌, map, take, codes, false}
use Rattle.dump_views.specs.Map.{shown}
use Rattle.dump_views.specs.Private.Writing.{domain_texts}
use Rattle.dump_views.proofs.map.write_map.Given as goal

abbrev pub invariant-loop-place : goal.invariant-loop-place
invariant-loop-place l = l.text.items ≡ codes "{\"trust_domains\":{" ++ domain_texts false (map (shown l.profile) (take l.place l.domains))
