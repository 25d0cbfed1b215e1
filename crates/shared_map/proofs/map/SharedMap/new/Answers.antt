use Rattle.std.proofs.Common.{refl, []}
use Rattle.std.specs.FinMap.{empty_of_len, from_sorted}
use Rattle.shared_map.proofs.Maps.{len_is}
use Rattle.shared_map.proofs.map.SharedMap.new.Goals as goal

pub returns : goal.returns
returns g c = empty_of_len _ (len_is (from_sorted []) [] refl tt)
