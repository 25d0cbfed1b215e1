use Rattle.frame_front.proofs.ReplyLemmas.{one_map_tells}
use Rattle.frame_front.proofs.laws.one_map_tells_only_out_of_memory.Goals as goal

pub returns : goal.returns
returns c = one_map_tells
