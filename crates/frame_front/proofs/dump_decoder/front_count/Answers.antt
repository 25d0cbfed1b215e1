use Rattle.std.proofs.Common.{sym, ◌∙◌}
use Rattle.frame_front.proofs.DecoderLemmas.{never_count, never_count_behind}
use Rattle.frame_front.proofs.dump_decoder.front_count.Goals as goal

pub returns-in-None : goal.returns-in-None
returns-in-None c =
    let found = rw c.in-Ok-Some.field-0-is at c.in-Ok-Some.ensures.found in
    never_count _ c.in-Ok-Some.payload.now _ found.0 found.1 (sym c.read_count.ensures ∙ c.in-None.is)

pub returns-in-Err : goal.returns-in-Err
returns-in-Err c = never_count_behind c.args.frames.now c.in-Err.ensures.fails.1
