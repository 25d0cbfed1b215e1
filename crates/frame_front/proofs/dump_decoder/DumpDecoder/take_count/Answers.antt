use Rattle.frame_front.proofs.DecoderLemmas.{IsAt-same, count_taken, frame_kept, head_spoilt}
use Rattle.frame_front.proofs.dump_decoder.DumpDecoder.take_count.Goals as goal

pub pass-requires-clause-stands : goal.pass-requires-clause-stands
pass-requires-clause-stands c = frame_kept _ _ _ c.in-Whole.ensures.1

pub returns-in-Whole-clause-taken : goal.returns-in-Whole-clause-taken
returns-in-Whole-clause-taken c = λ came items taken.
    let decoder = c.args.self.now in
    let first = c.in-Whole.ensures.1 in
    record {
      few = taken.few;
      bytes = taken.bytes;
      at = count_taken came decoder.frames c.in-Whole.ensures.0 c.pass.new.self c.in-Whole.count decoder.place decoder.last items
          (IsAt-same _ _ came decoder.frames decoder.place decoder.last items c.in-Head.is taken.at)
          first.good (rw c.pass.ensures first.stands) c.in-Whole.ensures.2;
    }

pub returns-in-Wrong-clause-taken : goal.returns-in-Wrong-clause-taken
returns-in-Wrong-clause-taken c = λ came items taken.
    let decoder = c.args.self.now in
    record {
      few = taken.few;
      bytes = taken.bytes;
      at = head_spoilt came decoder.frames decoder.place decoder.last items taken.bytes
          (IsAt-same _ _ came decoder.frames decoder.place decoder.last items c.in-Head.is taken.at) c.in-Wrong.ensures;
    }
