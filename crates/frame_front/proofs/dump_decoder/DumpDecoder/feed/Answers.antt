use Rattle.std.proofs.Common.{arith, rules, length-append}
use Rattle.frame_front.specs.Private.DumpReading.{AreBytes}
use Rattle.frame_front.proofs.DecoderLemmas.{AreBytes-append, spoilt-fed}
use Rattle.frame_front.proofs.dump_decoder.DumpDecoder.feed.Goals as goal

pub returns-in-Spoilt-clause-ok : goal.returns-in-Spoilt-clause-ok
returns-in-Spoilt-clause-ok c = λ came items taken few.
    let piece = c.args.piece.now in
    let decoder = c.args.self.now in
    let bytes : AreBytes piece = λ i. search rules in
    record {
      few = omega (arith, few, length-append came piece);
      bytes = AreBytes-append came piece taken.bytes bytes;
      at = spoilt-fed decoder.stage c.in-Spoilt.field-0 came decoder.frames piece decoder.place decoder.last items c.in-Spoilt.is bytes taken.at;
    }
