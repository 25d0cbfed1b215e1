use Rattle.frame_front.proofs.DecoderLemmas.{HasNone-same, IsAt-same, ended_at_head, ended_spoilt}
use Rattle.frame_front.proofs.dump_decoder.DumpDecoder.finish.Goals as goal

pub returns-in-Head-clause-bad : goal.returns-in-Head-clause-bad
returns-in-Head-clause-bad c = λ came items taken drained.
    let decoder = c.args.self.now in
    ended_at_head came decoder.frames decoder.place decoder.last items taken.bytes
    (IsAt-same _ _ came decoder.frames decoder.place decoder.last items c.in-Head.is taken.at)
    (HasNone-same _ _ decoder.frames decoder.place c.in-Head.is drained)

pub returns-in-Spoilt-clause-bad : goal.returns-in-Spoilt-clause-bad
returns-in-Spoilt-clause-bad c = λ came items taken drained.
    let decoder = c.args.self.now in
    ended_spoilt came _ (IsAt-same _ _ came decoder.frames decoder.place decoder.last items c.in-Spoilt.is taken.at)
