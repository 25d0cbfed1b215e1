use Rattle.std.proofs.Common.{◌≡◌, ◌+◌, ◌<◌, ◌≤◌, ◌++◌, ◌∷◌, [], Some, length, sym, ap, subst, length-drop, arith}
use Rattle.spiffe_doc.specs.Authority.{BundleValue}
use Rattle.map_core.specs.Name.{Name}
use Rattle.frame_front.specs.DumpDecoder.{HasTaken}
use Rattle.frame_front.specs.Private.DumpReading.{IsSpoilt}
use Rattle.frame_front.proofs.DecoderLemmas.{IsAt-same, frame_kept, item_taken, long_some, more_spoils, place_below, wrong_spoils}
use Rattle.frame_front.proofs.dump_decoder.DumpDecoder.take_item.Goals as goal
use Rattle.frame_front.proofs.dump_decoder.DumpDecoder.take_item.Goals.{then-len-gt0, else-len-gt0}

pub returns-then-self-count-clause-none : goal.returns-then-self-count-clause-none
returns-then-self-count-clause-none c = λ came items taken.
    let decoder = c.args.self.now in
    let at = IsAt-same _ _ came decoder.frames decoder.place decoder.last items c.requires taken.at in
    let below : decoder.place < length came = place_below came decoder.frames c.args.count decoder.place decoder.last items taken.bytes at in
    elim c.if-len-gt0.branch [
      | then-len-gt0 w ↦
          let next : w.saturating_add.result ≡ decoder.place + 1 = omega (arith, below, taken.few, w.saturating_add.ensures, c.if-self-count.true) in
          let some : 0 < length decoder.frames = omega (arith, w.if-len-gt0.true, c.len.ensures) in
          subst (λ d. HasTaken d came items) (sym w.self-is) (record {
            few = taken.few;
            bytes = taken.bytes;
            at = subst (IsSpoilt came) (sym next)
                (more_spoils came decoder.frames c.args.count decoder.place decoder.last items taken.bytes at c.if-self-count.true (long_some decoder.frames some));
          })
      | else-len-gt0 w ↦ subst (λ d. HasTaken d came items) (sym w.self-is) taken
    ]

pub pass-requires-clause-stands : goal.pass-requires-clause-stands
pass-requires-clause-stands c =
    let found = rw c.in-Whole.is at c.in_ok-front.ensures in
    frame_kept _ _ _ found.1

pub returns-in_ok-last-in-Whole-clause-found : goal.returns-in_ok-last-in-Whole-clause-found
returns-in_ok-last-in-Whole-clause-found c = λ came items taken.
    let decoder = c.args.self.now in
    let found = rw c.in-Whole.is at c.in_ok-front.ensures in
    let first = found.1 in
    let item : Name × BundleValue = (c.in-Whole.item.0, c.in-Whole.item.1) in
    let at = IsAt-same _ _ came decoder.frames decoder.place decoder.last items c.requires taken.at in
    let below : decoder.place < length came = place_below came decoder.frames c.args.count decoder.place decoder.last items taken.bytes at in
    let next : c.saturating_add-self.result ≡ decoder.place + 1 = omega (arith, below, taken.few, c.saturating_add-self.ensures) in
    let named : c.in_ok-last-in-Whole.last ≡ c.in-Whole.item.0 = c.in_ok-last-in-Whole.ensures in
    let more = item_taken came decoder.frames c.args.count decoder.place decoder.last items taken.bytes at found.0 c.pass.new.self item
    c.if-self-count.false first.good (rw c.pass.ensures first.stands) found.2 found.3 found.4 in
    record {
      few = taken.few;
      bytes = taken.bytes;
      at = IsAt-same _ _ came c.pass.new.self c.saturating_add-self.result (Some c.in_ok-last-in-Whole.last) (items ++ item ∷ []) (sym c.requires)
          (rw (next, named) more);
    }

pub returns-in-Wrong-clause-none : goal.returns-in-Wrong-clause-none
returns-in-Wrong-clause-none c = λ came items taken.
    let decoder = c.args.self.now in
    let wrong = rw c.in-Wrong.is at c.in_ok-front.ensures in
    let at = IsAt-same _ _ came decoder.frames decoder.place decoder.last items c.requires taken.at in
    let below : decoder.place < length came = place_below came decoder.frames c.args.count decoder.place decoder.last items taken.bytes at in
    let next : c.saturating_add-in-Wrong.result ≡ decoder.place + 1 = omega (arith, below, taken.few, c.saturating_add-in-Wrong.ensures) in
    record {
      few = taken.few;
      bytes = taken.bytes;
      at = subst (IsSpoilt came) (sym next)
          (wrong_spoils came decoder.frames c.args.count decoder.place decoder.last items taken.bytes at c.if-self-count.false wrong);
    }

pub returns-in_ok-last-in-Whole-clause-fewer : goal.returns-in_ok-last-in-Whole-clause-fewer
returns-in_ok-last-in-Whole-clause-fewer c =
    let frames = c.args.self.now.frames in
    let found = rw c.in-Whole.is at c.in_ok-front.ensures in
    let kept : 4 + c.in-Whole.size ≤ length frames = frame_kept frames found.0 c.in-Whole.size found.1 in
    omega (arith, kept, ap length c.pass.ensures, length-drop (4 + c.in-Whole.size) frames)
