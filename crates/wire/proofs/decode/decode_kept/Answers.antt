use Rattle.std.proofs.Common.{◌≡◌, ℕ, List, ◌++◌, length, Err, rules, ap, subst, ◌∙◌, arith, length-append}
use Rattle.wire.specs.Frame.{frame, IsPayload}
use Rattle.wire.proofs.FrameLemmas.{length-frame}
use Rattle.wire.specs.Decoding.{IsLineOf}
use Rattle.wire.specs.DecodedStream.{lines_out}
use Rattle.wire.proofs.Decodes.{goes_on, unlined}
use Rattle.wire.proofs.decode.decode_kept.Goals as goal

pub returns-in-Err-NoLine : goal.returns-in-Err-NoLine
returns-in-Err-NoLine c =
    let so = c.loop-payload.invariant in
    let payload = c.in-Ok-Some.payload.items in
    let found : IsPayload payload × (c.loop-payload.decoder ≡ frame payload ++ c.next_frame.new.self) = search rules in
    let same : c.put_line_of.new.out.items ≡ c.loop-payload.out.items = search rules in
    let none = c.put_line_of.ensures.none (c.in-Err-NoLine.is ∙ ap Err c.in-Err-NoLine.field-0-is) in
    (lines_out so.items, same ∙ so.now_is, unlined c.args.decoder.now c.loop-payload.decoder c.next_frame.new.self _ c.args.frames.now c.loop-payload.frames _ c.args.out.now.items c.loop-payload.out.items payload so found.0 found.1 (subst (λ (p : List ℕ). (line : List ℕ) → IsLineOf p line → ⊥) c.as_slice.ensures.value none))

pub loop-payload-smaller : goal.loop-payload-smaller
loop-payload-smaller c =
    let payload = c.in-Ok-Some.payload.items in
    let new = c.next_frame.new.self in
    let found : c.loop-payload.decoder ≡ frame payload ++ new = search rules in
    omega (arith, ap length found, length-frame payload new, length-append payload new)

pub loop-payload-preserved : goal.loop-payload-preserved
loop-payload-preserved c =
    let payload = c.in-Ok-Some.payload.items in
    let put = c.in-Ok.ensures.ok in
    let found : c.loop-payload.decoder ≡ frame payload ++ c.next_frame.new.self = search rules in
    goes_on c.args.decoder.now c.loop-payload.decoder c.next_frame.new.self c.args.frames.now c.loop-payload.frames c.saturating_add.result c.args.out.now.items c.loop-payload.out.items c.put_line_of.new.out.items payload put.0 c.loop-payload.invariant found c.saturating_add.ensures (subst (λ (p : List ℕ). IsLineOf p put.0) c.as_slice.ensures.value put.1) put.2
