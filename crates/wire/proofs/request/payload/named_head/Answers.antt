use Rattle.std.proofs.Common.{◌≡◌, ◌+◌, arith, rules, ◌++◌, length, ap, ◌∙◌, length-append}
use Rattle.std.specs.Int.{w32, to_be_bytes}
use Rattle.wire.proofs.Heads.{frame_in_parts}
use Rattle.wire.proofs.request.payload.named_head.Goals as goal

pub returns-clause-head : goal.returns-clause-head
returns-clause-head c =
    let name = c.args.name.now in
    let middle = c.args.middle.now in
    let text = c.args.text.now in
    let size : c.in_ok-size.size ≡ length text + (2 + length name + length middle) = search rules in
    let spelled : c.to_be_bytes.result ≡ to_be_bytes w32 c.in_ok-size.size = search rules in
    let field : c.head_of-head.result.items ≡ to_be_bytes w32 (length text + (2 + length name + length middle)) =
    c.head_of-head.ensures ∙ spelled ∙ ap (to_be_bytes w32) size in (
      (omega (arith, c.if-name-gt-MAX_NAME.false), omega (arith, size, c.if-size-gt-MAX_PAYLOAD.false, length-append name (middle ++ text), length-append middle text)),
      ap (λ b. b ++ text) (c.put-3.ensures ∙ ap (λ b. b ++ middle) (c.put-2.ensures ∙ ap (λ b. b ++ name) c.put.ensures))
          ∙ frame_in_parts c.head_of-head.result.items c.args.letter name middle text field,
    )
