use Rattle.std.proofs.Common.{◌≡◌, ◌+◌, ◌++◌, length, sym, ap, ◌∙◌, append_assoc, arith, rules}
use Rattle.std.specs.Int.{w32, to_be_bytes}
use Rattle.wire.proofs.FrameLemmas.{frame_in_parts}
use Rattle.wire.proofs.frame.put_frame.Goals as goal

pub returns-clause-ok : goal.returns-clause-ok
returns-clause-ok c =
    let out = c.args.out.now.items in
    let front = c.args.front.now in
    let rest = c.args.rest.now in
    let size : c.to_be_bytes.result ≡ to_be_bytes w32 (length front + length rest) = search rules in
    c.in_default.ensures.ok
    ∙ ap (λ b. b ++ (front ++ rest)) (c.in_ok-extend_from_slice.ensures.items ∙ ap (λ s. out ++ s) size)
    ∙ sym (append_assoc (out ++ to_be_bytes w32 (length front + length rest)) front rest)
    ∙ frame_in_parts out front rest (length front + length rest) (omega arith)
