use Rattle.std.proofs.Common.{◌+◌, [], ◌∷◌, ◌++◌, length, append_assoc, arith, rules}
use Rattle.std.specs.Int.{w32, to_be_bytes}
use Rattle.spiffe_doc.specs.Text.{text_of}
use Rattle.wire.proofs.FrameLemmas.{frame_in_parts}
use Rattle.frame_front.proofs.pending.store_pair.Goals as goal

pub returns-clause-ok : goal.returns-clause-ok
returns-clause-ok c =
    let out = c.args.ready.now.items in
    let name = c.args.item.now.0 in
    let text = text_of c.args.item.now.1 in
    let size = (2 + length name) + length text in
    let whole = frame_in_parts out (105 ∷ length name ∷ name) text size (omega arith) in
    let joined = append_assoc (out ++ to_be_bytes w32 size) (105 ∷ length name ∷ []) name in
    search (rules, whole, joined, c.canonical_text-text.ensures.value)
