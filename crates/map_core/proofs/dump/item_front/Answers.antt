use Rattle.std.proofs.Common.{◌+◌, [], ◌∷◌, length, append_assoc, arith, rules}
use Rattle.std.specs.Int.{w32, to_be_bytes}
use Rattle.spiffe_doc.specs.Text.{text_of}
use Rattle.map_core.proofs.Dumps.{frame_in_parts}
use Rattle.map_core.proofs.dump.item_front.Goals as goal

pub returns : goal.returns
returns c =
    let name = c.args.domain.now in
    let text = text_of c.args.bundle.now in
    let size = (2 + length name) + length text in
    let whole = frame_in_parts [] (105 ∷ length name ∷ name) text size (omega arith) in
    let joined = append_assoc (to_be_bytes w32 size) (105 ∷ length name ∷ []) name in
    search (rules, whole, joined, c.canonical_text.ensures.value)
