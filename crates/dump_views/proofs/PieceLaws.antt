-- A text cut into pieces of 64 characters.
use Rattle.std.proofs.Common.{◌≡◌, ◌<◌, ◌≤◌, ◌+◌, ◌*◌, ◌/◌, ◌++◌, ℕ, zero, suc, List, [], length, get_or, take, drop, arith, refl, sym, ap, ◌∙◌}
use Rattle.std.proofs.lemmas.List.{take-append-drop, length-take, length-take-le, length-drop, nil_from_length}
use Rattle.std.specs.List.{concat}
use Rattle.dump_views.specs.Pem.{pieces, cut}
use Rattle.dump_views.specs.Laws.{PiecesAreWhole}

length-pieces : (count : ℕ) (text : List ℕ) → length (pieces count text) ≡ count
unfolding pieces
length-pieces zero text = refl
length-pieces (suc count) text = ap suc (length-pieces count (drop 64 text))

pieces_joined : (count : ℕ) (text : List ℕ) → length text ≤ count * 64 → concat (pieces count text) ≡ text
unfolding pieces
pieces_joined zero text short = sym (nil_from_length text (omega arith))
pieces_joined (suc count) text short =
    ap (λ t. take 64 text ++ t) (pieces_joined count (drop 64 text) (omega (arith, length-drop 64 text))) ∙ take-append-drop 64 text

piece_whole : (count : ℕ) (text : List ℕ) (i : ℕ) → i < count → i * 64 + 64 ≤ length text → length (get_or (pieces count text) i []) ≡ 64
unfolding pieces
piece_whole zero text i within long = absurd (omega arith)
piece_whole (suc count) text zero within long = length-take-le 64 text (omega arith)
piece_whole (suc count) text (suc i) within long = piece_whole count (drop 64 text) i (omega arith) (omega (arith, length-drop 64 text))

piece_some : (count : ℕ) (text : List ℕ) (i : ℕ) → i < count → i * 64 < length text → (0 < length (get_or (pieces count text) i [])) × (length (get_or (pieces count text) i []) ≤ 64)
unfolding pieces
piece_some zero text i within long = absurd (omega arith)
piece_some (suc count) text zero within long = (omega (arith, length-take 64 text), omega (arith, length-take 64 text))
piece_some (suc count) text (suc i) within long = piece_some count (drop 64 text) i (omega arith) (omega (arith, length-drop 64 text))

pub pieces_are_whole : (text : List ℕ) → PiecesAreWhole text
unfolding cut
pieces_are_whole text =
    let count = length-pieces ((length text + 63) / 64) text in
    record {
      joined = pieces_joined ((length text + 63) / 64) text (omega arith);
      whole = λ i within. piece_whole ((length text + 63) / 64) text i (omega arith) (omega arith);
      last = λ i within. piece_some ((length text + 63) / 64) text i (omega arith) (omega arith);
    }
