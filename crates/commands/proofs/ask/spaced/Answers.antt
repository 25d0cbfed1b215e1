use Rattle.std.proofs.Common.{◌<◌, ◌++◌, ◌∷◌, List, [], ℕ, length, get_or, Bor, ap, sym, ◌∙◌, arith, append_assoc}
use Rattle.commands.proofs.Words.{spaced_more}
use Rattle.commands.proofs.ask.spaced.Goals as goal

abbrev text_of : Bor (List ℕ) → List ℕ
text_of word = word.now

abbrev blank : Bor (List ℕ)
blank = record { ref_ptr = (0, 0); now = [] }

pub loop-place-preserved : goal.loop-place-preserved
loop-place-preserved c =
    let words = c.args.words.now in
    let place = c.loop-place.place in
    let inside : place < length words = omega arith in
    let word = (get_or words place blank).now in
    c.in_ok-extend_from_slice.ensures.items
    ∙ ap (λ (t : List ℕ). t ++ c.as_bytes.result.now) c.in_ok-push.ensures.items
    ∙ append_assoc c.loop-place.text.items (32 ∷ []) c.as_bytes.result.now
    ∙ ap (λ (w : List ℕ). c.loop-place.text.items ++ 32 ∷ w) c.as_bytes.ensures.value
    ∙ ap (λ (t : List ℕ). t ++ 32 ∷ word) c.loop-place.invariant
    ∙ sym (spaced_more text_of words place blank inside)
