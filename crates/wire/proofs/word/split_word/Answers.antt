use Rattle.std.proofs.Common.{◌≡◌, List, ℕ, ◌+◌, ◌-◌, sym, ap, ◌∙◌, length, take, drop, Some, arith, length-drop, take_all, drop-drop}
use Rattle.std.specs.Prelude.{option_map}
use Rattle.wire.proofs.Words.{split_is, split_not, words_of}
use Rattle.wire.proofs.word.split_word.Goals as goal

pub returns-in_err-at-clause-read : goal.returns-in_err-at-clause-read
returns-in_err-at-clause-read c = rw c.from_residual.ensures (split_is c.args.bytes.now ∙ ap (λ o. option_map (λ at. (take at c.args.bytes.now, drop (at + 1) c.args.bytes.now)) o) (sym c.first_space.ensures ∙ c.in_err-at.was))

pub returns-in_err-at-clause-words : goal.returns-in_err-at-clause-words
returns-in_err-at-clause-words c = rw c.from_residual.ensures (split_not c.args.bytes.now (split_is c.args.bytes.now ∙ ap (λ o. option_map (λ at. (take at c.args.bytes.now, drop (at + 1) c.args.bytes.now)) o) (sym c.first_space.ensures ∙ c.in_err-at.was)))

rest_of : (at : ℕ) (bytes back : List ℕ) → back ≡ drop at bytes → drop (at + 1) bytes ≡ take (length back - 1) (drop 1 back)
rest_of at bytes back is = sym (take_all (length back - 1) (drop 1 back) (omega (arith, length-drop 1 back)) ∙ ap (drop 1) is ∙ drop-drop 1 at bytes)

pub returns-clause-read : goal.returns-clause-read
returns-clause-read c =
    let front = sym c.split_at.ensures.front in
    let back = rest_of c.in_ok-at.at c.args.bytes.now c.split_at.result.1.now c.split_at.ensures.back in
    split_is c.args.bytes.now ∙ ap (λ o. option_map (λ at. (take at c.args.bytes.now, drop (at + 1) c.args.bytes.now)) o) (sym c.first_space.ensures ∙ c.in_ok-at.was) ∙ (λ i. Some (front i, back i))

pub returns-clause-words : goal.returns-clause-words
returns-clause-words c = words_of c.args.bytes.now _ _ (returns-clause-read c)
