use Rattle.std.proofs.Common.{◌≡◌, ◌∷◌, [], map, ℕ, ◌<◌, ◌≤◌, length, List, slice_index_or, Bor, ap, sym, ◌∙◌, arith}
use Rattle.std.proofs.lemmas.Slice.Eq.{bytes_eq-Decides}
use Rattle.command_line.proofs.reading.is_fetch.Goals as goal

-- one word, and which it is
one_word : (words : List (Bor (List ℕ))) (d : Bor (List ℕ)) (text : List ℕ) → 1 ≤ length words → length words < 2 → (slice_index_or words 0 d).now ≡ text
    → map (λ (word : Bor (List ℕ)). word.now) words ≡ text ∷ []
one_word [] d text some few is = absurd (omega (arith, some))
one_word (word ∷ []) d text some few is = ap (λ (t : List ℕ). t ∷ []) is
one_word (word ∷ other ∷ more) d text some few is = absurd (omega (arith, few))

pub returns-in-len1 : goal.returns-in-len1
returns-in-len1 c same =
    one_word c.args.words.now _ _ c.in-len1.len_at_least c.in-len1.len_below ((bytes_eq-Decides _ _).0 (sym c.eq.ensures ∙ same))
