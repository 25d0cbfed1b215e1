-- The words of what is counted, one after the other.
use Rattle.std.proofs.Common.{◌≡◌, ℕ, zero, suc, ◌<◌, List, [], ◌∷◌, ◌++◌, Option, take, length, get_or, ap, sym, ◌∙◌, append_assoc, append-nil, subst, arith}
use Rattle.std.specs.Prelude.{codes, decimal}
use Rattle.std.specs.Io.KnownBytes.{Appends}
use Rattle.std.proofs.KnownBytes.{Appends-trans}
use Rattle.server.specs.Counts.{word, words}

pub words_next : (names : List (List ℕ)) (numbers : List ℕ) (n : ℕ) → n < length names → n < length numbers
    → words (take (suc n) names) (take (suc n) numbers) ≡ words (take n names) (take n numbers) ++ word (get_or names n []) (get_or numbers n 0)
words_next [] numbers n below other = absurd (omega (arith, below))
words_next (x ∷ xs) [] n below other = absurd (omega (arith, other))
words_next (x ∷ xs) (y ∷ ys) zero below other = append-nil (word x y)
words_next (x ∷ xs) (y ∷ ys) (suc n) below other =
    ap (λ (more : List ℕ). word x y ++ more) (words_next xs ys n (omega (arith, below)) (omega (arith, other)))
    ∙ sym (append_assoc (word x y) (words (take n xs) (take n ys)) (word (get_or xs n []) (get_or ys n 0)))

-- written in three pieces
pub word_whole : (held a b new : Option (List ℕ)) (name : List ℕ) (number : ℕ) → Appends held a (codes " ") → Appends a b name → Appends b new (codes "=" ++ decimal number)
    → Appends held new (word name number)
word_whole held a b new name number space named value =
    let all = Appends-trans held b new (codes " " ++ name) (codes "=" ++ decimal number) (Appends-trans held a b (codes " ") name space named) value in
    subst (λ (bytes : List ℕ). Appends held new bytes) (sym (append_assoc (codes " " ++ name) (codes "=") (decimal number))) all
