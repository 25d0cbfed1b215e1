-- Words with a space before each.
use Rattle.std.proofs.Common.{◌≡◌, ℕ, ◌+◌, ◌<◌, List, [], ◌∷◌, ◌++◌, length, map, take, get_or, ap, ◌∙◌, arith, append-nil}
use Rattle.std.proofs.lemmas.List.{take_more, get_or-map, length-map}
use Rattle.std.proofs.lemmas.List.Concat.{flat_map-append}
use Rattle.commands.specs.Ask.{spaced}

-- one word more
pub spaced_more : {X : Type 0} (text : X → List ℕ) (words : List X) (place : ℕ) (blank : X) → place < length words
    → spaced (take (place + 1) (map text words)) ≡ spaced (take place (map text words)) ++ 32 ∷ text (get_or words place blank)
spaced_more text words place blank inside =
    let long = length-map words text in
    let word = text (get_or words place blank) in
    let before = take place (map text words) in
    let lt : place < length (map text words) = omega (arith, inside, long) in
    ap spaced (take_more (map text words) place [] lt ∙ ap (λ (w : List ℕ). before ++ w ∷ []) (get_or-map text words place blank [] inside))
    ∙ flat_map-append (λ (w : List ℕ). 32 ∷ w) before (word ∷ []) ∙ ap (λ (l : List ℕ). spaced before ++ l) (append-nil (32 ∷ word))
