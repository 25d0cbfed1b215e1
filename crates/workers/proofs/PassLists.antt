-- Lists of which each element is of a kind.
use Rattle.std.proofs.Common.{suc, List, [], ◌∷◌, ◌++◌, All, arith}
use Rattle.std.proofs.lemmas.List.Elements.{All-cons}

pub first_of_all : {X : Type 0} (P : X → Type 0) (x : X) (xs : List X) → All P (x ∷ xs) → P x
first_of_all P x xs h = h 0 x (omega arith)

pub rest_of_all : {X : Type 0} (P : X → Type 0) (x : X) (xs : List X) → All P (x ∷ xs) → All P xs
rest_of_all P x xs h = λ k d l. h (suc k) d (omega arith)

pub all_push : {X : Type 0} (P : X → Type 0) (xs : List X) (x : X) → All P xs → P x → All P (xs ++ x ∷ [])
all_push P [] x h p = All-cons P x [] p (λ k d l. absurd (omega arith))
all_push P (y ∷ ys) x h p = All-cons P y (ys ++ x ∷ []) (first_of_all P y ys h) (all_push P ys x (rest_of_all P y ys h) p)
