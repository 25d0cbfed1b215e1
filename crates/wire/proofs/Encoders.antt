-- Lists of lines with one line more.
use Rattle.std.proofs.Common.{◌≡◌, ℕ, List, [], ◌∷◌, ◌++◌, refl, sym, ap, ◌∙◌, append_assoc, append-nil}
use Rattle.std.specs.List.{AllByRecursion}
use Rattle.wire.specs.Counted.{next_count}
use Rattle.wire.specs.Encoding.{Gives, EncodesLine, lines_of, frames_of, count_after}

pub lines_then : (lines : ℕ) (items : List (List ℕ × List ℕ)) (item : List ℕ × List ℕ) → count_after lines (items ++ item ∷ []) ≡ next_count (count_after lines items)
lines_then lines [] item = refl
lines_then lines (first ∷ items) item = lines_then (next_count lines) items item

pub lines_of_then : (items : List (List ℕ × List ℕ)) (item : List ℕ × List ℕ) (rest : List ℕ) → lines_of (items ++ item ∷ []) ++ rest ≡ lines_of items ++ (item.0 ++ 10 ∷ rest)
lines_of_then [] item rest = ap (λ line. line ++ rest) (append-nil (item.0 ++ 10 ∷ [])) ∙ append_assoc item.0 (10 ∷ []) rest
lines_of_then (first ∷ items) item rest =
    let line = first.0 ++ 10 ∷ [] in
    append_assoc line (lines_of (items ++ item ∷ [])) rest ∙ ap (λ more. line ++ more) (lines_of_then items item rest) ∙ sym (append_assoc line (lines_of items) (item.0 ++ 10 ∷ rest))

pub frames_of_then : (items : List (List ℕ × List ℕ)) (item : List ℕ × List ℕ) → frames_of (items ++ item ∷ []) ≡ frames_of items ++ item.1
frames_of_then [] item = append-nil item.1
frames_of_then (first ∷ items) item = ap (λ rest. first.1 ++ rest) (frames_of_then items item) ∙ sym (append_assoc first.1 (frames_of items) item.1)

pub each_then : (gives : Gives) (items : List (List ℕ × List ℕ)) (item : List ℕ × List ℕ) → AllByRecursion (EncodesLine gives) items → EncodesLine gives item → AllByRecursion (EncodesLine gives) (items ++ item ∷ [])
each_then gives [] item each one = (one, tt)
each_then gives (first ∷ items) item each one = (each.0, each_then gives items item each.1 one)
