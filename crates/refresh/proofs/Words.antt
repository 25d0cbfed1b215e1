-- Texts one after the other.
use Rattle.std.proofs.Common.{◌≡◌, ◌++◌, List, ℕ, ap, ◌∙◌, append_assoc}

-- three texts put one after the other
pub three_parts : (start a b c first second third : List ℕ) → first ≡ start ++ a → second ≡ first ++ b → third ≡ second ++ c → third ≡ start ++ (a ++ (b ++ c))
three_parts start a b c first second third e f g =
    g ∙ ap (λ x. x ++ c) (f ∙ ap (λ x. x ++ b) e) ∙ append_assoc (start ++ a) b c ∙ append_assoc start a (b ++ c)
