-- Lemmas on what was appended to.
use Rattle.std.proofs.Common.{◌≡◌, ◌≤◌, ◌++◌, List, ℕ, length, take, arith, refl, sym, ap, ◌∙◌, append_assoc}
use Rattle.std.proofs.lemmas.List.{take_all, take_at, take-take, length-take}
use Rattle.dump_views.specs.Private.Fronts.{IsFront}

pub front_same : (a : List ℕ) → IsFront a a
front_same a = record { is = take_all (length a) a (omega arith) }

pub front_more : (a x : List ℕ) → IsFront a (a ++ x)
front_more a x = record { is = take_at a x (length a) refl }

pub front_through : (a b c : List ℕ) → IsFront a b → IsFront b c → IsFront a c
front_through a b c first second =
    let short : length a ≤ length b = omega (arith, ap length first.is, length-take (length a) b) in
    record { is = sym (take-take (length a) (length b) c short) ∙ ap (take (length a)) second.is ∙ first.is }

pub front_then : (a x c : List ℕ) → IsFront (a ++ x) c → IsFront a c
front_then a x c more = front_through a (a ++ x) c (front_more a x) more

-- four texts appended one after another
pub four_appended : (out one two three four a b c d : List ℕ) → one ≡ out ++ a → two ≡ one ++ b → three ≡ two ++ c → four ≡ three ++ d → four ≡ out ++ (a ++ (b ++ (c ++ d)))
four_appended out one two three four a b c d first second third fourth =
    fourth ∙ ap (λ t. t ++ d) (third ∙ ap (λ t. t ++ c) (second ∙ ap (λ t. t ++ b) first))
    ∙ append_assoc ((out ++ a) ++ b) c d ∙ append_assoc (out ++ a) b (c ++ d) ∙ append_assoc out a (b ++ (c ++ d))
