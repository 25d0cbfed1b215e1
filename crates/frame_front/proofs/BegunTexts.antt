-- Lemmas on the texts of which a byte is written.
use Rattle.std.proofs.Common.{◌≡◌, ℕ, zero, suc, ◌-◌, ◌<◌, ◌≤◌, List, [], ◌∷◌, ◌++◌, length, length-append, arith, refl, false}
use Rattle.std.specs.List.{AllByRecursion, concat}
use Rattle.wire.specs.Frame.{IsPayload}
use Rattle.wire.specs.Answers.{is_error_reply}
use Rattle.frame_front.specs.PlainSession.{texts_within}

-- none of these texts tells an error
abbrev pub NoErrors : List (List ℕ) → Type 0
NoErrors = AllByRecursion (λ text. is_error_reply text ≡ false)

-- texts of which all that is begun answers
pub no_errors-append : (ts us : List (List ℕ)) → NoErrors ts → NoErrors us → NoErrors (ts ++ us)
no_errors-append [] us a b = b
no_errors-append (t ∷ ts) us a b = (a.0, no_errors-append ts us a.1 b)

pub each_before : (ps qs : List (List ℕ)) → AllByRecursion IsPayload (ps ++ qs) → AllByRecursion IsPayload ps
each_before [] qs a = tt
each_before (p ∷ ps) qs a = (a.0, each_before ps qs a.1)

pub empty_answers : (text : List ℕ) → length text ≤ 0 → is_error_reply text ≡ false
empty_answers [] none = refl
empty_answers (x ∷ xs) none = absurd (omega (arith, none))

pub begun_before : (ts us : List (List ℕ)) (n : ℕ) → length (concat ts) ≤ n → NoErrors (texts_within n (ts ++ us)) → NoErrors ts
begun_before [] us n whole no_errors = tt
begun_before (t ∷ ts) us zero whole no_errors =
    (empty_answers t (omega (arith, whole, length-append t (concat ts))), begun_before ts us zero (omega (arith, whole, length-append t (concat ts))) tt)
begun_before (t ∷ ts) us (suc n) whole no_errors =
    (no_errors.0, begun_before ts us (suc n - length t) (omega (arith, whole, length-append t (concat ts))) no_errors.1)

pub begun_reaches : (ts : List (List ℕ)) (text : List ℕ) (n : ℕ) → length (concat ts) < n → NoErrors (texts_within n (ts ++ text ∷ [])) → is_error_reply text ≡ false
begun_reaches [] text zero reached no_errors = absurd (omega (arith, reached))
begun_reaches [] text (suc n) reached no_errors = no_errors.0
begun_reaches (t ∷ ts) text zero reached no_errors = absurd (omega (arith, reached))
begun_reaches (t ∷ ts) text (suc n) reached no_errors =
    begun_reaches ts text (suc n - length t) (omega (arith, reached, length-append t (concat ts))) no_errors.1
