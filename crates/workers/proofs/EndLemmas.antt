-- What is kept of one end of a session more.
use Rattle.std.proofs.Common.{◌≡◌, ℕ, zero, suc, ◌+◌, ◌<◌, ◌≤◌, ◌&&◌, List, [], ◌∷◌, ◌++◌, length, get_or, take, Bool, true, false, refl, sym, ap, ◌∙◌, arith, append-nil, Result, Ok, Err}
use Rattle.std.specs.Prelude.{min}
use Rattle.std.proofs.Math.Seq.{take-suc}
use Rattle.wire.specs.declared.error.FrontError.{FrontError}
use Rattle.workers.specs.Ended.{EndsView, Notes, all_came, faults_of, most_faults, session_count}
use Rattle.workers.specs.declared.ended.SessionFault.{SessionFault}
use Rattle.workers.specs.declared.ended.SessionFault.TheVariants.{Front, Listen}

count_append : (ends more : List (Result ℕ SessionFault)) → session_count (ends ++ more) ≡ session_count ends + session_count more
count_append [] more = omega arith
count_append (Ok count ∷ ends) more = omega (arith, count_append ends more)
count_append (Err (Front error) ∷ ends) more = omega (arith, count_append ends more)
count_append (Err Listen ∷ ends) more = count_append ends more

came_append : (ends more : List (Result ℕ SessionFault)) → all_came (ends ++ more) ≡ (all_came ends && all_came more)
came_append [] more = refl
came_append (Ok count ∷ ends) more = came_append ends more
came_append (Err (Front error) ∷ ends) more = came_append ends more
came_append (Err Listen ∷ ends) more = refl

faults_append : (ends more : List (Result ℕ SessionFault)) → faults_of (ends ++ more) ≡ faults_of ends ++ faults_of more
faults_append [] more = refl
faults_append (Ok count ∷ ends) more = faults_append ends more
faults_append (Err fault ∷ ends) more = ap (λ (l : List SessionFault). fault ∷ l) (faults_append ends more)

-- the first of what was taken, and of what follows
take_on : {X : Type 0} (n : ℕ) (xs ys : List X) → take n (take n xs ++ ys) ≡ take n (xs ++ ys)
take_on zero xs ys = refl
take_on (suc n) [] ys = refl
take_on (suc n) (x ∷ xs) ys = ap (λ l. x ∷ l) (take_on n xs ys)

-- as many as may be are kept: one more changes nothing
pub take_full : {X : Type 0} (n : ℕ) (xs ys : List X) → n ≤ length xs → length xs ≤ n → take n (xs ++ ys) ≡ xs
take_full zero [] ys least most = refl
take_full zero (x ∷ xs) ys least most = absurd (omega (arith, most))
take_full (suc n) [] ys least most = absurd (omega (arith, least))
take_full (suc n) (x ∷ xs) ys least most = ap (λ l. x ∷ l) (take_full n xs ys (omega (arith, least)) (omega (arith, most)))

-- all are among the first so many
pub take_all : {X : Type 0} (n : ℕ) (xs : List X) → length xs ≤ n → take n xs ≡ xs
take_all zero [] few = refl
take_all zero (x ∷ xs) few = absurd (omega (arith, few))
take_all (suc n) [] few = refl
take_all (suc n) (x ∷ xs) few = ap (λ l. x ∷ l) (take_all n xs (omega (arith, few)))

both_true : (b : Bool) → (b && true) ≡ b
both_true true = refl
both_true false = refl

both_false : (b : Bool) → (b && false) ≡ false
both_false true = refl
both_false false = refl

abbrev pub view : ℕ → Bool → List SessionFault → EndsView
view begun came faults = record { begun = begun; came = came; faults = faults }

same_view : (a b : ℕ) (c d : Bool) (e f : List SessionFault) → a ≡ b → c ≡ d → e ≡ f → view a c e ≡ view b d f
same_view a b c d e f p q r = ap (λ n. view n c e) p ∙ (ap (λ t. view b t e) q ∙ ap (λ (l : List SessionFault). view b d l) r)

capped : (n : ℕ) → min (min n 18446744073709551615 + 1) 18446744073709551615 ≡ min (n + 1) 18446744073709551615
capped n = omega arith

module _ (before : List (Result ℕ SessionFault)) where
  counts : (end : Result ℕ SessionFault) → session_count (end ∷ []) ≡ 1 → min (min (session_count before) 18446744073709551615 + 1) 18446744073709551615 ≡ min (session_count (before ++ end ∷ [])) 18446744073709551615
  counts end one = capped (session_count before) ∙ ap (λ n. min n 18446744073709551615) (sym (count_append before (end ∷ []) ∙ ap (λ n. session_count before + n) one))

  keeps : (fault : SessionFault) → take most_faults (take most_faults (faults_of before) ++ fault ∷ []) ≡ take most_faults (faults_of (before ++ Err fault ∷ []))
  keeps fault = take_on most_faults (faults_of before) (fault ∷ []) ∙ ap (λ (l : List SessionFault). take most_faults l) (sym (faults_append before (Err fault ∷ [])))

-- a session ended well
pub notes_ok : (count : ℕ) (old new : EndsView) → new ≡ record old { begun = min (old.begun + 1) 18446744073709551615 } → Notes (Ok count ∷ []) old new
notes_ok count old new is before was =
    is ∙ (ap (λ (o : EndsView). view (min (o.begun + 1) 18446744073709551615) o.came o.faults) was
    ∙ same_view _ _ _ _ _ _ (counts before (Ok count) refl) (sym (came_append before (Ok count ∷ []) ∙ both_true (all_came before)))
    (ap (λ (l : List SessionFault). take most_faults l) (sym (faults_append before (Ok count ∷ []) ∙ append-nil (faults_of before)))))

-- a session ended by a fault
pub notes_front : (error : FrontError) (old kept new : EndsView) → kept ≡ record old { faults = take most_faults (old.faults ++ Front error ∷ []) }
    → new ≡ record kept { begun = min (kept.begun + 1) 18446744073709551615 } → Notes (Err (Front error) ∷ []) old new
notes_front error old kept new first is before was =
    is ∙ (ap (λ (o : EndsView). view (min (o.begun + 1) 18446744073709551615) o.came o.faults) first
    ∙ (ap (λ (o : EndsView). view (min (o.begun + 1) 18446744073709551615) o.came (take most_faults (o.faults ++ Front error ∷ []))) was
    ∙ same_view _ _ _ _ _ _ (counts before (Err (Front error)) refl) (sym (came_append before (Err (Front error) ∷ []) ∙ both_true (all_came before)))
    (keeps before (Front error))))

-- no session came
pub notes_listen : (old kept new : EndsView) → kept ≡ record old { faults = take most_faults (old.faults ++ Listen ∷ []) }
    → new ≡ record kept { came = false } → Notes (Err Listen ∷ []) old new
notes_listen old kept new first is before was =
    is ∙ (ap (λ (o : EndsView). view o.begun false o.faults) first
    ∙ (ap (λ (o : EndsView). view o.begun false (take most_faults (o.faults ++ Listen ∷ []))) was
    ∙ same_view _ _ _ _ _ _ (ap (λ n. min n 18446744073709551615) (omega (arith, count_append before (Err Listen ∷ [])))) (sym (came_append before (Err Listen ∷ []) ∙ both_false (all_came before)))
    (keeps before Listen)))

-- one element more
pub one_more : {X : Type 0} (xs : List X) (i : ℕ) (d : X) → i < length xs → take (i + 1) xs ≡ take i xs ++ get_or xs i d ∷ []
one_more xs i d inside = let next : i + 1 ≡ suc i = omega arith in ap (λ (n : ℕ). take n xs) next ∙ take-suc xs i d inside
