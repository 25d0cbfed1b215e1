-- Words with single spaces between.
use Rattle.std.proofs.Common.{◌≡◌, ℕ, suc, ◌+◌, Bool, true, false, not, cond, nat_lt, List, [], ◌∷◌, length, take, drop, Option, Some, None, refl, sym, ap, subst, ◌∙◌, arith, eqb-true}
use Rattle.std.proofs.lemmas.Option.{same_Some, none-some}
use Rattle.std.specs.Prelude.{◌==◌, ◌||◌, if◌then◌else◌, option_map}
use Rattle.std.specs.List.{list_any, position, position_or_len}
use Rattle.wire.specs.RequestForm.{IsWord, ◌then◌}
use Rattle.wire.specs.Private.RequestReading.{split_word, after_byte}

abbrev pub is_space : ℕ → Bool
is_space byte = byte == 32

no_space_before : (byte : ℕ) (word : List ℕ) → IsWord (byte ∷ word) → (is_space byte ≡ false) × IsWord word
no_space_before byte word none = by (is_space byte) (list_any is_space word) none
  where
    by : (b c : Bool) → (b || c) ≡ false → (b ≡ false) × (c ≡ false)
    by true c e = absurd (cc e)
    by false c e = (refl, e)

-- ---- what a split is

pub split_found : (bytes : List ℕ) (parts : List ℕ × List ℕ) → split_word bytes ≡ Some parts → (bytes ≡ parts.0 then parts.1) × IsWord parts.0
unfolding split_word
split_found [] parts is = absurd (none-some parts is)
split_found (byte ∷ bytes) parts is = by (is_space byte) refl (split_word bytes) (λ rest e. split_found bytes rest e) is
  where
    at_space : is_space byte ≡ true → ◌≡◌ {A = Option (List ℕ × List ℕ)} (Some ([], bytes)) (Some parts) → (byte ∷ bytes ≡ parts.0 then parts.1) × IsWord parts.0
    at_space e is = subst (λ (p : List ℕ × List ℕ). (byte ∷ bytes ≡ p.0 then p.1) × IsWord p.0) (same_Some ([], bytes) parts is) (ap (λ b. b ∷ bytes) (eqb-true byte 32 e), refl)

    behind : is_space byte ≡ false → (rest : List ℕ × List ℕ) → (bytes ≡ rest.0 then rest.1) × IsWord rest.0 → ◌≡◌ {A = Option (List ℕ × List ℕ)} (Some (byte ∷ rest.0, rest.1)) (Some parts) → (byte ∷ bytes ≡ parts.0 then parts.1) × IsWord parts.0
    behind e rest h is = subst (λ (p : List ℕ × List ℕ). (byte ∷ bytes ≡ p.0 then p.1) × IsWord p.0) (same_Some (byte ∷ rest.0, rest.1) parts is) (ap (λ bs. byte ∷ bs) h.0, ap (λ b. b || list_any is_space rest.0) e ∙ h.1)

    by : (b : Bool) → is_space byte ≡ b → (o : Option (List ℕ × List ℕ)) → ((rest : List ℕ × List ℕ) → o ≡ Some rest → (bytes ≡ rest.0 then rest.1) × IsWord rest.0) → (if b then Some ([], bytes) else after_byte byte o) ≡ Some parts → (byte ∷ bytes ≡ parts.0 then parts.1) × IsWord parts.0
    by true e o found is = at_space e is
    by false e None found is = absurd (none-some parts is)
    by false e (Some rest) found is = behind e rest (found rest refl) is

-- a word, a space and any bytes are split there
pub split_then : (word rest : List ℕ) → IsWord word → split_word (word then rest) ≡ Some (word, rest)
unfolding split_word
split_then [] rest is = refl
split_then (byte ∷ word) rest is =
    let parts = no_space_before byte word is in
    ap (λ (b : Bool). if b then Some ([], word then rest) else after_byte byte (split_word (word then rest))) parts.0 ∙ ap (after_byte byte) (split_then word rest parts.1)

-- a word is not split
pub split_alone : (word : List ℕ) → IsWord word → split_word word ≡ None
unfolding split_word
split_alone [] is = refl
split_alone (byte ∷ word) is =
    let parts = no_space_before byte word is in
    ap (λ (b : Bool). if b then Some ([], word) else after_byte byte (split_word word)) parts.0 ∙ ap (after_byte byte) (split_alone word parts.1)

pub split_not : (bytes : List ℕ) → split_word bytes ≡ None → IsWord bytes
unfolding split_word
split_not [] is = refl
split_not (byte ∷ bytes) is = by (is_space byte) refl (split_word bytes) (λ e. split_not bytes e) is
  where
    by : (b : Bool) → is_space byte ≡ b → (o : Option (List ℕ × List ℕ)) → (o ≡ None → IsWord bytes) → (if b then Some ([], bytes) else after_byte byte o) ≡ None → IsWord (byte ∷ bytes)
    by true e o rest is = absurd (none-some ([], bytes) (sym is))
    by false e (Some parts) rest is = absurd (none-some (byte ∷ parts.0, parts.1) (sym is))
    by false e None rest is = ap (λ b. b || list_any is_space bytes) e ∙ rest refl

-- ---- how it is found

-- where the first space is
pub split_is : (bytes : List ℕ) → split_word bytes ≡ option_map (λ at. (take at bytes, drop (at + 1) bytes)) (position is_space bytes)
unfolding split_word
split_is [] = refl
split_is (byte ∷ bytes) = step (is_space byte) (position_or_len is_space bytes) (split_word bytes) (split_is bytes)
  where
    within : (c : Bool) (at : ℕ) → after_byte byte (option_map (λ n. (take n bytes, drop (n + 1) bytes)) (cond c (Some at) None)) ≡ option_map (λ n. (take n (byte ∷ bytes), drop (n + 1) (byte ∷ bytes))) (cond c (Some (suc at)) None)
    within true at =
        let e : suc (at + 1) ≡ suc at + 1 = omega arith in
        ap (λ (n : ℕ). Some (byte ∷ take at bytes, drop n (byte ∷ bytes))) e
    within false at = refl

    shifted : (at : ℕ) → nat_lt (1 + at) (suc (length bytes)) ≡ nat_lt at (length bytes)
    shifted at = grind arith

    step : (b : Bool) (at : ℕ) (o : Option (List ℕ × List ℕ)) → o ≡ option_map (λ n. (take n bytes, drop (n + 1) bytes)) (cond (nat_lt at (length bytes)) (Some at) None)
        → (if b then Some ([], bytes) else after_byte byte o) ≡ option_map (λ n. (take n (byte ∷ bytes), drop (n + 1) (byte ∷ bytes))) (cond (nat_lt (cond (not b) (1 + at) 0) (length (byte ∷ bytes))) (Some (cond (not b) (1 + at) 0)) None)
    step true at o is =
        let some : true ≡ nat_lt 0 (suc (length bytes)) = grind arith in
        ap (λ (c : Bool). option_map (λ n. (take n (byte ∷ bytes), drop (n + 1) (byte ∷ bytes))) (cond c (Some 0) None)) some
    step false at o is =
        let one : suc at ≡ 1 + at = omega arith in
        ap (after_byte byte) is ∙ within (nat_lt at (length bytes)) at
        ∙ ap (λ (c : Bool). option_map (λ n. (take n (byte ∷ bytes), drop (n + 1) (byte ∷ bytes))) (cond c (Some (suc at)) None)) (sym (shifted at)) ∙ ap (λ (m : ℕ). option_map (λ n. (take n (byte ∷ bytes), drop (n + 1) (byte ∷ bytes))) (cond (nat_lt (1 + at) (suc (length bytes))) (Some m) None)) one

-- ---- what a split tells

pub words_of : (bytes front back : List ℕ) → split_word bytes ≡ Some (front, back) → IsWord front × (bytes ≡ front then back)
words_of bytes front back is = let found = split_found bytes (front, back) is in (found.1, found.0)
