-- The first line feed.
use Rattle.std.proofs.Common.{◌≡◌, ℕ, suc, ◌+◌, ◌<◌, ◌≤◌, arith, Bool, true, false, List, [], ◌∷◌, ◌++◌, length, take, drop, get_or, refl, sym, ap, subst, ◌∙◌, eqb-true, length-take, get_or-take, get_or-drop, length-drop}
use Rattle.std.specs.Prelude.{◌==◌, ◌||◌, Some, None}
use Rattle.std.specs.List.{list_any}
use Rattle.std.proofs.lemmas.List.{take-append-drop, drop_more}
use Rattle.std.proofs.Math.Seq.{take-add}
use Rattle.std.proofs.lemmas.List.Folds.{list_any-append}
use Rattle.memchr.specs.Find.{IsFirstByte, is_byte}
use Rattle.wire.specs.RequestForm.{IsOneLine}

-- no byte of it is a line feed
none_any : (bytes : List ℕ) → ((k : ℕ) → k < length bytes → (get_or bytes k 0 == 10) ≡ true → ⊥) → IsOneLine bytes
none_any [] none = refl
none_any (byte ∷ bytes) none = by (byte == 10) refl (none_any bytes (λ k small. none (suc k) (omega (arith, small))))
  where
    by : (b : Bool) → (byte == 10) ≡ b → IsOneLine bytes → (b || list_any (λ x. x == 10) bytes) ≡ false
    by true e rest = absurd (none 0 (omega arith) e)
    by false e rest = rest

pub both_lines : (front back : List ℕ) → IsOneLine front → IsOneLine back → IsOneLine (front ++ back)
both_lines front back one two = list_any-append (λ x. x == 10) front back ∙ ap (λ (b : Bool). b || list_any (λ x. x == 10) back) one ∙ two

module _ (kept : List ℕ) (searched : ℕ) (within : searched ≤ length kept) (plain : IsOneLine (take searched kept)) (fresh : List ℕ) (is : fresh ≡ drop searched kept) where
  -- no line feed is found
  pub no_line : IsFirstByte (is_byte 10) fresh None → IsOneLine kept
  no_line none =
      let rest : IsOneLine (drop searched kept) = subst IsOneLine is (none_any fresh (λ k small e. none k (omega arith) small e)) in
      subst IsOneLine (take-append-drop searched kept) (both_lines (take searched kept) (drop searched kept) plain rest)

  -- it is the first of those that were not searched
  pub line_at : (at : ℕ) → IsFirstByte (is_byte 10) fresh (Some at) → IsOneLine (take (searched + at) kept) × (kept ≡ take (searched + at) kept ++ 10 ∷ drop (searched + at + 1) kept) × (searched + at < length kept)
  line_at at found =
      let some : at < length fresh = found.0.high in
      let long : searched + at < length kept = omega (arith, some, ap length is, length-drop searched kept) in
      let front : IsOneLine (take at fresh) = none_any (take at fresh) (λ k small e.
      let near : k < at = omega (arith, small, length-take at fresh) in
      found.0.before k (omega arith) near (subst (λ (b : ℕ). (b == 10) ≡ true) (get_or-take-at k near) e)) in
      let feed : get_or kept (searched + at) 0 ≡ 10 = sym (get_or-drop searched kept at 0) ∙ ap (λ bs. get_or bs at 0) (sym is) ∙ eqb-true (get_or fresh at 0) 10 found.1 in
      let whole : IsOneLine (take (searched + at) kept) = subst IsOneLine (sym (take-add searched at kept)) (both_lines (take searched kept) (take at (drop searched kept)) plain (subst (λ (bs : List ℕ). IsOneLine (take at bs)) is front)) in
      (whole, sym (take-append-drop (searched + at) kept) ∙ ap (λ rest. take (searched + at) kept ++ rest) (drop_more kept (searched + at) 0 long ∙ ap (λ b. b ∷ drop (searched + at + 1) kept) feed), long)
    where
      get_or-take-at : (k : ℕ) → k < at → get_or (take at fresh) k 0 ≡ get_or fresh k 0
      get_or-take-at k near = grind (arith, get_or-take, near)
