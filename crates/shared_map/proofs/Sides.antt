-- Lists in order, around one part: what stands before it, and what stands after.
use Rattle.std.proofs.Common.{◌≡◌, ◌⊎◌, inl, inr, Bool, cond, not, ◌&&◌, List, [], ◌∷◌, ◌++◌, Some, None, refl, sym, ap, subst, ◌∙◌, append_assoc, append-nil, arith}
use Rattle.std.specs.Prelude.{T}
use Rattle.std.specs.declared.cmp.Ordering.{Ordering}
use Rattle.std.specs.declared.cmp.Ordering.TheVariants.{Less, Equal, Greater}
use Rattle.std.specs.Ordering.{is_lt, is_eq, ordering_reverse, eq_by_cmp}
use Rattle.std.specs.Cmp.{IsTotalOrder}
use Rattle.std.specs.FinMap.Entries.{by_order, put, where_key, find, below_all, is_sorted}

pub both : (a b : Bool) → T a → T b → T (a && b)
both a b p q = grind arith

pub first : (a b : Bool) → T (a && b) → T a
first a b p = grind arith

pub second : (a b : Bool) → T (a && b) → T b
second a b p = grind arith

pub less : (o : Ordering) → T (is_lt o) → o ≡ Less
less o p = grind arith

pub is_less : (o : Ordering) → o ≡ Less → T (is_lt o)
is_less o e = subst (λ r. T (is_lt r)) (sym e) tt

-- each key but q
abbrev pub others : {K : Type 0} → (K → K → Ordering) → K → K → Bool
others R q x = not (eq_by_cmp R q x)

module _ {K : Type 0} {R : K → K → Ordering} (o : IsTotalOrder R) where
  turned : (x y : K) → R x y ≡ Less → R y x ≡ Greater
  turned x y p = o.antisymm y x ∙ ap ordering_reverse p

  turned_back : (x y : K) → R x y ≡ Greater → R y x ≡ Less
  turned_back x y p = o.antisymm y x ∙ ap ordering_reverse p

module _ {K X : Type 0} (R : K → K → Ordering) where
  -- q comes after each entry
  abbrev pub Past : K → List (K × X) → Type 0
  Past q [] = Unit {0}
  Past q (x ∷ l) = (R q x.0 ≡ Greater) × Past q l

  below-middle : (x : K) (l : List (K × X)) (e : K × X) (r : List (K × X)) → T (below_all R x (l ++ e ∷ r)) → R x e.0 ≡ Less
  below-middle x [] e r h = less _ (first _ _ h)
  below-middle x (y ∷ l) e r h = below-middle x l e r (second _ _ h)

  below-front : (x : K) (l m : List (K × X)) → T (below_all R x (l ++ m)) → T (below_all R x l)
  below-front x [] m h = tt
  below-front x (y ∷ l) m h = both _ _ (first _ _ h) (below-front x l m (second _ _ h))

  pub sorted-front : (l m : List (K × X)) → T (is_sorted R (l ++ m)) → T (is_sorted R l)
  sorted-front [] m h = tt
  sorted-front (x ∷ l) m h = both _ _ (below-front x.0 l m (first _ _ h)) (sorted-front l m (second _ _ h))

  after : (l : List (K × X)) (e : K × X) (r : List (K × X)) → T (is_sorted R (l ++ e ∷ r)) → T (below_all R e.0 r)
  after [] e r h = first _ _ h
  after (x ∷ l) e r h = after l e r (second _ _ h)

  put_past : (q : K) (v : X) (l m : List (K × X)) → Past q l → put R q v (l ++ m) ≡ l ++ put R q v m
  put_past q v [] m p = refl
  put_past q v (x ∷ l) m p = ap (λ o. by_order o ((q, v) ∷ x ∷ (l ++ m)) ((x.0, v) ∷ (l ++ m)) (x ∷ put R q v (l ++ m))) p.0 ∙ ap (λ z. x ∷ z) (put_past q v l m p.1)

  find_past : (q : K) (l m : List (K × X)) → Past q l → find R q (l ++ m) ≡ find R q m
  find_past q [] m p = refl
  find_past q (x ∷ l) m p = ap (λ o. cond (is_eq o) (Some x.1) (find R q (l ++ m))) p.0 ∙ find_past q l m p.1

  kept_past : (q : K) (l m : List (K × X)) → Past q l → where_key R (others R q) (l ++ m) ≡ l ++ where_key R (others R q) m
  kept_past q [] m p = refl
  kept_past q (x ∷ l) m p = ap (λ o. cond (not (is_eq o)) (x ∷ where_key R (others R q) (l ++ m)) (where_key R (others R q) (l ++ m))) p.0 ∙ ap (λ z. x ∷ z) (kept_past q l m p.1)

  pub find_below : (q : K) (es : List (K × X)) → T (below_all R q es) → find R q es ≡ None
  find_below q [] h = refl
  find_below q (e ∷ es) h = ap (λ o. cond (is_eq o) (Some e.1) (find R q es)) (less _ (first _ _ h)) ∙ find_below q es (second _ _ h)

  pub kept_below : (q : K) (es : List (K × X)) → T (below_all R q es) → where_key R (others R q) es ≡ es
  kept_below q [] h = refl
  kept_below q (e ∷ es) h =
      let below : R q e.0 ≡ Less = less _ (first _ _ h) in
      ap (λ o. cond (not (is_eq o)) (e ∷ where_key R (others R q) es) (where_key R (others R q) es)) below ∙ ap (λ z. e ∷ z) (kept_below q es (second _ _ h))

  find_front : (q : K) (l m : List (K × X)) → T (below_all R q m) → find R q (l ++ m) ≡ find R q l
  find_front q [] m h = find_below q m h
  find_front q (x ∷ l) m h = ap (cond (eq_by_cmp R q x.0) (Some x.1)) (find_front q l m h)

  kept_front : (q : K) (l m : List (K × X)) → T (below_all R q m) → where_key R (others R q) (l ++ m) ≡ where_key R (others R q) l ++ m
  kept_front q [] m h = kept_below q m h
  kept_front q (x ∷ l) m h =
      let ih = kept_front q l m h in grind (arith, ih)

  -- the first of these, if there is one, is after q
  abbrev pub IsUnder : K → List (K × X) → Type 0
  IsUnder q [] = Unit {0}
  IsUnder q (e ∷ c) = R q e.0 ≡ Less

  pub put_left : (q : K) (v : X) (l : List (K × X)) (e : K × X) (r : List (K × X)) → R q e.0 ≡ Less → put R q v (l ++ e ∷ r) ≡ put R q v l ++ e ∷ r
  put_left q v [] e r p = ap (λ o. by_order o ((q, v) ∷ e ∷ r) ((e.0, v) ∷ r) (e ∷ put R q v r)) p
  put_left q v (x ∷ l) e r p =
      let ih = put_left q v l e r p in grind (arith, ih)

  put_front : (q : K) (v : X) (b c : List (K × X)) → IsUnder q c → put R q v (b ++ c) ≡ put R q v b ++ c
  put_front q v b [] h = ap (put R q v) (append-nil b) ∙ sym (append-nil (put R q v b))
  put_front q v b (e ∷ c) h = put_left q v b e c h

  sorted-behind : (a m : List (K × X)) → T (is_sorted R (a ++ m)) → T (is_sorted R m)
  sorted-behind [] m h = h
  sorted-behind (x ∷ a) m h = sorted-behind a m (second _ _ h)

  module _ (o : IsTotalOrder R) where
    past_greater : (q : K) (l : List (K × X)) (e : K × X) (r : List (K × X)) → T (is_sorted R (l ++ e ∷ r)) → R q e.0 ≡ Greater → Past q l
    past_greater q [] e r h p = tt
    past_greater q (x ∷ l) e r h p =
        (turned o x.0 q (o.trans x.0 e.0 q (below-middle x.0 l e r (first _ _ h)) (turned_back o q e.0 p)), past_greater q l e r (second _ _ h) p)

    past_equal : (q : K) (l : List (K × X)) (e : K × X) (r : List (K × X)) → T (is_sorted R (l ++ e ∷ r)) → R q e.0 ≡ Equal → Past q l
    past_equal q [] e r h p = tt
    past_equal q (x ∷ l) e r h p =
        (o.congr q e.0 x.0 p ∙ turned o x.0 e.0 (below-middle x.0 l e r (first _ _ h)), past_equal q l e r (second _ _ h) p)

    pub below_less : (x y : K) (es : List (K × X)) → R x y ≡ Less → T (below_all R y es) → T (below_all R x es)
    below_less x y [] p h = tt
    below_less x y (e ∷ es) p h = both _ _ (is_less _ (o.trans x y e.0 p (less _ (first _ _ h)))) (below_less x y es p (second _ _ h))

    pub below_equal : (x y : K) (es : List (K × X)) → R x y ≡ Equal → T (below_all R y es) → T (below_all R x es)
    below_equal x y [] p h = tt
    below_equal x y (e ∷ es) p h = both _ _ (is_less _ (o.congr x y e.0 p ∙ less _ (first _ _ h))) (below_equal x y es p (second _ _ h))

    below_from : (q : K) (l : List (K × X)) (e : K × X) (r : List (K × X)) → T (is_sorted R (l ++ e ∷ r)) → R q e.0 ≡ Less → T (below_all R q (e ∷ r))
    below_from q l e r h p = both _ _ (is_less _ p) (below_less q e.0 r p (after l e r h))

    pub put_middle : (q : K) (v : X) (l : List (K × X)) (e : K × X) (r : List (K × X)) → T (is_sorted R (l ++ e ∷ r)) → R q e.0 ≡ Equal → put R q v (l ++ e ∷ r) ≡ l ++ (e.0, v) ∷ r
    put_middle q v l e r h p =
        put_past q v l (e ∷ r) (past_equal q l e r h p) ∙ ap (λ o. l ++ by_order o ((q, v) ∷ e ∷ r) ((e.0, v) ∷ r) (e ∷ put R q v r)) p

    pub find_middle : (q : K) (l : List (K × X)) (e : K × X) (r : List (K × X)) → T (is_sorted R (l ++ e ∷ r)) → R q e.0 ≡ Equal → find R q (l ++ e ∷ r) ≡ Some e.1
    find_middle q l e r h p =
        find_past q l (e ∷ r) (past_equal q l e r h p) ∙ ap (λ o. cond (is_eq o) (Some e.1) (find R q r)) p

    pub kept_middle : (q : K) (l : List (K × X)) (e : K × X) (r : List (K × X)) → T (is_sorted R (l ++ e ∷ r)) → R q e.0 ≡ Equal → where_key R (others R q) (l ++ e ∷ r) ≡ l ++ r
    kept_middle q l e r h p =
        kept_past q l (e ∷ r) (past_equal q l e r h p)
        ∙ ap (λ o. l ++ cond (not (is_eq o)) (e ∷ where_key R (others R q) r) (where_key R (others R q) r)) p
        ∙ ap (λ z. l ++ z) (kept_below q r (below_equal q e.0 r p (after l e r h)))

    -- the last of these, if there is one, is before q
    abbrev pub IsAbove : K → List (K × X) → Type 0
    IsAbove q a = (a ≡ []) ⊎ ((u : List (K × X)) × (e : K × X) × (a ≡ u ++ e ∷ []) × (R q e.0 ≡ Greater))

    past_end : (q : K) (u : List (K × X)) (e : K × X) → Past q u → R q e.0 ≡ Greater → Past q (u ++ e ∷ [])
    past_end q [] e p h = (h, tt)
    past_end q (x ∷ u) e p h = (p.0, past_end q u e p.1 h)

    pub past_front : (q : K) (a m : List (K × X)) → T (is_sorted R (a ++ m)) → IsAbove q a → Past q a
    past_front q a m s above =
        elim above [
          | inl is ↦ subst (Past q) (sym is) tt
          | inr p ↦ subst (Past q) (sym p.2) (past_end q p.0 p.1 (past_greater q p.0 p.1 m (subst (λ l. T (is_sorted R l)) (ap (λ l. l ++ m) p.2 ∙ append_assoc p.0 (p.1 ∷ []) m) s) p.3) p.3)
        ]

    pub below_back : (q : K) (c : List (K × X)) → T (is_sorted R c) → IsUnder q c → T (below_all R q c)
    below_back q [] s h = tt
    below_back q (e ∷ c) s h = below_from q [] e c s h

    -- the part b of a list, where q is after all of a and before all of c
    module _ (q : K) (a b c : List (K × X)) (s : T (is_sorted R (a ++ (b ++ c)))) (above : IsAbove q a) (under : IsUnder q c) where
      behind : T (is_sorted R (b ++ c))
      behind = sorted-behind a (b ++ c) s

      below : T (below_all R q c)
      below = below_back q c (sorted-behind b c behind) under

      pub sorted_inside : T (is_sorted R b)
      sorted_inside = sorted-front b c behind

      pub find_inside : find R q (a ++ (b ++ c)) ≡ find R q b
      find_inside = find_past q a (b ++ c) (past_front q a (b ++ c) s above) ∙ find_front q b c below

      pub put_inside : (v : X) → put R q v (a ++ (b ++ c)) ≡ a ++ (put R q v b ++ c)
      put_inside v = put_past q v a (b ++ c) (past_front q a (b ++ c) s above) ∙ ap (λ z. a ++ z) (put_front q v b c under)

      pub kept_inside : where_key R (others R q) (a ++ (b ++ c)) ≡ a ++ (where_key R (others R q) b ++ c)
      kept_inside = kept_past q a (b ++ c) (past_front q a (b ++ c) s above) ∙ ap (λ z. a ++ z) (kept_front q b c below)
