-- The marks of parts, around one of them.
use Rattle.std.proofs.Common.{◌≡◌, ◌≢◌, ◌⊎◌, inl, inr, true, List, [], ◌∷◌, ◌++◌, Option, Some, refl, sym, ap, subst, ◌∙◌, append_assoc, append-nil, length, ◌+◌, length-append, arith}
use Rattle.std.specs.List.{insert, remove}
use Rattle.std.specs.Prelude.{ℕ, slice_set}
use Rattle.std.specs.declared.cmp.Ordering.{Ordering}
use Rattle.std.specs.declared.cmp.Ordering.TheVariants.{Less, Greater}
use Rattle.std.specs.Ordering.{ordering_then}
use Rattle.std.specs.Option.{option_flatten}
use Rattle.std.specs.FinMap.Entries.{find}
use Rattle.shared_map.specs.Name.{Name, name_cmp}
use Rattle.shared_map.specs.Places.{Around, IsBefore, IsReached, IsSplit}
use Rattle.shared_map.specs.Marks.{key_cmp, Marks, IsSorted, IsSameBut, fence, plain, with, without, fenced, marks_of}
use Rattle.shared_map.proofs.Places.{set_at, insert_at, remove_at}
use Rattle.shared_map.proofs.Sides.{IsAbove, IsUnder, sorted_inside, find_inside, put_inside, kept_inside}
use Rattle.shared_map.proofs.Plain.{key_total, find_plain}
use Rattle.shared_map.proofs.Same.{same_is, same_trans, same_within, fence_out}

at_least : (o : Ordering) → o ≢ Less → ordering_then o Greater ≡ Greater
at_least o h = grind arith

module _ {P V : Type 0} (f : P → Marks V) where
  fenced-append : (a b : List (Name × P)) → fenced f (a ++ b) ≡ fenced f a ++ fenced f b
  fenced-append [] b = refl
  fenced-append (x ∷ a) b = ap (λ z. fence x.0 ∷ (f x.1 ++ z)) (fenced-append a b) ∙ ap (λ z. fence x.0 ∷ z) (sym (append_assoc (f x.1) (fenced f a) (fenced f b)))

  -- the marks before a part whose fence is at this name
  abbrev pub ahead : List (Name × P) → Name → Marks V
  ahead [] t = []
  ahead (x ∷ a) t = marks_of f (x ∷ a) ++ fence t ∷ []

  pub around_is : (a : List (Name × P)) (x : Name × P) (c : List (Name × P)) → marks_of f (a ++ x ∷ c) ≡ ahead a x.0 ++ (f x.1 ++ fenced f c)
  around_is [] x c = refl
  around_is (y ∷ a) x c = ap (λ z. f y.1 ++ z) (fenced-append a (x ∷ c)) ∙ simp append_assoc

  ahead_above : (q : Name) (a : List (Name × P)) (t : Name) → (a ≡ []) ⊎ (name_cmp q t ≢ Less) → IsAbove key_cmp key_total (q, true) (ahead a t)
  ahead_above q [] t h = inl refl
  ahead_above q (x ∷ a) t h =
      elim h [
        | inl e ↦ cc
        | inr ge ↦ inr (marks_of f (x ∷ a), fence t, refl, at_least (name_cmp q t) ge)
      ]

  fenced_under : (q : Name) (c : List (Name × P)) → IsBefore q c → IsUnder key_cmp (q, true) (fenced f c)
  fenced_under q [] h = tt
  fenced_under q (x ∷ c) h = ap (λ o. ordering_then o Greater) h

  -- the part x of ps, which a search for q reaches
  module _ (q : Name) (a : List (Name × P)) (x : Name × P) (c : List (Name × P)) (from : (a ≡ []) ⊎ (name_cmp q x.0 ≢ Less)) (before : IsBefore q c) (s : IsSorted (marks_of f (a ++ x ∷ c))) where
    sorted : IsSorted (ahead a x.0 ++ (f x.1 ++ fenced f c))
    sorted = subst IsSorted (around_is a x c) s

    pub sorted_part : IsSorted (f x.1)
    sorted_part = sorted_inside key_cmp key_total (q, true) (ahead a x.0) (f x.1) (fenced f c) sorted (ahead_above q a x.0 from) (fenced_under q c before)

    pub find_part : find name_cmp q (plain (f x.1)) ≡ find name_cmp q (plain (marks_of f (a ++ x ∷ c)))
    find_part =
        find_plain q (f x.1) sorted_part
        ∙ ap option_flatten (sym (find_inside key_cmp key_total (q, true) (ahead a x.0) (f x.1) (fenced f c) sorted (ahead_above q a x.0 from) (fenced_under q c before)) ∙ ap (find key_cmp (q, true)) (sym (around_is a x c)))
        ∙ sym (find_plain q (marks_of f (a ++ x ∷ c)) s)

    -- a change of the part is a change of all
    change_part : (g : Marks V → Marks V) → g (ahead a x.0 ++ (f x.1 ++ fenced f c)) ≡ ahead a x.0 ++ (g (f x.1) ++ fenced f c) → (p : P) → IsSameBut (f p) (g (f x.1)) → IsSameBut (marks_of f (a ++ (x.0, p) ∷ c)) (g (marks_of f (a ++ x ∷ c)))
    change_part g inside p same =
        same_trans (same_is (around_is a (x.0, p) c)) (same_trans (same_within (ahead a x.0) (fenced f c) same) (same_is (sym inside ∙ ap g (sym (around_is a x c)))))

    pub put_part : (v : V) (p : P) → IsSameBut (f p) (with q v (f x.1)) → IsSameBut (marks_of f (a ++ (x.0, p) ∷ c)) (with q v (marks_of f (a ++ x ∷ c)))
    put_part v = change_part (with q v) (put_inside key_cmp key_total (q, true) (ahead a x.0) (f x.1) (fenced f c) sorted (ahead_above q a x.0 from) (fenced_under q c before) (Some v))

    pub take_part : (p : P) → IsSameBut (f p) (without q (f x.1)) → IsSameBut (marks_of f (a ++ (x.0, p) ∷ c)) (without q (marks_of f (a ++ x ∷ c)))
    take_part = change_part (without q) (kept_inside key_cmp key_total (q, true) (ahead a x.0) (f x.1) (fenced f c) sorted (ahead_above q a x.0 from) (fenced_under q c before))

  -- a part becomes two
  pub halve_part : (a : List (Name × P)) (x : Name × P) (c : List (Name × P)) (p : P) (t : Name) (h : P) → IsSameBut (f p ++ (fence t ∷ f h)) (f x.1) → IsSameBut (marks_of f (a ++ (x.0, p) ∷ (t, h) ∷ c)) (marks_of f (a ++ x ∷ c))
  halve_part a x c p t h same =
      same_trans (same_is (around_is a (x.0, p) ((t, h) ∷ c) ∙ ap (λ z. ahead a x.0 ++ z) (sym (append_assoc (f p) (fence t ∷ f h) (fenced f c)))))
      (same_trans (same_within (ahead a x.0) (fenced f c) same) (same_is (sym (around_is a x c))))

  -- a part that shows nothing is taken out
  pub drop_part : (a : List (Name × P)) (x : Name × P) (c : List (Name × P)) → f x.1 ≡ [] → IsSameBut (marks_of f (a ++ c)) (marks_of f (a ++ x ∷ c))
  drop_part [] x [] e = same_is (sym (append-nil (f x.1) ∙ e))
  drop_part [] x (y ∷ c) e = same_trans (fence_out [] y.0 (f y.1 ++ fenced f c)) (same_is (ap (λ z. z ++ fenced f (y ∷ c)) (sym e)))
  drop_part (y ∷ a) x c e =
      same_trans (same_is (ap (λ z. f y.1 ++ z) (fenced-append a c) ∙ sym (append_assoc (f y.1) (fenced f a) (fenced f c))))
      (same_trans (fence_out (marks_of f (y ∷ a)) x.0 (fenced f c))
      (same_is (ap (λ z. marks_of f (y ∷ a) ++ fence x.0 ∷ (z ++ fenced f c)) (sym e) ∙ sym (around_is (y ∷ a) x c ∙ append_assoc (marks_of f (y ∷ a)) (fence x.0 ∷ []) (f x.1 ++ fenced f c)))))

  -- parts become two levels
  pub split_parts : (a : List (Name × P)) (x : Name × P) (c : List (Name × P)) → a ≢ [] → IsSameBut (marks_of f a ++ (fence x.0 ∷ marks_of f (x ∷ c))) (marks_of f (a ++ x ∷ c))
  split_parts [] x c some = absurd (some refl)
  split_parts (y ∷ a) x c some = same_is (sym (around_is (y ∷ a) x c ∙ append_assoc (marks_of f (y ∷ a)) (fence x.0 ∷ []) (f x.1 ++ fenced f c)))

  -- the same of parts of which a search reached a place, where x stands
  module _ (q : Name) (ps : List (Name × P)) (place : ℕ) (r : IsReached q ps place) (x : Name × P) (here : x ≡ r.0.item) where
    sorted_there : IsSorted (marks_of f ps) → IsSorted (marks_of f (r.0.front ++ r.0.item ∷ r.0.back))
    sorted_there s = subst (λ (l : List (Name × P)). IsSorted (marks_of f l)) r.0.is s

    pub sorted_here : IsSorted (marks_of f ps) → IsSorted (f x.1)
    sorted_here s = subst (λ (y : Name × P). IsSorted (f y.1)) (sym here) (sorted_part q r.0.front r.0.item r.0.back r.1 r.2 (sorted_there s))

    set_here : (p : P) → slice_set ps place (x.0, p) ≡ r.0.front ++ (r.0.item.0, p) ∷ r.0.back
    set_here p = set_at ps r.0.front r.0.item r.0.back place (x.0, p) r.0.is r.0.at ∙ ap (λ (n : Name). r.0.front ++ (n, p) ∷ r.0.back) (ap (λ (y : Name × P). y.0) here)

    pub find_reached : (found : Option V) → (IsSorted (f x.1) → found ≡ find name_cmp q (plain (f x.1))) → IsSorted (marks_of f ps) → found ≡ find name_cmp q (plain (marks_of f ps))
    find_reached found h s =
        h (sorted_here s)
        ∙ ap (λ (y : Name × P). find name_cmp q (plain (f y.1))) here
        ∙ find_part q r.0.front r.0.item r.0.back r.1 r.2 (sorted_there s)
        ∙ ap (λ (l : List (Name × P)). find name_cmp q (plain (marks_of f l))) (sym r.0.is)

    change_reached : (g : Marks V → Marks V) (p : P) (new : List (Name × P)) → new ≡ slice_set ps place (x.0, p) → IsSameBut (f p) (g (f x.1))
        → (IsSameBut (f p) (g (f r.0.item.1)) → IsSameBut (marks_of f (r.0.front ++ (r.0.item.0, p) ∷ r.0.back)) (g (marks_of f (r.0.front ++ r.0.item ∷ r.0.back)))) → IsSameBut (marks_of f new) (g (marks_of f ps))
    change_reached g p new is same change =
        same_trans (same_is (ap (marks_of f) (is ∙ set_here p)))
        (same_trans (change (subst (λ (y : Name × P). IsSameBut (f p) (g (f y.1))) here same)) (same_is (ap (λ (l : List (Name × P)). g (marks_of f l)) (sym r.0.is))))

    pub put_reached : (v : V) (p : P) (new : List (Name × P)) → new ≡ slice_set ps place (x.0, p) → (IsSorted (f x.1) → IsSameBut (f p) (with q v (f x.1))) → IsSorted (marks_of f ps) → IsSameBut (marks_of f new) (with q v (marks_of f ps))
    put_reached v p new is h s = change_reached (with q v) p new is (h (sorted_here s)) (put_part q r.0.front r.0.item r.0.back r.1 r.2 (sorted_there s) v p)

    pub take_reached : (p : P) (new : List (Name × P)) → new ≡ slice_set ps place (x.0, p) → (IsSorted (f x.1) → IsSameBut (f p) (without q (f x.1))) → IsSorted (marks_of f ps) → IsSameBut (marks_of f new) (without q (marks_of f ps))
    take_reached p new is h s = change_reached (without q) p new is (h (sorted_here s)) (take_part q r.0.front r.0.item r.0.back r.1 r.2 (sorted_there s) p)

    -- the part is left with nothing, and taken out
    pub drop_reached : (p : P) (new : List (Name × P)) → new ≡ remove (slice_set ps place (x.0, p)) place → f p ≡ [] → (IsSorted (f x.1) → IsSameBut (f p) (without q (f x.1))) → IsSorted (marks_of f ps) → IsSameBut (marks_of f new) (without q (marks_of f ps))
    drop_reached p new is none h s =
        let a : Around (slice_set ps place (x.0, p)) place = record { front = r.0.front; item = (r.0.item.0, p); back = r.0.back; is = set_here p; at = r.0.at } in
        same_trans (same_is (ap (marks_of f) (is ∙ remove_at a)))
        (same_trans (drop_part r.0.front (r.0.item.0, p) r.0.back none)
        (same_trans (same_is (ap (marks_of f) (sym (set_here p)))) (take_reached p (slice_set ps place (x.0, p)) refl h s)))

  -- the part at a place becomes another, which shows the same
  pub same_reached : (ps : List (Name × P)) (place : ℕ) (a : Around ps place) (x : Name × P) → x ≡ a.item → (p : P) (new : List (Name × P)) → new ≡ slice_set ps place (x.0, p) → IsSameBut (f p) (f x.1) → IsSameBut (marks_of f new) (marks_of f ps)
  same_reached ps place a x here p new is same =
      let set : slice_set ps place (x.0, p) ≡ a.front ++ (x.0, p) ∷ a.back = set_at ps a.front a.item a.back place (x.0, p) a.is a.at in
      let old : ps ≡ a.front ++ x ∷ a.back = a.is ∙ ap (λ (y : Name × P). a.front ++ y ∷ a.back) (sym here) in
      same_trans (same_is (ap (marks_of f) (is ∙ set) ∙ around_is a.front (x.0, p) a.back))
      (same_trans (same_within (ahead a.front x.0) (fenced f a.back) same)
      (same_is (sym (around_is a.front x a.back) ∙ ap (marks_of f) (sym old))))

  -- the part at a place becomes two
  pub halve_reached : (ps : List (Name × P)) (place : ℕ) (a : Around ps place) (x : Name × P) → x ≡ a.item → (p : P) (h : Name × P) (new : List (Name × P)) → new ≡ insert (slice_set ps place (x.0, p)) (place + 1) h → IsSameBut (f p ++ (fence h.0 ∷ f h.1)) (f x.1) → IsSameBut (marks_of f new) (marks_of f ps)
  halve_reached ps place a x here p h new is same =
      let at : length (a.front ++ (x.0, p) ∷ []) ≡ place + 1 = length-append a.front ((x.0, p) ∷ []) ∙ ap (λ n. n + 1) a.at in
      let set : slice_set ps place (x.0, p) ≡ (a.front ++ (x.0, p) ∷ []) ++ a.back = set_at ps a.front a.item a.back place (x.0, p) a.is a.at ∙ sym (append_assoc a.front ((x.0, p) ∷ []) a.back) in
      let made : new ≡ a.front ++ (x.0, p) ∷ h ∷ a.back = is ∙ insert_at (a.front ++ (x.0, p) ∷ []) a.back h set at ∙ append_assoc a.front ((x.0, p) ∷ []) (h ∷ a.back) in
      let old : ps ≡ a.front ++ x ∷ a.back = a.is ∙ ap (λ (y : Name × P). a.front ++ y ∷ a.back) (sym here) in
      same_trans (same_is (ap (marks_of f) made)) (same_trans (halve_part a.front x a.back p h.0 h.1 same) (same_is (ap (marks_of f) (sym old))))

  -- parts are cut in two
  pub split_reached : (old new : List (Name × P)) (t : Name) (back : List (Name × P)) → IsSplit old new t back → IsSameBut (marks_of f new ++ (fence t ∷ marks_of f back)) (marks_of f old)
  split_reached old new t [] h = absurd h.head
  split_reached old new t (x ∷ back) h =
      same_trans (same_is (ap (λ (n : Name). marks_of f new ++ (fence n ∷ marks_of f (x ∷ back))) (sym h.head))) (same_trans (split_parts new x back h.front_some) (same_is (ap (marks_of f) (sym h.is))))
