-- What a search among entries in order says.
use Rattle.std.proofs.Common.{◌≡◌, inr, ◌+◌, ℕ, List, [], ◌∷◌, ◌++◌, Some, None, is_some, bytes_eq, true, false, refl, sym, ap, subst, ◌∙◌, append_assoc, length-append, arith}
use Rattle.std.specs.Prelude.{T, slice_index_or}
use Rattle.std.specs.List.{insert, remove}
use Rattle.std.specs.declared.cmp.Ordering.TheVariants.{Equal, Greater}
use Rattle.std.specs.Ordering.{is_eq, is_lt}
use Rattle.std.specs.declared.cmp.Ordering.{Ordering}
use Rattle.std.specs.Cmp.Lexicographic.{nat_list_cmp_total, texts_ties}
use Rattle.std.specs.FinMap.Entries.{find, put, where_key, is_sorted}
use Rattle.shared_map.specs.Name.{Name, name_cmp}
use Rattle.shared_map.specs.Places.{Around, IsReached, IsTaken, IsFree, IsSplit}
use Rattle.shared_map.specs.Marks.{IsSorted, IsSameBut, fence, entries_only, plain, with, without}
use Rattle.shared_map.proofs.Places.{read_at, insert_at, remove_at}
use Rattle.shared_map.proofs.Sides.{others, find_inside, put_inside, kept_inside, find_middle, put_middle, kept_middle}
use Rattle.shared_map.proofs.Plain.{sorted_names, plain-entries_only, entries_only-with, entries_only-without}
use Rattle.shared_map.proofs.Same.{same_is, same_trans, fence_in}

pub seat_equal : {X : Type 0} {q : Name} {xs : List (Name × X)} {place : ℕ} → (a : Around xs place) → (d : Name × X) → name_cmp q (slice_index_or xs place d).0 ≡ Equal → IsTaken q xs place
seat_equal {X} {q} {xs} {place} a d same =
    record { around = a; same = ap (λ (y : Name × X). name_cmp q y.0) (sym (read_at a d)) ∙ same }

pub seat_greater : {X : Type 0} {q : Name} {xs : List (Name × X)} {place : ℕ} → (r : IsReached q xs place) → (d : Name × X) → name_cmp q (slice_index_or xs place d).0 ≡ Greater → IsFree q xs (place + 1)
seat_greater {X} {q} {xs} {place} r d more =
    let greater : name_cmp q r.0.item.0 ≡ Greater = ap (λ (y : Name × X). name_cmp q y.0) (sym (read_at r.0 d)) ∙ more in
    record {
      front = r.0.front ++ r.0.item ∷ [];
      back = r.0.back;
      is = r.0.is ∙ sym (append_assoc r.0.front (r.0.item ∷ []) r.0.back);
      at = length-append r.0.front (r.0.item ∷ []) ∙ ap (λ n. n + 1) r.0.at;
      after = inr (r.0.front, r.0.item, refl, greater);
      before = r.2;
    }

tied : (o : Ordering) → is_eq o ≡ true → o ≡ Equal
tied o h = grind arith

past : (o : Ordering) → is_eq o ≡ false → is_lt o ≡ false → o ≡ Greater
past o h k = grind arith

-- the name at a place is the one that was sought
pub seat_same : {X : Type 0} {q : Name} {xs : List (Name × X)} {place : ℕ} → (a : Around xs place) → (d : Name × X) → bytes_eq q (slice_index_or xs place d).0 ≡ true → IsTaken q xs place
seat_same {X} {q} {xs} {place} a d same = seat_equal a d (tied _ (sym (texts_ties q (slice_index_or xs place d).0) ∙ same))

-- the name that was sought is another, and not before it
pub seat_past : {X : Type 0} {q : Name} {xs : List (Name × X)} {place : ℕ} → (r : IsReached q xs place) → (d e : Name × X) → bytes_eq q (slice_index_or xs place d).0 ≡ false → is_lt (name_cmp q (slice_index_or xs place e).0) ≡ false → IsFree q xs (place + 1)
seat_past {X} {q} {xs} {place} r d e other not_less =
    let there : slice_index_or xs place d ≡ slice_index_or xs place e = read_at r.0 d ∙ sym (read_at r.0 e) in
    seat_greater r e (past _ (sym (texts_ties q (slice_index_or xs place e).0) ∙ ap (λ (y : Name × X). bytes_eq q y.0) (sym there) ∙ other) not_less)

module _ {V : Type 0} (q : Name) (es : List (Name × V)) (s : IsSorted (entries_only es)) where
  names : T (is_sorted name_cmp es)
  names = sorted_names es s

  of_plain : find name_cmp q es ≡ find name_cmp q (plain (entries_only es))
  of_plain = ap (find name_cmp q) (sym (plain-entries_only es))

  module _ (place : ℕ) (free : IsFree q es place) where
    names_free : T (is_sorted name_cmp (free.front ++ ([] ++ free.back)))
    names_free = subst (λ (l : List (Name × V)). T (is_sorted name_cmp l)) free.is names

    pub free_find : None ≡ find name_cmp q (plain (entries_only es))
    free_find = sym (ap (find name_cmp q) free.is ∙ find_inside name_cmp nat_list_cmp_total q free.front [] free.back names_free free.after free.before) ∙ of_plain

    pub free_put : (v : V) (new : List (Name × V)) → new ≡ insert es place (q, v) → IsSameBut (entries_only new) (with q v (entries_only es))
    free_put v new made =
        let is : new ≡ put name_cmp q v es = made ∙ insert_at free.front free.back (q, v) free.is free.at ∙ sym (put_inside name_cmp nat_list_cmp_total q free.front [] free.back names_free free.after free.before v) ∙ ap (put name_cmp q v) (sym free.is) in
        same_is (ap entries_only is ∙ entries_only-with q v es)

    pub free_without : IsSameBut (entries_only es) (without q (entries_only es))
    free_without =
        let is : es ≡ where_key name_cmp (others name_cmp q) es = free.is ∙ sym (kept_inside name_cmp nat_list_cmp_total q free.front [] free.back names_free free.after free.before) ∙ ap (where_key name_cmp (others name_cmp q)) (sym free.is) in
        same_is (ap entries_only is ∙ entries_only-without q es)

  module _ (place : ℕ) (taken : IsTaken q es place) where
    names_taken : T (is_sorted name_cmp (taken.around.front ++ taken.around.item ∷ taken.around.back))
    names_taken = subst (λ (l : List (Name × V)). T (is_sorted name_cmp l)) taken.around.is names

    found : Some taken.around.item.1 ≡ find name_cmp q (plain (entries_only es))
    found = sym (ap (find name_cmp q) taken.around.is ∙ find_middle name_cmp nat_list_cmp_total q taken.around.front taken.around.item taken.around.back names_taken taken.same) ∙ of_plain

    pub taken_find : (d : Name × V) → Some (slice_index_or es place d).1 ≡ find name_cmp q (plain (entries_only es))
    taken_find d = ap (λ (y : Name × V). Some y.1) (read_at taken.around d) ∙ found

    pub taken_some : true ≡ is_some (find name_cmp q (plain (entries_only es)))
    taken_some = ap is_some found

    pub taken_put : (v : V) (new : List (Name × V)) → new ≡ taken.around.front ++ (taken.around.item.0, v) ∷ taken.around.back → IsSameBut (entries_only new) (with q v (entries_only es))
    taken_put v new made =
        let is : new ≡ put name_cmp q v es = made ∙ sym (put_middle name_cmp nat_list_cmp_total q v taken.around.front taken.around.item taken.around.back names_taken taken.same) ∙ ap (put name_cmp q v) (sym taken.around.is) in
        same_is (ap entries_only is ∙ entries_only-with q v es)

    pub taken_without : (new : List (Name × V)) → new ≡ remove es place → IsSameBut (entries_only new) (without q (entries_only es))
    taken_without new made =
        let is : new ≡ where_key name_cmp (others name_cmp q) es = made ∙ remove_at taken.around ∙ sym (kept_middle name_cmp nat_list_cmp_total q taken.around.front taken.around.item taken.around.back names_taken taken.same) ∙ ap (where_key name_cmp (others name_cmp q)) (sym taken.around.is) in
        same_is (ap entries_only is ∙ entries_only-without q es)

-- entries are cut in two
pub split_entries : {V : Type 0} (old new : List (Name × V)) (t : Name) (back : List (Name × V)) → IsSplit old new t back → IsSameBut (entries_only new ++ (fence t ∷ entries_only back)) (entries_only old)
split_entries old new t [] h = absurd h.head
split_entries old new t (x ∷ back) h =
    same_trans (same_is (ap (λ (n : Name). entries_only new ++ (fence n ∷ entries_only (x ∷ back))) (sym h.head))) (same_trans (fence_in new x back h.front_some) (same_is (ap entries_only (sym h.is))))
