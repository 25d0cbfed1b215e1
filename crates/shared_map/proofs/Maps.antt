-- Marks in order, seen as a finite map.
use Rattle.std.proofs.Common.{◌≡◌, ℕ, ◌+◌, ◌-◌, Bool, true, false, cond, not, List, [], length, Option, Some, None, is_some, sym, ap, subst, ◌∙◌, arith, Bor}
use Rattle.std.proofs.lemmas.List.{nil_from_length}
use Rattle.std.specs.Prelude.{T, option_copied}
use Rattle.std.specs.Ordering.{is_eq, eq_by_cmp}
use Rattle.std.specs.Cmp.{eq_by_cmp_equiv}
use Rattle.std.specs.declared.cmp.Ordering.{Ordering}
use Rattle.std.specs.declared.cmp.Ordering.TheVariants.{Equal}
use Rattle.std.specs.Cmp.Lexicographic.{nat_list_cmp_total}
use Rattle.std.specs.FinMap.{FinMap, get, get-remove, get-from_sorted, entries, entries-from_sorted, entries-insert, same_entries_map, same_map, len, len-entries}
use Rattle.std.specs.FinMap as finite
use Rattle.std.specs.FinMap.Entries.{find, put, is_sorted, where_key, is_sorted-put, is_sorted-where_key, find-where_key, length-put, length_without}
use Rattle.shared_map.specs.declared.top.Top.{Top}
use Rattle.shared_map.specs.Name.{Name, name_cmp}
use Rattle.shared_map.specs.Marks.{key_cmp, Marks, IsSorted, IsSameBut, plain, with, without}
use Rattle.shared_map.specs.Top.{top_marks}
use Rattle.shared_map.proofs.Sides.{others}
use Rattle.shared_map.proofs.Plain.{key_total, name_exact, sorted_plain, plain_with, plain_without}
use Rattle.shared_map.proofs.Same.{sorted_new}

tied : (o : Ordering) → is_eq o ≡ true → o ≡ Equal
tied o h = grind arith

flipped : {X : Type 0} (a b : Bool) (x y : Option X) → a ≡ b → x ≡ y → cond (not a) x None ≡ cond b None y
flipped a b x y h e = grind arith

absent : {X : Type 0} (b : Bool) (x : Option X) → (b ≡ true → x ≡ None) → x ≡ cond b None x
absent b x h = grind arith

none_of : {X : Type 0} (o : Option X) → is_some o ≡ false → o ≡ None
none_of o e = grind arith

module _ {V : Type 0} (es : List (Name × V)) (s : T (is_sorted name_cmp es)) where
  shown-entries : entries (finite.from_sorted {R = name_cmp} es) ≡ es
  shown-entries = entries-from_sorted name_cmp es s

  shown-len : len (finite.from_sorted {R = name_cmp} es) ≡ length es
  shown-len = len-entries (finite.from_sorted es) ∙ ap length shown-entries

  shown-get : (q : Name) → get (finite.from_sorted {R = name_cmp} es) q ≡ find name_cmp q es
  shown-get q = get-from_sorted name_cmp es q s

  shown-insert : (k : Name) (v : V) → finite.from_sorted {R = name_cmp} (put name_cmp k v es) ≡ finite.insert (finite.from_sorted es) k v
  shown-insert k v =
      same_entries_map _ _
      (entries-from_sorted name_cmp (put name_cmp k v es) (is_sorted-put name_cmp nat_list_cmp_total k v es s) ∙ ap (put name_cmp k v) (sym shown-entries) ∙ sym (entries-insert nat_list_cmp_total (finite.from_sorted es) k v))

  shown-remove : (k : Name) → finite.from_sorted {R = name_cmp} (where_key name_cmp (others name_cmp k) es) ≡ finite.remove (finite.from_sorted es) k
  shown-remove k =
      same_map nat_list_cmp_total name_exact _ _ (λ q.
      get-from_sorted name_cmp (where_key name_cmp (others name_cmp k) es) q (is_sorted-where_key name_cmp (others name_cmp k) es s)
      ∙ find-where_key name_cmp (others name_cmp k) q (λ x t. ap (λ (y : Name). not (eq_by_cmp name_cmp k y)) (sym (name_exact q x t))) es
      ∙ flipped (eq_by_cmp name_cmp k q) (eq_by_cmp name_cmp q k) _ _ ((eq_by_cmp_equiv nat_list_cmp_total).symm k q) (sym (shown-get q))
      ∙ sym (get-remove nat_list_cmp_total (finite.from_sorted es) k q))

pub remove_absent : {V : Type 0} (m : FinMap name_cmp V) (k : Name) → is_some (get m k) ≡ false → m ≡ finite.remove m k
remove_absent m k none =
    same_map nat_list_cmp_total name_exact _ _ (λ q.
    absent (eq_by_cmp name_cmp q k) (get m q) (λ t. ap (get m) (name_exact q k (tied _ t)) ∙ none_of _ none) ∙ sym (get-remove nat_list_cmp_total m k q))

counts_more : (b is_new : Bool) (a l t n : ℕ) → is_new ≡ not b → is_new ≡ true → a ≡ l → n ≡ a + 1 → t ≡ cond b l (l + 1) → n ≡ t
counts_more b is_new a l t n p q r u w = grind arith

counts_same : (b is_new : Bool) (a l t : ℕ) → is_new ≡ not b → is_new ≡ false → a ≡ l → t ≡ cond b l (l + 1) → a ≡ t
counts_same b is_new a l t p q r w = grind arith

counts_less : (b : Bool) (n a t l : ℕ) → b ≡ true → n ≡ a - 1 → a ≡ l → cond b 1 0 + t ≡ l → n ≡ t
counts_less b n a t l h p q r = grind arith

-- what the map m is shown by
module _ {V : Type 0} (m : FinMap name_cmp V) (ms : Marks V) (is : finite.from_sorted (plain ms) ≡ m) (s : IsSorted ms) where
  names : T (is_sorted name_cmp (plain ms))
  names = sorted_plain ms s

  pub len_is : len m ≡ length (plain ms)
  len_is = ap len (sym is) ∙ shown-len (plain ms) names

  pub entries_is : plain ms ≡ entries m
  entries_is = sym (shown-entries (plain ms) names) ∙ ap entries is

  pub get_is : (q : Name) → find name_cmp q (plain ms) ≡ get m q
  get_is q = sym (shown-get (plain ms) names q) ∙ ap (λ x. get x q) is

  module _ (n : Name) (v : V) (new : Marks V) (same : IsSameBut new (with n v ms)) where
    made : plain new ≡ put name_cmp n v (plain ms)
    made = same.entries ∙ plain_with n v ms s

    pub inserted : finite.from_sorted {R = name_cmp} (plain new) ≡ finite.insert m n v
    inserted = ap (finite.from_sorted {R = name_cmp}) made ∙ shown-insert (plain ms) names n v ∙ ap (λ x. finite.insert x n v) is

    pub inserted_sorted : IsSorted new
    inserted_sorted = sorted_new same (is_sorted-put key_cmp key_total (n, true) (Some v) ms s)

    count : length (plain new) ≡ cond (is_some (find name_cmp n (plain ms))) (length (plain ms)) (length (plain ms) + 1)
    count = ap length made ∙ length-put name_cmp nat_list_cmp_total n v (plain ms) names

    pub inserted_more : (is_new : Bool) (before after : ℕ) → is_new ≡ not (is_some (find name_cmp n (plain ms))) → is_new ≡ true → before ≡ length (plain ms) → after ≡ before + 1 → after ≡ length (plain new)
    inserted_more is_new before after told new_one was more = counts_more _ is_new before _ _ after told new_one was more count

    pub inserted_over : (is_new : Bool) (before : ℕ) → is_new ≡ not (is_some (find name_cmp n (plain ms))) → is_new ≡ false → before ≡ length (plain ms) → before ≡ length (plain new)
    inserted_over is_new before told old was = counts_same _ is_new before _ _ told old was count

  module _ (n : Name) (new : Marks V) (same : IsSameBut new (without n ms)) where
    left : plain new ≡ where_key name_cmp (others name_cmp n) (plain ms)
    left = same.entries ∙ plain_without n ms

    pub removed : finite.from_sorted {R = name_cmp} (plain new) ≡ finite.remove m n
    removed = ap (finite.from_sorted {R = name_cmp}) left ∙ shown-remove (plain ms) names n ∙ ap (λ x. finite.remove x n) is

    pub removed_sorted : IsSorted new
    removed_sorted = sorted_new same (is_sorted-where_key key_cmp (λ k. not (eq_by_cmp key_cmp (n, true) k)) ms s)

    pub removed_less : (before after : ℕ) → is_some (get m n) ≡ true → before ≡ length (plain ms) → after ≡ before - 1 → after ≡ length (plain new)
    removed_less before after there was less =
        counts_less (is_some (find name_cmp n (plain ms))) after before (length (plain new)) (length (plain ms)) (ap is_some (get_is n) ∙ there) less was
        (ap (λ (l : List (Name × V)). cond (is_some (find name_cmp n (plain ms))) 1 0 + length l) left ∙ length_without name_cmp nat_list_cmp_total n (plain ms) names)

pub nothing : {A : Type 0} (l : List A) (n : ℕ) → n ≡ length l → n ≡ 0 → l ≡ []
nothing l n is z = nil_from_length l (sym is ∙ z)

pub is_some_copied : {A : Type 0} (o : Option (Bor A)) → is_some (option_copied o) ≡ is_some o
is_some_copied o = grind arith

-- the levels o, with this many entries, show the map m
pub record Shows {V : Type 0} (o : Option (Top V)) (count : ℕ) (m : FinMap name_cmp V) : Type 0 where
  pub view : finite.from_sorted {R = name_cmp} (plain (top_marks o)) ≡ m
  pub sorted : IsSorted (top_marks o)
  pub counted : count ≡ length (plain (top_marks o))

pub shows_at : {V : Type 0} {o p : Option (Top V)} {count : ℕ} {m : FinMap name_cmp V} → o ≡ p → finite.from_sorted {R = name_cmp} (plain (top_marks o)) ≡ m → IsSorted (top_marks o) × (count ≡ length (plain (top_marks o))) → Shows p count m
shows_at {V} {o} {p} {count} {m} is view kept = subst (λ x. Shows x count m) is (record { view = view; sorted = kept.0; counted = kept.1 })

-- other levels that show the same
pub roomed : {V : Type 0} {o : Option (Top V)} {count : ℕ} {m : FinMap name_cmp V} → Shows o count m → (p : Option (Top V)) → IsSameBut (top_marks p) (top_marks o) → Shows p count m
roomed h p same = record { view = ap (finite.from_sorted {R = name_cmp}) same.entries ∙ h.view; sorted = sorted_new same h.sorted; counted = h.counted ∙ ap length (sym same.entries) }
