-- The laws of the plain map, its parts, and the parts together.
use Rattle.std.proofs.Common.{◌≡◌, ◌≢◌, ℕ, zero, suc, ◌<◌, ◌==◌, nat_lt, Bool, true, false, cond, List, [], ◌∷◌, ◌++◌, Option, Some, None, arith, refl, sym, ap, ◌∙◌}
use Rattle.std.proofs.lemmas.Bool.Decides.{nat_tests}
use Rattle.std.specs.declared.cmp.Ordering.{Ordering}
use Rattle.std.specs.Ordering.{eq_by_cmp, is_eq}
use Rattle.std.specs.declared.cmp.Ordering.TheVariants.{Equal}
use Rattle.std.specs.Cmp.{tied_itself}
use Rattle.std.specs.Cmp.Lexicographic.{nat_list_cmp_total}
use Rattle.std.specs.FinMap.{IsAntisymmetric, slice_cmp-IsAntisymmetric, nat_cmp-IsAntisymmetric, get-insert, get-remove, get-retain_keys, get-empty, get-entries, get-from_entries, same_map, find}
use Rattle.std.specs.FinMap as finite
use Rattle.map_core.specs.declared.held.Holding.{Holding}
use Rattle.map_core.specs.Name.{Name, name_cmp}
use Rattle.map_core.specs.PlainMap.{PlainMap, put, home, partition, union, merge}

name_exact : IsAntisymmetric name_cmp
name_exact = slice_cmp-IsAntisymmetric nat_cmp-IsAntisymmetric

-- whether two names are the same
abbrev pub is_name : Name → Name → Bool
is_name q d = eq_by_cmp name_cmp q d

tied : (o : Ordering) → is_eq o ≡ true → o ≡ Equal
tied o h = grind arith

pub same_name : (q d : Name) → is_name q d ≡ true → q ≡ d
same_name q d h = name_exact q d (tied _ h)

pub name_itself : (d : Name) → is_name d d ≡ true
name_itself d = ap is_eq (tied_itself nat_list_cmp_total d)

-- two maps that hold the same under each name are one
pub same_held : (m n : PlainMap) → ((q : Name) → finite.get m q ≡ finite.get n q) → m ≡ n
same_held = same_map nat_list_cmp_total name_exact

pub get-put : (m : PlainMap) (d : Name) (held : Option Holding) (q : Name) → finite.get (put m d held) q ≡ cond (is_name q d) held (finite.get m q)
get-put m d (Some held) q = get-insert nat_list_cmp_total m d held q
get-put m d None q = get-remove nat_list_cmp_total m d q

pub get-part : (n : ℕ) (m : PlainMap) (i : ℕ) (q : Name) → finite.get (partition n m i) q ≡ cond (home n q == i) (finite.get m q) None
unfolding partition
get-part n m i q = get-retain_keys m (λ d. home n d == i) q (λ x tie. ap (λ (d : Name). home n d == i) (sym (name_exact q x tie)))

-- to put back what is held changes nothing
put_back : (b : Bool) (held here there : Option Holding) → (b ≡ true → there ≡ here) → held ≡ here → cond b held there ≡ there
put_back b held here there same is = grind arith

pub put-same : (m : PlainMap) (d : Name) (held : Option Holding) → held ≡ finite.get m d → put m d held ≡ m
put-same m d held is =
    same_held _ _ (λ q. get-put m d held q ∙ put_back (is_name q d) held (finite.get m d) (finite.get m q) (λ t. ap (finite.get m) (same_name q d t)) is)

pub get-part_home : (n : ℕ) (m : PlainMap) (i : ℕ) (d : Name) → home n d ≡ i → finite.get (partition n m i) d ≡ finite.get m d
get-part_home n m i d at =
    let here : (home n d == i) ≡ true = grind (arith, nat_tests) in get-part n m i d ∙ ap (λ b. cond b (finite.get m d) None) here

swapped : (a b : Bool) (x y z : Option Holding) → (a ≡ true → b ≡ true) → cond b (cond a x y) z ≡ cond a x (cond b y z)
swapped a b x y z h = grind arith

apart : (a b : Bool) (x y z : Option Holding) → (a ≡ true → b ≡ false) → cond b (cond a x y) z ≡ cond b y z
apart a b x y z h = grind arith

at_home : (n i : ℕ) (q d : Name) → home n d ≡ i → is_name q d ≡ true → (home n q == i) ≡ true
at_home n i q d at is = let e : home n q ≡ home n d = ap (home n) (same_name q d is) in grind (arith, nat_tests)

away : (n i : ℕ) (q d : Name) → home n d ≢ i → is_name q d ≡ true → (home n q == i) ≡ false
away n i q d at is = let e : home n q ≡ home n d = ap (home n) (same_name q d is) in grind (arith, nat_tests)

pub part-put_home : (n : ℕ) (m : PlainMap) (i : ℕ) (d : Name) (held : Option Holding) → home n d ≡ i → partition n (put m d held) i ≡ put (partition n m i) d held
part-put_home n m i d held at =
    same_held _ _ (λ q.
    get-part n (put m d held) i q
    ∙ ap (λ x. cond (home n q == i) x None) (get-put m d held q)
    ∙ swapped (is_name q d) (home n q == i) held (finite.get m q) None (at_home n i q d at)
    ∙ ap (λ x. cond (is_name q d) held x) (sym (get-part n m i q))
    ∙ sym (get-put (partition n m i) d held q))

pub part-put_away : (n : ℕ) (m : PlainMap) (i : ℕ) (d : Name) (held : Option Holding) → home n d ≢ i → partition n (put m d held) i ≡ partition n m i
part-put_away n m i d held at =
    same_held _ _ (λ q.
    get-part n (put m d held) i q
    ∙ ap (λ x. cond (home n q == i) x None) (get-put m d held q)
    ∙ apart (is_name q d) (home n q == i) held (finite.get m q) None (away n i q d at)
    ∙ sym (get-part n m i q))

-- the first of two that is there
abbrev pub or_else : Option Holding → Option Holding → Option Holding
or_else (Some x) y = Some x
or_else None y = y

or_else_cond : (b : Bool) (x y z : Option Holding) → cond b (or_else x y) (or_else z y) ≡ or_else (cond b x z) y
or_else_cond b x y z = grind arith

find-append : (q : Name) (es fs : List (Name × Holding)) → find name_cmp q (es ++ fs) ≡ or_else (find name_cmp q es) (find name_cmp q fs)
find-append q [] fs = refl
find-append q (e ∷ es) fs =
    ap (cond (is_name q e.0) (Some e.1)) (find-append q es fs) ∙ or_else_cond (is_name q e.0) (Some e.1) (find name_cmp q fs) (find name_cmp q es)

pub get-join : (m p : PlainMap) (q : Name) → finite.get (union m p) q ≡ or_else (finite.get p q) (finite.get m q)
get-join m p q =
    get-from_entries nat_list_cmp_total _ q ∙ find-append q (finite.entries p) (finite.entries m)
    ∙ (λ i. or_else (sym (get-entries p q) i) (sym (get-entries m q) i))

more : (h k : ℕ) (x : Option Holding) → or_else (cond (h == k) x None) (cond (nat_lt h k) x None) ≡ cond (nat_lt h (suc k)) x None
more h k x = grind (arith, nat_tests)

none_below : (h : ℕ) (x : Option Holding) → None ≡ cond (nat_lt h 0) x None
none_below h x = grind (arith, nat_tests)

get-together : (n : ℕ) (m : PlainMap) (k : ℕ) (q : Name) → finite.get (merge k (partition n m)) q ≡ cond (nat_lt (home n q) k) (finite.get m q) None
unfolding merge
get-together n m zero q = get-empty name_cmp q ∙ none_below (home n q) (finite.get m q)
get-together n m (suc k) q =
    get-join (merge k (partition n m)) (partition n m k) q
    ∙ (λ i. or_else (get-part n m k q i) (get-together n m k q i))
    ∙ more (home n q) k (finite.get m q)

pub home-lt : (n : ℕ) (d : Name) → 0 < n → home n d < n
unfolding home
home-lt n d h = omega arith

below : (h n : ℕ) (x : Option Holding) → h < n → cond (nat_lt h n) x None ≡ x
below h n x l = grind (arith, nat_tests)

pub together_parts : (n : ℕ) (m : PlainMap) → 0 < n → merge n (partition n m) ≡ m
together_parts n m h = same_held _ _ (λ q. get-together n m n q ∙ below (home n q) n (finite.get m q) (home-lt n q h))

pub together_same : (k : ℕ) (f g : ℕ → PlainMap) → ((j : ℕ) → j < k → f j ≡ g j) → merge k f ≡ merge k g
unfolding merge
together_same zero f g h = refl
together_same (suc k) f g h = λ i. union (together_same k f g (λ j l. h j (omega arith)) i) (h k (omega arith) i)

either : (b : Bool) (x : Option Holding) → None ≡ x → cond b x None ≡ x
either b x e = grind arith

pub part-empty : (n i : ℕ) → partition n finite.empty i ≡ finite.empty
part-empty n i = same_held _ _ (λ q. get-part n finite.empty i q ∙ either (home n q == i) _ (sym (get-empty name_cmp q)))

-- ---- parts that hold only names of their own are the parts of what they are together
pick : (h k : ℕ) (f : ℕ → Option Holding) → cond (h == k) (f k) None ≡ cond (h == k) (f h) None
pick h k f = grind (arith, nat_tests)

abbrev pub AtHome : ℕ → ℕ → (ℕ → PlainMap) → Type 0
AtHome n k parts = (j : ℕ) → j < k → partition n (parts j) j ≡ parts j

get-gathered : (n : ℕ) (parts : ℕ → PlainMap) (k : ℕ) (q : Name) → AtHome n k parts → finite.get (merge k parts) q ≡ cond (nat_lt (home n q) k) (finite.get (parts (home n q)) q) None
unfolding merge
get-gathered n parts zero q h = get-empty name_cmp q ∙ none_below (home n q) (finite.get (parts (home n q)) q)
get-gathered n parts (suc k) q h =
    let own : finite.get (parts k) q ≡ cond (home n q == k) (finite.get (parts k) q) None = ap (λ (m : PlainMap). finite.get m q) (sym (h k (omega arith))) ∙ get-part n (parts k) k q in
    get-join (merge k parts) (parts k) q
    ∙ (λ i. or_else ((own ∙ pick (home n q) k (λ j. finite.get (parts j) q)) i) (get-gathered n parts k q (λ j l. h j (omega (arith, l))) i))
    ∙ more (home n q) k (finite.get (parts (home n q)) q)

below_own : (h n i : ℕ) (f : ℕ → Option Holding) → h < n → cond (h == i) (cond (nat_lt h n) (f h) None) None ≡ cond (h == i) (f i) None
below_own h n i f l = ap (λ x. cond (h == i) x None) (below h n (f h) l) ∙ sym (pick h i f)

pub part-together : (n : ℕ) (parts : ℕ → PlainMap) → 0 < n → AtHome n n parts → (i : ℕ) → i < n → partition n (merge n parts) i ≡ parts i
part-together n parts some h i l =
    same_held _ _ (λ q.
    get-part n (merge n parts) i q
    ∙ ap (λ x. cond (home n q == i) x None) (get-gathered n parts n q h)
    ∙ below_own (home n q) n i (λ j. finite.get (parts j) q) (home-lt n q some)
    ∙ sym (get-part n (parts i) i q)
    ∙ ap (λ (m : PlainMap). finite.get m q) (h i l))
