-- Bundles and marks, each in a map of their own.
use Rattle.std.proofs.Common.{◌≡◌, T, Bool, true, false, cond, List, [], ◌∷◌, length, suc, not, Option, Some, None, is_some, Bor, Result, Ok, Err, IfOk, OnOk, OnErr, refl, sym, ap, subst, ◌∙◌, arith}
use Rattle.std.specs.Prelude.{option_copied}
use Rattle.std.specs.FinMap.Entries.{below_all}
use Rattle.std.specs.FinMap.{find, get-entries, get-from_sorted, entries-from_sorted, get-empty, is_sorted}
use Rattle.std.specs.FinMap as finite
use Rattle.map_core.specs.declared.held.Holding.{Holding}
use Rattle.map_core.specs.declared.held.Holding.TheVariants.{Published, Mark}
use Rattle.map_core.specs.Name.{Name, name_cmp}
use Rattle.map_core.specs.PlainMap.{PlainMap, put, union, bundles_among, bundles}
use Rattle.map_core.specs.Private.Held.{is_bundle, is_mark, HasNoBundle, HasNoMark, only_bundle, HaveSameBundles}
use Rattle.map_core.proofs.Maps.{is_name, same_name, same_held, or_else, get-put, put-same, get-join}
use Rattle.map_core.proofs.Entries.{first, second, both, find-below}

-- ---- what stands after a step that may fail
pub after : {X E : Type 0} (P : PlainMap → Type 0) (r : Result X E) (new changed old : PlainMap) → OnOk r (new ≡ changed) → OnErr r (new ≡ old) → P changed → P old → P new
after P (Ok x) new changed old ok err c o = subst P (sym ok) c
after P (Err e) new changed old ok err c o = subst P (sym err) o

pub on_ok : {X E : Type 0} (r : Result X E) {A B : Type 0} → (A → B) → OnOk r A → OnOk r B
on_ok (Ok x) f a = f a
on_ok (Err e) f a = tt

pub on_err : {X E : Type 0} (r : Result X E) {A B : Type 0} → (A → B) → OnErr r A → OnErr r B
on_err (Ok x) f a = tt
on_err (Err e) f a = f a

pub if_ok : {X E : Type 0} (r : Result X E) {A B : X → Type 0} → ((x : X) → A x → B x) → IfOk r A → IfOk r B
if_ok (Ok x) f a = f x a
if_ok (Err e) f a = tt

-- ---- a change under one name
together : (t : Bool) (a b x y : Option Holding) → or_else (cond t b x) (cond t a y) ≡ cond t (or_else b a) (or_else x y)
together t a b x y = grind arith

pub union-put : (m p : PlainMap) (d : Name) (a b : Option Holding) → union (put m d a) (put p d b) ≡ put (union m p) d (or_else b a)
union-put m p d a b =
    same_held _ _ (λ q.
    get-join (put m d a) (put p d b) q
    ∙ (λ i. or_else (get-put p d b q i) (get-put m d a q i))
    ∙ together (is_name q d) a b (finite.get p q) (finite.get m q)
    ∙ ap (cond (is_name q d) (or_else b a)) (sym (get-join m p q))
    ∙ sym (get-put (union m p) d (or_else b a) q))

-- a bundle is put beside the marks
pub union-bundle : (m p : PlainMap) (d : Name) (held : Holding) → union m (put p d (Some held)) ≡ put (union m p) d (Some held)
union-bundle m p d held =
    ap (λ x. union x (put p d (Some held))) (sym (put-same m d (finite.get m d) refl)) ∙ union-put m p d (finite.get m d) (Some held)

-- a change of the marks where no bundle is
pub union-bare : (m p : PlainMap) (d : Name) (a : Option Holding) → finite.get p d ≡ None → union (put m d a) p ≡ put (union m p) d a
union-bare m p d a none =
    ap (union (put m d a)) (sym (put-same p d (finite.get p d) refl)) ∙ union-put m p d a (finite.get p d)
    ∙ ap (λ x. put (union m p) d (or_else x a)) none

some_first : (x a y : Option Holding) → is_some x ≡ true → or_else x a ≡ or_else x y
some_first x a y e = grind arith

-- a change of the marks under a bundle is not seen
pub union-hidden : (m p : PlainMap) (d : Name) (a : Option Holding) → is_some (finite.get p d) ≡ true → union (put m d a) p ≡ union m p
union-hidden m p d a there =
    ap (union (put m d a)) (sym (put-same p d (finite.get p d) refl)) ∙ union-put m p d a (finite.get p d)
    ∙ put-same (union m p) d _ (some_first _ a (finite.get m d) there ∙ sym (get-join m p d))

-- ---- what is found
-- nothing was found
pub is_bare : (r : Option (Bor Holding)) (x : Option Holding) (none : Bool) → option_copied r ≡ x → is_some r ≡ not none → none ≡ true → x ≡ None
is_bare r x none is told t = grind arith

-- something was found
pub is_there : (r : Option (Bor Holding)) (x : Option Holding) (none : Bool) → option_copied r ≡ x → is_some r ≡ not none → none ≡ false → is_some x ≡ true
is_there r x none is told t = grind arith

pub at-bundle : (m p u : PlainMap) (d : Name) (held : Holding) → union m p ≡ u → finite.get p d ≡ Some held → Some held ≡ finite.get u d
at-bundle m p u d held is there =
    sym (ap (λ x. or_else x (finite.get m d)) there) ∙ sym (get-join m p d) ∙ ap (λ x. finite.get x d) is

pub at-mark : (m p u : PlainMap) (d : Name) → union m p ≡ u → finite.get p d ≡ None → finite.get m d ≡ finite.get u d
at-mark m p u d is none = sym (ap (λ x. or_else x (finite.get m d)) none) ∙ sym (get-join m p d) ∙ ap (λ x. finite.get x d) is

kept : (t : Bool) (f : Option Holding → Bool) (a x : Option Holding) → f a ≡ false → f x ≡ false → f (cond t a x) ≡ false
kept t f a x h k = grind arith

pub no_bundle-put : (m : PlainMap) (d : Name) (a : Option Holding) → is_bundle a ≡ false → HasNoBundle m → HasNoBundle (put m d a)
no_bundle-put m d a none h = λ q. ap is_bundle (get-put m d a q) ∙ kept (is_name q d) is_bundle a (finite.get m q) none (h q)

pub no_mark-put : (m : PlainMap) (d : Name) (a : Option Holding) → is_mark a ≡ false → HasNoMark m → HasNoMark (put m d a)
no_mark-put m d a none h = λ q. ap is_mark (get-put m d a q) ∙ kept (is_name q d) is_mark a (finite.get m q) none (h q)

pub no_bundle-empty : HasNoBundle finite.empty
no_bundle-empty = λ q. ap is_bundle (get-empty name_cmp q)

pub no_mark-empty : HasNoMark finite.empty
no_mark-empty = λ q. ap is_mark (get-empty name_cmp q)

-- ---- the bundles among entries in order
published : List (Name × Holding) → List (Name × Holding)
published [] = []
published ((d, Published b) ∷ es) = (d, Published b) ∷ published es
published ((d, Mark s) ∷ es) = published es

below-published : (d : Name) (es : List (Name × Holding)) → T (below_all name_cmp d es) → T (below_all name_cmp d (published es))
unfolding published
below-published d [] h = tt
below-published d ((e, Published b) ∷ es) h = both _ _ (first _ _ h) (below-published d es (second _ _ h))
below-published d ((e, Mark s) ∷ es) h = below-published d es (second _ _ h)

sorted-published : (es : List (Name × Holding)) → T (is_sorted name_cmp es) → T (is_sorted name_cmp (published es))
unfolding published
sorted-published [] h = tt
sorted-published ((d, Published b) ∷ es) h = both _ _ (below-published d es (first _ _ h)) (sorted-published es (second _ _ h))
sorted-published ((d, Mark s) ∷ es) h = sorted-published es (second _ _ h)

found : (t : Bool) (h : Holding) (x y : Option Holding) → only_bundle (Some h) ≡ Some h → x ≡ only_bundle y → cond t (Some h) x ≡ only_bundle (cond t (Some h) y)
found t h x y is e = grind arith

passed : (t : Bool) (s x : Option Holding) → only_bundle s ≡ None → (t ≡ true → x ≡ None) → only_bundle x ≡ only_bundle (cond t s x)
passed t s x is e = grind arith

find-published : (q : Name) (es : List (Name × Holding)) → T (is_sorted name_cmp es) → find name_cmp q (published es) ≡ only_bundle (find name_cmp q es)
unfolding published
find-published q [] h = refl
find-published q ((d, Published b) ∷ es) h = found (is_name q d) (Published b) _ _ refl (find-published q es (second _ _ h))
find-published q ((d, Mark s) ∷ es) h =
    find-published q es (second _ _ h)
    ∙ passed (is_name q d) (Some (Mark s)) (find name_cmp q es) refl (λ t. ap (λ x. find name_cmp x es) (same_name q d t) ∙ find-below d es (first _ _ h))

apart : (b m : Option Holding) → is_mark b ≡ false → is_bundle m ≡ false → b ≡ only_bundle (or_else b m)
apart b m h k = grind arith

-- the bundles' map has the bundles of both, in order
shown : (m p : PlainMap) → HasNoBundle m → HasNoMark p → p ≡ finite.from_sorted (published (finite.entries (union m p)))
shown m p marks held =
    let all = finite.entries (union m p) in let in_order = finite.entries_sorted (union m p) in
    same_held _ _ (λ q.
    apart (finite.get p q) (finite.get m q) (held q) (marks q)
    ∙ ap only_bundle (sym (get-join m p q) ∙ get-entries (union m p) q)
    ∙ sym (find-published q all in_order)
    ∙ sym (get-from_sorted name_cmp (published all) q (sorted-published all in_order)))

entries-apart : (m p : PlainMap) → HasNoBundle m → HasNoMark p → finite.entries p ≡ published (finite.entries (union m p))
entries-apart m p marks held =
    ap finite.entries (shown m p marks held) ∙ entries-from_sorted name_cmp _ (sorted-published _ (finite.entries_sorted (union m p)))

among-published : (es : List (Name × Holding)) → bundles_among (published es) ≡ bundles_among es
unfolding published
among-published [] = refl
among-published ((d, Published b) ∷ es) = ap (λ l. (d, b) ∷ l) (among-published es)
among-published ((d, Mark s) ∷ es) = among-published es

length-published : (es : List (Name × Holding)) → length (published es) ≡ length (bundles_among es)
unfolding published
length-published [] = refl
length-published ((d, Published b) ∷ es) = ap suc (length-published es)
length-published ((d, Mark s) ∷ es) = length-published es

pub bundles-apart : (m p : PlainMap) → HasNoBundle m → HasNoMark p → bundles_among (finite.entries p) ≡ bundles (union m p)
bundles-apart m p marks held = ap bundles_among (entries-apart m p marks held) ∙ among-published _

pub len-apart : (m p : PlainMap) → HasNoBundle m → HasNoMark p → length (finite.entries p) ≡ length (bundles (union m p))
len-apart m p marks held = ap length (entries-apart m p marks held) ∙ length-published _

-- ---- maps with the same bundles
find-all : (m : PlainMap) (q : Name) → finite.get (finite.from_sorted {R = name_cmp} (published (finite.entries m))) q ≡ only_bundle (finite.get m q)
find-all m q =
    let in_order = finite.entries_sorted m in
    get-from_sorted name_cmp (published (finite.entries m)) q (sorted-published (finite.entries m) in_order)
    ∙ find-published q (finite.entries m) in_order ∙ ap only_bundle (sym (get-entries m q))

pub same-bundles : (m p : PlainMap) → HaveSameBundles m p → bundles m ≡ bundles p
same-bundles m p same =
    let ms = finite.entries m in let ps = finite.entries p in
    let one : finite.from_sorted {R = name_cmp} (published ms) ≡ finite.from_sorted (published ps) = same_held _ _ (λ q. find-all m q ∙ same q ∙ sym (find-all p q)) in
    sym (among-published ms)
    ∙ ap bundles_among (sym (entries-from_sorted name_cmp _ (sorted-published ms (finite.entries_sorted m))) ∙ ap finite.entries one ∙ entries-from_sorted name_cmp _ (sorted-published ps (finite.entries_sorted p)))
    ∙ among-published ps
