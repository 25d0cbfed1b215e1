-- Facts that hold along a list of points, each at the map that the points before it leave.
use Rattle.std.proofs.Common.{◌≡◌, ◌≢◌, ℕ, ◌+◌, ◌<◌, ◌≤◌, ◌==◌, not, Bool, true, false, cond, List, [], ◌∷◌, ◌++◌, ◌⊎◌, inl, inr, arith, refl, sym, ap, subst, ◌∙◌}
use Rattle.std.specs.Prelude.{filter}
use Rattle.std.proofs.lemmas.Bool.Decides.{nat_tests}
use Rattle.map_core.specs.PlainMap.{PlainMap, ask}
use Rattle.step_core.specs.World.{with_at}
use Rattle.step_core.specs.Run.{Point, without, numbers}
use Rattle.step_core.proofs.Legal.{times}

pub same_number : (a b : ℕ) → (a == b) ≡ true → a ≡ b
same_number a b h = grind (arith, nat_tests)

pub other_number : (a b : ℕ) → (a == b) ≡ false → a ≢ b
other_number a b h = grind (arith, nat_tests)

pub number_itself : (a : ℕ) → (a == a) ≡ true
number_itself a = grind (arith, nat_tests)

pub numbers_apart : (a b : ℕ) → a ≢ b → (a == b) ≡ false
numbers_apart a b h = grind (arith, nat_tests)

-- P of a test, by what it says
pub by_test : (P : Bool → Type 0) (b : Bool) → (b ≡ true → P true) → (b ≡ false → P false) → P b
by_test P true holds fails = holds refl
by_test P false holds fails = fails refl

-- P of a test of two numbers, by whether they are the same
pub by_number : (P : Bool → Type 0) (a b : ℕ) → (a ≡ b → P true) → (a ≢ b → P false) → P (a == b)
by_number P a b same other = by_test P (a == b) (λ e. same (same_number a b e)) (λ e. other (other_number a b e))

pub cases_number : (a b : ℕ) → (a ≡ b) ⊎ (a ≢ b)
cases_number a b = by_number (λ _. (a ≡ b) ⊎ (a ≢ b)) a b inl inr

pub with_at_same : {X : Type 0} → (f : ℕ → X) (k : ℕ) (x : X) (q : ℕ) → q ≡ k → with_at f k x q ≡ x
with_at_same f k x q is = ap (λ b. cond b x (f q)) (subst (λ (y : ℕ). (q == y) ≡ true) is (number_itself q))

pub with_at_other : {X : Type 0} → (f : ℕ → X) (k : ℕ) (x : X) (q : ℕ) → q ≢ k → with_at f k x q ≡ f q
with_at_other f k x q ne = ap (λ b. cond b x (f q)) (numbers_apart q k ne)

-- what is the same at k is the same everywhere
pub with_at_keep : {X Y : Type 0} → (f : X → Y) (g : ℕ → X) (k : ℕ) (x : X) → f x ≡ f (g k) → (q : ℕ) → f (with_at g k x q) ≡ f (g q)
with_at_keep f g k x same q = by_number (λ b. f (cond b x (g q)) ≡ f (g q)) q k (λ is. same ∙ ap (λ j. f (g j)) (sym is)) (λ _. refl)

-- P holds of each point at the map before it, the events rise from this one on, and E holds at the end
abbrev pub Along : (Point → PlainMap → Type 0) → (ℕ → PlainMap → Type 0) → ℕ → PlainMap → List Point → Type 0
Along P E from m [] = E from m
Along P E from m (p ∷ ps) = (from ≤ p.event) × P p m × Along P E (p.event + 1) (ask m p.op).map ps

pub along_map : (P Q : Point → PlainMap → Type 0) (E F : ℕ → PlainMap → Type 0) → ((p : Point) (m : PlainMap) → P p m → Q p m) → ((from : ℕ) (m : PlainMap) → E from m → F from m) → (from : ℕ) (m : PlainMap) (ps : List Point) → Along P E from m ps → Along Q F from m ps
along_map P Q E F f g from m [] h = g from m h
along_map P Q E F f g from m (p ∷ ps) h = (h.0, f p m h.1, along_map P Q E F f g (p.event + 1) (ask m p.op).map ps h.2)

pub along_push : (P Q : Point → PlainMap → Type 0) (E F : ℕ → PlainMap → Type 0) (q : Point) → ((p : Point) (m : PlainMap) → P p m → Q p m) → ((from : ℕ) (m : PlainMap) → E from m → (from ≤ q.event) × Q q m × F (q.event + 1) (ask m q.op).map) → (from : ℕ) (m : PlainMap) (ps : List Point) → Along P E from m ps → Along Q F from m (ps ++ q ∷ [])
along_push P Q E F q f g from m [] h = g from m h
along_push P Q E F q f g from m (p ∷ ps) h = (h.0, f p m h.1, along_push P Q E F q f g (p.event + 1) (ask m p.op).map ps h.2)

pub along_lower : (P : Point → PlainMap → Type 0) (E : ℕ → PlainMap → Type 0) → ((a b : ℕ) (m : PlainMap) → a ≤ b → E b m → E a m) → (a b : ℕ) (m : PlainMap) (ps : List Point) → a ≤ b → Along P E b m ps → Along P E a m ps
along_lower P E down a b m [] l h = down a b m l h
along_lower P E down a b m (p ∷ ps) l h = let first : a ≤ p.event = omega (arith, l, h.0) in (first, h.1, h.2)

pub along_without : (P Q : Point → PlainMap → Type 0) (E : ℕ → PlainMap → Type 0) (r : ℕ) → ((p : Point) (m : PlainMap) → P p m → p.number ≢ r → Q p m) → ((p : Point) (m : PlainMap) → P p m → p.number ≡ r → (ask m p.op).map ≡ m) → ((a b : ℕ) (m : PlainMap) → a ≤ b → E b m → E a m) → (from : ℕ) (m : PlainMap) (ps : List Point) → Along P E from m ps → Along Q E from m (without r ps)
along_without P Q E r keep idle down from m [] h = h
along_without P Q E r keep idle down from m (p ∷ ps) h =
    let rest = along_without P Q E r keep idle down (p.event + 1) (ask m p.op).map ps h.2 in
    let later : from ≤ p.event + 1 = omega (arith, h.0) in
    by_number (λ b. Along Q E from m (cond (not b) (p ∷ without r ps) (without r ps))) p.number r
    (λ is. along_lower Q E down from (p.event + 1) m (without r ps) later (subst (λ (x : PlainMap). Along Q E (p.event + 1) x (without r ps)) (idle p m h.1 is) rest))
    (λ ne. (h.0, keep p m h.1 ne, rest))

-- ---- numbers in lists
pub numbers-filter : (test : ℕ → Bool) (ps : List Point) → numbers (filter (λ p. test p.number) ps) ≡ filter test (numbers ps)
numbers-filter test [] = refl
numbers-filter test (p ∷ ps) = let ih = numbers-filter test ps in grind (arith, ih)

pub times-filter : (test : ℕ → Bool) (q : ℕ) (xs : List ℕ) → times q (filter test xs) ≡ cond (test q) (times q xs) 0
times-filter test q [] = grind arith
times-filter test q (x ∷ xs) =
    let ih = times-filter test q xs in
    let link : x ≡ q → test x ≡ test q = (λ is. ap test is) in
    grind (arith, nat_tests, ih, link)

pub times-push : (q : ℕ) (p : Point) (ps : List Point) → times q (numbers (ps ++ p ∷ [])) ≡ times q (numbers ps) + cond (p.number == q) 1 0
times-push q p [] = omega arith
times-push q p (x ∷ ps) = omega (arith, times-push q p ps)

pub times-head : (x : ℕ) (xs : List ℕ) → 0 < times x (x ∷ xs)
times-head x xs = grind (arith, nat_tests)

pub split-times : (q : ℕ) (xs : List ℕ) → 0 < times q xs → (before after : List ℕ) × (xs ≡ before ++ q ∷ after)
split-times q [] l = absurd (omega (arith, l))
split-times q (x ∷ xs) l =
    by_number (λ b. 0 < cond b 1 0 + times q xs → (before after : List ℕ) × (x ∷ xs ≡ before ++ q ∷ after)) x q
    (λ is _. ([], xs, ap (λ (k : ℕ). k ∷ xs) is))
    (λ _ more. let rest = split-times q xs (omega (arith, more)) in (x ∷ rest.0, rest.1, ap (λ (l : List ℕ). x ∷ l) rest.2)) l
