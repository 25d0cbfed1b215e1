-- Maps at moments of writers.
use Rattle.std.proofs.Common.{◌≡◌, ◌≢◌, ℕ, suc, zero, ◌+◌, ◌-◌, ◌*◌, ◌/◌, ◌%◌, ◌<◌, ◌≤◌, arith, Bool, true, false, cond, List, [], ◌∷◌, ◌++◌, length, replicate, set, refl, sym, ap, subst, ◌∙◌, inl, inr, append-nil, append_assoc, take, drop, length-drop}
use Rattle.std.specs.Prelude.{◌==◌, MatchBool, Some, get_or, slice_get}
use Rattle.std.proofs.Math.Nat.{eq-or-lt_of_le}
use Rattle.std.proofs.lemmas.Bool.{eq-eqb}
use Rattle.std.proofs.lemmas.Bool.Decides.{eqb_tells}
use Rattle.std.proofs.lemmas.Grind.{replicate_next}
use Rattle.std.proofs.lemmas.List.{length-replicate, get_or-replicate, get_or-append_right, length-set, length-take-le, take-append-drop}
use Rattle.std.proofs.lemmas.Option.{none-some, get_or_from_slice_get}
use Rattle.std.proofs.lemmas.Nat.{div-mul-add, div-add-mod'}
use Rattle.std.proofs.Math.Seq.{set-append_seam, take-append_seam, drop-append_seam}
use Rattle.race_demo.specs.Moment.{map_after, few_ahead, IsMoment, IsMap}
use Rattle.race_demo.specs.Private.{fits}

-- ---- after so many rounds, and so many sets of the next

one_ahead : (domains few round : ℕ) → few < domains → set (few_ahead domains few round) few (round + 1) ≡ few_ahead domains (few + 1) round
one_ahead domains few round below =
    let rest = replicate (domains - (few + 1)) round in
    let ahead = replicate few (round + 1) in
    let one : domains - few ≡ suc (domains - (few + 1)) = omega (arith, below) in
    ap (λ k. set (ahead ++ replicate k round) few (round + 1)) one
    ∙ ap (λ i. set (ahead ++ round ∷ rest) i (round + 1)) (sym (length-replicate few (round + 1)))
    ∙ set-append_seam ahead round rest (round + 1)
    ∙ sym (append_assoc ahead ((round + 1) ∷ []) rest)
    ∙ ap (λ t. t ++ rest) (sym (replicate_next few (round + 1)))

none_ahead : (domains round : ℕ) → few_ahead domains 0 round ≡ replicate domains round
none_ahead domains round = let all : domains - 0 ≡ domains = omega arith in ap (λ k. replicate k round) all

all_ahead : (domains round : ℕ) → few_ahead domains domains round ≡ few_ahead domains 0 (round + 1)
all_ahead domains round =
    let none : domains - domains ≡ 0 = omega arith in
    ap (λ k. replicate domains (round + 1) ++ replicate k round) none ∙ append-nil (replicate domains (round + 1)) ∙ sym (none_ahead domains (round + 1))

mod-mul-add : (round domains few : ℕ) → few < domains → (round * domains + few) % domains ≡ few
mod-mul-add round domains few below =
    let d = div-mul-add round domains few below in
    let e = div-add-mod' (round * domains + few) domains in
    let f : round * domains + (round * domains + few) % domains ≡ round * domains + few = subst (λ (q : ℕ). q * domains + (round * domains + few) % domains ≡ round * domains + few) d e in
    omega (arith, f)

-- in the round after this one, the first few domains were set
pub record Reached (domains sets : ℕ) : Type 0 where
  pub few : ℕ
  pub round : ℕ
  pub below : few < domains
  pub count : sets ≡ round * domains + few
  pub map : map_after domains sets ≡ few_ahead domains few round

next : (domains sets few round : ℕ) → few < domains → suc sets ≡ round * domains + (few + 1) → map_after domains (suc sets) ≡ few_ahead domains (few + 1) round → Reached domains (suc sets)
next domains sets few round below count map = elim (eq-or-lt_of_le at_most) [
  | inl all ↦ record {
    few = 0;
    round = round + 1;
    below = omega (arith, below);
    count = count ∙ ap (λ k. round * domains + k) all ∙ more;
    map = map ∙ ap (λ k. few_ahead domains k round) all ∙ all_ahead domains round;
  }
  | inr less ↦ record { few = few + 1; round = round; below = less; count = count; map = map }
]
  where
    at_most : few + 1 ≤ domains
    at_most = omega (arith, below)

    more : round * domains + domains ≡ (round + 1) * domains + 0
    more = grind arith

pub reached : (domains sets : ℕ) → 0 < domains → Reached domains sets
reached domains zero some = record { few = 0; round = 0; below = some; count = grind arith; map = sym (none_ahead domains 0) }
reached domains (suc sets) some =
    let before = reached domains sets some in
    let d : sets / domains ≡ before.round = ap (λ s. s / domains) before.count ∙ div-mul-add before.round domains before.few before.below in
    let m : sets % domains ≡ before.few = ap (λ s. s % domains) before.count ∙ mod-mul-add before.round domains before.few before.below in
    next domains sets before.few before.round before.below (omega (arith, before.count))
    ((λ i. set (before.map i) (m i) (d i + 1)) ∙ one_ahead domains before.few before.round before.below)

-- each such map comes
pub comes : (domains few round : ℕ) → few < domains → map_after domains (round * domains + few) ≡ few_ahead domains few round
comes domains few round below =
    let some : 0 < domains = omega (arith, below) in
    let it = reached domains (round * domains + few) some in
    let d : round ≡ it.round = sym (div-mul-add round domains few below) ∙ ap (λ s. s / domains) it.count ∙ div-mul-add it.round domains it.few it.below in
    let m : few ≡ it.few = sym (mod-mul-add round domains few below) ∙ ap (λ s. s % domains) it.count ∙ mod-mul-add it.round domains it.few it.below in
    it.map ∙ (λ i. few_ahead domains (sym m i) (sym d i))

-- ---- what the program tests

not_same : (x low : ℕ) (a b : Bool) → x ≢ low → cond (x == low) a b ≡ true → b ≡ true
not_same x low a b other h = elim (eqb_tells x low) [
  | inl k ↦ absurd (other k.1)
  | inr k ↦ sym (ap (λ t. cond t a b) k.0) ∙ h
]

all_low : (low : ℕ) (xs : List ℕ) → fits true low xs ≡ true → xs ≡ replicate (length xs) low
all_low low [] h = refl
all_low low (x ∷ xs) h = elim (eqb_tells x low) [
  | inl k ↦ let rest = all_low low xs (sym (ap (λ t. cond t (fits true low xs) false) k.0) ∙ h) in λ i. k.1 i ∷ rest i
  | inr k ↦ absurd (cc (sym (ap (λ t. cond t (fits true low xs) false) k.0) ∙ h))
]

pub falls : (low : ℕ) (xs : List ℕ) → fits false low xs ≡ true → (few : ℕ) × (few ≤ length xs) × (xs ≡ few_ahead (length xs) few low)
falls low [] h = (0, omega arith, refl)
falls low (x ∷ xs) h = elim (eqb_tells x low) [
  | inl k ↦
      let rest = all_low low xs (sym (ap (λ t. cond t (fits true low xs) (cond (x == low + 1) (fits false low xs) false)) k.0) ∙ h) in
      (0, omega arith, (λ i. k.1 i ∷ rest i) ∙ sym (none_ahead (suc (length xs)) low))
  | inr k ↦ elim (eqb_tells x (low + 1)) [
    | inl n ↦
        let rest = falls low xs (sym (ap (λ t. cond t (fits false low xs) false) n.0) ∙ not_same x low (fits true low xs) (cond (x == low + 1) (fits false low xs) false) k.1 h) in
        let left : suc (length xs) - suc rest.0 ≡ length xs - rest.0 = omega arith in
        (suc rest.0, omega (arith, rest.1), (λ i. n.1 i ∷ rest.2 i) ∙ ap (λ m. (low + 1) ∷ replicate rest.0 (low + 1) ++ replicate m low) (sym left))
    | inr n ↦ absurd (cc (sym (ap (λ t. cond t (fits false low xs) false) n.0) ∙ not_same x low (fits true low xs) (cond (x == low + 1) (fits false low xs) false) k.1 h))
  ]
]

low_fits : (low m : ℕ) → fits true low (replicate m low) ≡ true
low_fits low zero = refl
low_fits low (suc m) = ap (λ t. cond t (fits true low (replicate m low)) false) (eq-eqb low low refl) ∙ low_fits low m

pub ahead_fits : (low few m : ℕ) → fits false low (replicate few (low + 1) ++ replicate m low) ≡ true
ahead_fits low zero zero = refl
ahead_fits low zero (suc m) =
    ap (λ t. cond t (fits true low (replicate m low)) (cond (low == low + 1) (fits false low (replicate m low)) false)) (eq-eqb low low refl) ∙ low_fits low m
ahead_fits low (suc few) m = elim (eqb_tells (low + 1) low) [
  | inl k ↦ absurd (omega (arith, k.1))
  | inr k ↦
      let rest = replicate few (low + 1) ++ replicate m low in
      ap (λ t. cond t (fits true low rest) (cond (low + 1 == low + 1) (fits false low rest) false)) k.0
      ∙ ap (λ t. cond t (fits false low rest) false) (eq-eqb (low + 1) (low + 1) refl) ∙ ahead_fits low few m
]

-- ---- one writer

-- the last domain is not ahead
last_of : (domains few round : ℕ) → few < domains → get_or (few_ahead domains few round) (domains - 1) 0 ≡ round
last_of domains few round below =
    get_or-append_right (replicate few (round + 1)) (replicate (domains - few) round) few (domains - 1) 0 (length-replicate few (round + 1)) (omega (arith, below))
    ∙ get_or-replicate (domains - few) (domains - 1 - few) round 0 (omega (arith, below))

moment_found : (low : ℕ) (xs : List ℕ) → 0 < length xs → fits false low xs ≡ true → IsMoment xs
moment_found low xs some h =
    let it = falls low xs h in
    elim (eq-or-lt_of_le it.1) [
      | inl all ↦ ((low + 1) * length xs + 0, it.2 ∙ ap (λ k. few_ahead (length xs) k low) all ∙ all_ahead (length xs) low ∙ sym (comes (length xs) 0 (low + 1) some))
      | inr less ↦ (low * length xs + it.0, it.2 ∙ sym (comes (length xs) it.0 low less))
    ]

moment_fits : (low : ℕ) (xs : List ℕ) → 0 < length xs → get_or xs (length xs - 1) 0 ≡ low → IsMoment xs → fits false low xs ≡ true
moment_fits low xs some last moment =
    let it = reached (length xs) moment.0 some in
    let is : xs ≡ few_ahead (length xs) it.few it.round = moment.1 ∙ it.map in
    let same : it.round ≡ low = sym (last_of (length xs) it.few it.round it.below) ∙ ap (λ l. get_or l (length xs - 1) 0) (sym is) ∙ last in
    ap (λ l. fits false low l) (is ∙ ap (few_ahead (length xs) it.few) same) ∙ ahead_fits low it.few (length xs - it.few)

pub moment_told : (low : ℕ) (xs : List ℕ) (told : Bool) → Some low ≡ slice_get xs (length xs - 1) → told ≡ fits false low xs → MatchBool told (IsMoment xs) (IsMoment xs → ⊥)
moment_told low [] told last is = absurd (none-some low (sym last))
moment_told low (x ∷ xs) true last is = moment_found low (x ∷ xs) (omega arith) (sym is)
moment_told low (x ∷ xs) false last is = λ moment. absurd (cc (is ∙ moment_fits low (x ∷ xs) (omega arith) (get_or_from_slice_get (x ∷ xs) (length (x ∷ xs) - 1) low 0 (sym last)) moment))

-- ---- two writers

length_after : (domains sets : ℕ) → length (map_after domains sets) ≡ domains
length_after domains zero = length-replicate domains 0
length_after domains (suc sets) = length-set (map_after domains sets) (sets % domains) (sets / domains + 1) ∙ length_after domains sets

module _ (xs : List ℕ) (eight : length xs ≡ 8) where
  front_long : length (take 4 xs) ≡ 4
  front_long = length-take-le 4 xs (omega (arith, eight))

  rest_long : length (drop 4 xs) ≡ 4
  rest_long = length-drop 4 xs ∙ omega (arith, eight)

  front_of : (map : IsMap xs) → IsMoment (take 4 xs)
  front_of map =
      let long = length_after 4 map.0 in
      (map.0, ap (take 4) map.2 ∙ ap (λ n. take n (map_after 4 map.0 ++ map_after 4 map.1)) (sym long) ∙ take-append_seam (map_after 4 map.0) (map_after 4 map.1) ∙ ap (λ n. map_after n map.0) (sym front_long))

  rest_of : (map : IsMap xs) → IsMoment (drop 4 xs)
  rest_of map =
      let long = length_after 4 map.0 in
      (map.1, ap (drop 4) map.2 ∙ ap (λ n. drop n (map_after 4 map.0 ++ map_after 4 map.1)) (sym long) ∙ drop-append_seam (map_after 4 map.0) (map_after 4 map.1) ∙ ap (λ n. map_after n map.1) (sym rest_long))

  map_told : IsMoment (take 4 xs) → (told : Bool) → MatchBool told (IsMoment (drop 4 xs)) (IsMoment (drop 4 xs) → ⊥) → MatchBool told (IsMap xs) (IsMap xs → ⊥)
  map_told one true two =
      (one.0, two.0, sym (take-append-drop 4 xs) ∙ (λ i. one.1 i ++ two.1 i) ∙ (λ i. map_after (front_long i) one.0 ++ map_after (rest_long i) two.0))
  map_told one false not = λ map. not (rest_of map)

  module _ (ours others : List ℕ) (front : ours ≡ take 4 xs) (rest : others ≡ drop 4 xs) where
    pub halves_told : IsMoment ours → (told : Bool) → MatchBool told (IsMoment others) (IsMoment others → ⊥) → MatchBool told (IsMap xs) (IsMap xs → ⊥)
    halves_told one told two = map_told (subst IsMoment front one) told (subst (λ (l : List ℕ). MatchBool told (IsMoment l) (IsMoment l → ⊥)) rest two)

    pub first_half_told : (told : Bool) → told ≡ false → (IsMoment ours → ⊥) → MatchBool told (IsMap xs) (IsMap xs → ⊥)
    first_half_told told is not = subst (λ (b : Bool). MatchBool b (IsMap xs) (IsMap xs → ⊥)) (sym is) (λ map. not (subst IsMoment (sym front) (front_of map)))
