-- How old the replies are that are held.
use Rattle.std.proofs.Common.{◌≡◌, ◌≢◌, ◌≤◌, ◌<◌, ◌+◌, ℕ, zero, suc, refl, sym, ◌∙◌, subst, inl, inr, arith}
use Rattle.std.specs.Prelude.{Option, Some, None, ◌⊎◌, min}
use Rattle.std.proofs.lemmas.Bool.{cases_lt}
use Rattle.workers.specs.Places.{Place, Places, HoldsNone, HoldsReply, IsHeld, IsOldest, IsTimely, IsYoungest}
use Rattle.workers.specs.Private.Serving.{IsYounger}

-- one reply at most is held at a place
one_age : (there : Option Place) (a b : ℕ) → HoldsReply a there → HoldsReply b there → a ≡ b
one_age None a b p q = absurd p
one_age (Some place) a b p q = sym p.1 ∙ q.1

none_held : (there : Option Place) (age : ℕ) → HoldsNone there → HoldsReply age there → ⊥
none_held None age none held = held
none_held (Some place) age none held = held.0 none

pub timely_none : (oldest : ℕ) (there : Option Place) → HoldsNone there → IsTimely oldest there
timely_none oldest there none = λ age held. absurd (none_held there age none held)

pub timely_young : (oldest age : ℕ) (there : Option Place) → HoldsReply age there → age < oldest → IsTimely oldest there
timely_young oldest age there held young = λ other holds. subst (λ (n : ℕ). n < oldest) (one_age there age other held holds) young

pub younger_none : (there : Option Place) (least before : ℕ) → HoldsNone there → IsYounger there least before before
younger_none there least before none =
    record { within = omega arith; held = inl refl; first = λ other held far. absurd (none_held there other none held) }

pub younger_below : (there : Option Place) (least before age : ℕ) → HoldsReply age there → age < least → IsYounger there least before before
younger_below there least before age holds below =
    record { within = omega arith; held = inl refl; first = λ other held far. absurd (omega (arith, below, far, one_age there age other holds held)) }

pub younger_found : (there : Option Place) (least before age found : ℕ) → HoldsReply age there → least ≤ age → found ≡ min age before → IsYounger there least before found
younger_found there least before age found holds far is = by (cases_lt age before)
  where
    by : (age < before) ⊎ (before ≤ age) → IsYounger there least before found
    by (inl less) =
        let same : found ≡ age = grind (arith, is, less) in
        record {
          within = omega (arith, same, less);
          held = inr (omega (arith, same, far), subst (λ (n : ℕ). HoldsReply n there) (sym same) holds);
          first = λ other held more. omega (arith, same, one_age there age other holds held);
        }
    by (inr more) =
        let same : found ≡ before = grind (arith, is, more) in
        record { within = omega (arith, same); held = inl same; first = λ other held far'. omega (arith, same, more, one_age there age other holds held) }

-- of the places below this one
pub record YoungestBelow (places : Places) (least most age place : ℕ) : Type 0 where
  pub within : age ≤ most
  pub held : (age ≡ most) ⊎ ((least ≤ age) × IsHeld places age)
  pub first : (at other : ℕ) → at < place → HoldsReply other (places at) → least ≤ other → age ≤ other

pub below_none : (places : Places) (least most : ℕ) → YoungestBelow places least most most 0
below_none places least most = record { within = omega arith; held = inl refl; first = λ at other below held far. absurd (omega (arith, below)) }

-- one place more
pub below_more : (places : Places) (least most before age place : ℕ) → YoungestBelow places least most before place → IsYounger (places place) least before age
    → YoungestBelow places least most age (place + 1)
below_more places least most before age place y here = record { within = omega (arith, y.within, here.within); held = by here.held; first = first }
  where
    by : (age ≡ before) ⊎ ((least ≤ age) × HoldsReply age (places place)) → (age ≡ most) ⊎ ((least ≤ age) × IsHeld places age)
    by (inl same) = subst (λ (n : ℕ). (n ≡ most) ⊎ ((least ≤ n) × IsHeld places n)) (sym same) y.held
    by (inr found) = inr (found.0, (place, found.1))

    first : (at other : ℕ) → at < place + 1 → HoldsReply other (places at) → least ≤ other → age ≤ other
    first at other below held far = choose (cases_lt at place)
      where
        choose : (at < place) ⊎ (place ≤ at) → age ≤ other
        choose (inl less) = omega (arith, here.within, y.first at other less held far)
        choose (inr more) =
            let same : at ≡ place = omega (arith, below, more) in
            here.first other (subst (λ (n : ℕ). HoldsReply other (places n)) same held) far

-- all places
pub below_all : (places : Places) (least most age place all : ℕ) → all ≤ place → ((at : ℕ) → all ≤ at → places at ≡ None) → YoungestBelow places least most age place → IsYoungest places least most age
below_all places least most age place all done none y = record { within = y.within; held = y.held; first = λ other held far. first other held.0 held.1 far (cases_lt held.0 place) }
  where
    first : (other at : ℕ) → HoldsReply other (places at) → least ≤ other → (at < place) ⊎ (place ≤ at) → age ≤ other
    first other at held far (inl less) = y.first at other less held far
    first other at held far (inr more) = absurd (subst (HoldsReply other) (none at (omega (arith, done, more))) held)

module _ (places : Places) (most : ℕ) where
  -- no reply that is older than the most is younger than it
  beyond_most : IsYoungest places (most + 1) most most
  beyond_most = record { within = omega arith; held = inl refl; first = λ other held far. omega (arith, far) }

  -- Once the most is come to, it is what is looked for.
  pub oldest_most : (moments least age : ℕ) → most ≤ age → IsYoungest places least most age → IsOldest places moments least most age
  oldest_most zero least age far y = y
  oldest_most (suc moments) least age far y =
      let same : most ≡ age = omega (arith, far, y.within) in
      (age, y, subst (λ (n : ℕ). IsOldest places moments (n + 1) most n) same (oldest_most moments (most + 1) most (omega arith) beyond_most))

  -- one of the ages that may be held is found, if so many are left
  pub oldest_next : (moments less least age oldest : ℕ) → 0 < moments → moments ≡ less + 1 → IsYoungest places least most age → IsOldest places less (age + 1) most oldest
      → IsOldest places moments least most oldest
  oldest_next moments less least age oldest some one_less y later =
      let same : suc less ≡ moments = omega (arith, one_less) in
      subst (λ (n : ℕ). IsOldest places n least most oldest) same (all_found less later)
    where
      all_found : (n : ℕ) → IsOldest places n (age + 1) most oldest → IsOldest places (suc n) least most oldest
      all_found n rest = (age, y, rest)
