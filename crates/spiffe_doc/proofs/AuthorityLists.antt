-- Authorities that are admitted one after another are those of a valid bundle.
use Rattle.std.proofs.Common.{◌≡◌, ℕ, zero, suc, ◌<◌, ◌&&◌, List, [], ◌∷◌, ◌++◌, length, get_or, Bool, true, false, not, nat_le, Ok, refl, inl, inr, arith, length-append}
use Rattle.std.specs.List.{list_any, AllByRecursion}
use Rattle.std.proofs.lemmas.Bool.{cases_Bool, or_parts}
use Rattle.std.proofs.lemmas.Bool.Decides.{nat_tests}
use Rattle.std.proofs.lemmas.List.Quantifiers.{all_pairs_push}
use Rattle.spiffe_doc.specs.declared.authority.Authority.{Authority}
use Rattle.spiffe_doc.specs.Authority.{IsAuthority}
use Rattle.spiffe_doc.specs.Equal.{authority_eq}
use Rattle.spiffe_doc.specs.Bundle.{same_kid, is_among, is_kid_taken, AreApart, AreAuthorities}
use Rattle.spiffe_doc.specs.Private.EntrySet.{admission}

any_false : (test : Authority → Bool) (xs : List Authority) → list_any test xs ≡ false → (k : ℕ) (d : Authority) → k < length xs → test (get_or xs k d) ≡ false
any_false test [] h k d less = absurd (omega arith)
any_false test (x ∷ xs) h zero d less = (or_parts (test x) _ h).0
any_false test (x ∷ xs) h (suc k) d less = any_false test xs (or_parts (test x) _ h).1 k d (omega arith)

valid_push : (xs : List Authority) (a : Authority) → AllByRecursion IsAuthority xs → IsAuthority a → AllByRecursion IsAuthority (xs ++ a ∷ [])
valid_push [] a h is = (is, tt)
valid_push (x ∷ xs) a h is = (h.0, valid_push xs a h.1 is)

apart_from : (e s : Bool) → e ≡ false → (s && not e) ≡ false → s ≡ false
apart_from true s e h = cc e
apart_from false true e h = cc h
apart_from false false e h = refl

pub authorities_none : AreAuthorities []
authorities_none = record { valid = tt; apart = λ i j d less inside. absurd (omega arith); few = omega arith }

pub authorities_push : (xs : List Authority) (a : Authority) → AreAuthorities xs → IsAuthority a → is_among xs a ≡ false → is_kid_taken xs a ≡ false → length xs < 1024 → AreAuthorities (xs ++ a ∷ [])
authorities_push xs a h is new free room = record {
  valid = valid_push xs a h.valid is;
  apart = all_pairs_push AreApart xs a h.apart (λ k d inside.
      let differ = any_false (λ other. authority_eq other a) xs new k d inside in
      record { differ = differ; kids_differ = apart_from _ _ differ (any_false (λ other. same_kid other a && not (authority_eq other a)) xs free k d inside) });
  few = rw length-append (omega arith);
}

-- one more authority, as it is admitted
pub admitted_one_more : (place : ℕ) (before new : List Authority) (a : Authority) → AreAuthorities before → IsAuthority a → admission place before a ≡ Ok new → AreAuthorities new
admitted_one_more place before new a h is ok = elim (cases_Bool (is_kid_taken before a)) [
  | inl used ↦ cc (rw used at ok)
  | inr free ↦ elim (cases_Bool (is_among before a)) [
    | inl there ↦ let same : before ≡ new = cc (rw (free, there) at ok) in rw (← same) h
    | inr apart ↦ elim (cases_Bool (nat_le 1024 (length before))) [
      | inl full ↦ cc (rw (free, apart, full) at ok)
      | inr room ↦
          let same : before ++ a ∷ [] ≡ new = cc (rw (free, apart, room) at ok) in
          let fits : length before < 1024 = grind (arith, nat_tests) in
          rw (← same) (authorities_push before a h is apart free fits)
    ]
  ]
]
