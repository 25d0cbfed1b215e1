-- Appending to a valid bundle gives a valid bundle.
use Rattle.std.proofs.Common.{◌≡◌, ℕ, ◌+◌, ◌<◌, ◌^◌, ◌==◌, [], ◌∷◌, ◌++◌, length, nat_le, Option, Some, None, Ok, refl, inl, inr, arith}
use Rattle.std.specs.Prelude.{IfSome}
use Rattle.std.proofs.lemmas.Bool.{cases_Bool, leb-true}
use Rattle.std.proofs.lemmas.Bool.Decides.{nat_tests}
use Rattle.spiffe_doc.specs.declared.authority.Authority.{Authority}
use Rattle.spiffe_doc.specs.Authority.{IsAuthority, BundleValue}
use Rattle.std.specs.Option.{ok_or}
use Rattle.spiffe_doc.specs.declared.error.AppendError.TheVariants.{SequenceFull}
use Rattle.spiffe_doc.specs.Answer.{◌>>=◌}
use Rattle.spiffe_doc.specs.Append.{next_sequence, with_authority, unless_long, appended}
use Rattle.spiffe_doc.specs.Bundle.{is_among, is_kid_taken, IsBundle, AreAuthorities}
use Rattle.spiffe_doc.specs.Text.{text_of}
use Rattle.spiffe_doc.proofs.AuthorityLists.{authorities_push}

-- a sequence that has risen fits
next_fits : (sequence new : Option ℕ) → IfSome sequence (λ n. n < 2 ^ 64) → next_sequence sequence ≡ Some new → IfSome new (λ n. n < 2 ^ 64)
next_fits None new fits h = let same : None ≡ new = cc h in rw (← same) tt
next_fits (Some n) new fits h = elim (cases_Bool (n == 18446744073709551615)) [
  | inl greatest ↦ cc (rw greatest at h)
  | inr lower ↦
      let same : Some (n + 1) ≡ new = cc (rw lower at h) in
      let below : n + 1 < 2 ^ 64 = grind (arith, nat_tests) in
      rw (← same) below
]

pub IsBundle-appended : (bundle more : BundleValue) (authority : Authority) → IsBundle bundle → IsAuthority authority → appended bundle authority ≡ Ok more → IsBundle more
unfolding appended
IsBundle-appended bundle more authority valid is h = elim (cases_Bool (is_among bundle.authorities authority)) [
  | inl there ↦ cc (rw there at h)
  | inr new ↦ elim (cases_Bool (is_kid_taken bundle.authorities authority)) [
    | inl used ↦ cc (rw (new, used) at h)
    | inr free ↦ elim (cases_Bool (nat_le 1024 (length bundle.authorities))) [
      | inl full ↦ cc (rw (new, free, full) at h)
      | inr room ↦
          let fits : length bundle.authorities < 1024 = grind (arith, nat_tests) in
          go (authorities_push bundle.authorities authority valid.authorities is new free fits) (next_sequence bundle.sequence) refl (rw (new, free, room) at h)
    ]
  ]
]
  where
    go : AreAuthorities (bundle.authorities ++ authority ∷ []) → (o : Option (Option ℕ)) → next_sequence bundle.sequence ≡ o
        → (ok_or o SequenceFull >>= (λ sequence. unless_long (with_authority bundle sequence authority))) ≡ Ok more → IsBundle more
    go all None up h = cc h
    go all (Some sequence) up h = elim (cases_Bool (nat_le (length (text_of (with_authority bundle sequence authority))) 1048576)) [
      | inl short ↦
          let same : with_authority bundle sequence authority ≡ more = cc (rw short at h) in
          rw (← same) (record {
            sequence_fits = next_fits bundle.sequence sequence valid.sequence_fits up;
            hint_fits = valid.hint_fits;
            authorities = all;
            short = leb-true _ _ short;
          })
      | inr long ↦ cc (rw long at h)
    ]
