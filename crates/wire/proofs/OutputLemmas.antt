-- Lemmas on what is written: fronts, and texts that are told one after the other.
use Rattle.std.proofs.Common.{◌≡◌, ℕ, ◌<◌, ◌-◌, ◌^◌, List, [], ◌++◌, refl, sym, ap, subst, ◌∙◌, inl, inr, arith, append_assoc}
use Rattle.std.specs.Prelude.{◌≢◌, ◌⊎◌, Option, Result, Ok, Err, OnOk, nat_eq}
use Rattle.std.specs.Io.KnownBytes.{Appends}
use Rattle.std.proofs.KnownBytes.{Appends-nil, Appends-trans}
use Rattle.std.proofs.lemmas.Bool.{cases_Bool}
use Rattle.std.proofs.lemmas.Bool.Decides.{nat_tests}
use Rattle.wire.specs.Counted.{next_count}
use Rattle.wire.specs.Output.{WritesFront, End, Tells, TellsUnlessFailed}

pub WritesFront-longer : (held held_new : Option (List ℕ)) (bytes more : List ℕ) → WritesFront held held_new bytes → WritesFront held held_new (bytes ++ more)
WritesFront-longer held held_new bytes more wrote = record {
  front = wrote.front;
  missing = wrote.missing ++ more;
  split = ap (λ b. b ++ more) wrote.split ∙ append_assoc wrote.front wrote.missing more;
  appends = wrote.appends;
}

pub WritesFront-then : (held held_mid held_new : Option (List ℕ)) (bytes more : List ℕ) → Appends held held_mid bytes → WritesFront held_mid held_new more
    → WritesFront held held_new (bytes ++ more)
WritesFront-then held held_mid held_new bytes more sent wrote = record {
  front = bytes ++ wrote.front;
  missing = wrote.missing;
  split = ap (λ m. bytes ++ m) wrote.split ∙ sym (append_assoc bytes wrote.front wrote.missing);
  appends = Appends-trans held held_mid held_new bytes wrote.front sent wrote.appends;
}

-- what holds if all went well says more
pub on_ok : {A E P Q : Type 0} (result : Result A E) → (P → Q) → OnOk result P → OnOk result Q
on_ok (Ok value) more holds = more holds
on_ok (Err error) more holds = tt

-- nothing is told, and nothing has changed
pub tells_nothing : (e : End) → Tells e e []
tells_nothing e = record { told = inl (Appends-nil e.bytes, refl) }

pub told_nothing : (before : ℕ) (e : End) → TellsUnlessFailed before e e []
told_nothing before e = elim (cases_Bool (nat_eq e.faults before)) [
  | inl same ↦ inl (grind (arith, nat_tests, same), tells_nothing e)
  | inr other ↦ inr ((λ same. absurd (grind (arith, nat_tests, other, same))), refl)
]

-- a count that has risen is another
has_risen : (old new : ℕ) → old < 2 ^ 64 - 1 → new ≡ next_count old → new ≢ old
has_risen old new few failed same = absurd (omega (arith, few, failed, same))

-- what was told, and the text that follows it
module _ (start old new : End) (lines text : List ℕ) where
  both_told : start.faults < 2 ^ 64 - 1 → old.faults ≡ start.faults
      → (Appends start.bytes old.bytes lines × (old.faults ≡ start.faults)) ⊎ (WritesFront start.bytes old.bytes lines × (old.faults ≡ next_count start.faults))
      → (Appends old.bytes new.bytes text × (new.faults ≡ old.faults)) ⊎ (WritesFront old.bytes new.bytes text × (new.faults ≡ next_count old.faults))
      → Tells start new (lines ++ text)
  both_told few same (inl told) (inl more) = record { told = inl (Appends-trans start.bytes old.bytes new.bytes lines text told.0 more.0, more.1 ∙ told.1) }
  both_told few same (inl told) (inr cut) =
      record { told = inr (WritesFront-then start.bytes old.bytes new.bytes lines text told.0 cut.0, cut.1 ∙ ap next_count told.1) }
  both_told few same (inr cut) more = absurd (has_risen start.faults old.faults few cut.1 same)

  none_told : old.faults ≢ start.faults → new ≡ old
      → (Appends start.bytes old.bytes lines × (old.faults ≡ start.faults)) ⊎ (WritesFront start.bytes old.bytes lines × (old.faults ≡ next_count start.faults))
      → Tells start new (lines ++ text)
  none_told other is (inl told) = absurd (other told.1)
  none_told other is (inr cut) =
      subst (λ (e : End). Tells start e (lines ++ text)) (sym is) record { told = inr (WritesFront-longer start.bytes old.bytes lines text cut.0, cut.1) }

  pub tells_more : start.faults < 2 ^ 64 - 1 → Tells start old lines → TellsUnlessFailed start.faults old new text → Tells start new (lines ++ text)
  tells_more few tells (inl follows) = both_told few follows.0 tells.told follows.1.told
  tells_more few tells (inr failed) = none_told failed.0 failed.1 tells.told

-- and the same if the writer may have failed before
pub told_more : (before : ℕ) (start old new : End) (lines text : List ℕ) → before < 2 ^ 64 - 1 → TellsUnlessFailed before start old lines
    → TellsUnlessFailed before old new text → TellsUnlessFailed before start new (lines ++ text)
told_more before start old new lines text few (inl tells) follows =
    inl (
      tells.0,
      tells_more start old new lines text (subst (λ (b : ℕ). b < 2 ^ 64 - 1) (sym tells.0) few) tells.1
          (subst (λ (b : ℕ). TellsUnlessFailed b old new text) (sym tells.0) follows),
    )
told_more before start old new lines text few (inr failed) (inl follows) = absurd (failed.0 (ap (λ (e : End). e.faults) (sym failed.1) ∙ follows.0))
told_more before start old new lines text few (inr failed) (inr still) = inr (failed.0, still.1 ∙ failed.1)
