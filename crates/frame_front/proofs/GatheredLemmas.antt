-- How bytes join those that are ready.
use Rattle.std.proofs.Common.{◌≡◌, ℕ, List, [], ◌++◌, sym, ap, subst, ◌∙◌, append_assoc, append-nil}
use Rattle.std.specs.Prelude.{Option}
use Rattle.std.specs.Io.KnownBytes.{Appends}
use Rattle.std.proofs.KnownBytes.{Appends-trans}
use Rattle.wire.specs.Output.{WritesFront}
use Rattle.frame_front.specs.Private.Gathered.{Takes}

-- what waited is cut again, with more bytes and the rest after it
pub cut_again : (sent ready bytes rest more ready_new : List ℕ) → ready ++ bytes ≡ more ++ ready_new
    → sent ++ (ready ++ (bytes ++ rest)) ≡ (sent ++ more) ++ (ready_new ++ rest)
cut_again sent ready bytes rest more ready_new split =
    ap (λ o. sent ++ o) (sym (append_assoc ready bytes rest) ∙ ap (λ o. o ++ rest) split ∙ append_assoc more ready_new rest)
    ∙ sym (append_assoc sent more (ready_new ++ rest))

module _ (held held_mid : Option (List ℕ)) (ready bytes mid : List ℕ) (takes : Takes held held_mid ready bytes mid) where
  -- what is ready is written too
  pub Takes-all : (held_new : Option (List ℕ)) → Appends held_mid held_new mid → Appends held held_new (ready ++ bytes)
  Takes-all held_new wrote = subst (Appends held held_new) (sym takes.split) (Appends-trans held held_mid held_new takes.sent mid takes.appends wrote)

  -- the writer fails as what waits is written
  pub Takes-unsent : (held_new : Option (List ℕ)) → WritesFront held_mid held_new mid → WritesFront held held_new (ready ++ bytes)
  Takes-unsent held_new wrote = record {
    front = takes.sent ++ wrote.front;
    missing = wrote.missing;
    split = takes.split ∙ ap (λ m. takes.sent ++ m) wrote.split ∙ sym (append_assoc takes.sent wrote.front wrote.missing);
    appends = Appends-trans held held_mid held_new takes.sent wrote.front takes.appends wrote.appends;
  }

  module _ (more text : List ℕ) (whole : bytes ++ more ≡ text) where
    parts_split : ready ++ text ≡ takes.sent ++ (mid ++ more)
    parts_split = ap (λ t. ready ++ t) (sym whole) ∙ sym (append_assoc ready bytes more) ∙ ap (λ o. o ++ more) takes.split ∙ append_assoc takes.sent mid more

    -- more is taken
    pub Takes-then : (held_new : Option (List ℕ)) (ready_new : List ℕ) → Takes held_mid held_new mid more ready_new → Takes held held_new ready text ready_new
    Takes-then held_new ready_new next = record {
      sent = takes.sent ++ next.sent;
      appends = Appends-trans held held_mid held_new takes.sent next.sent takes.appends next.appends;
      split = parts_split ∙ ap (λ o. takes.sent ++ o) next.split ∙ sym (append_assoc takes.sent next.sent ready_new);
    }

    -- the writer fails as more is taken
    pub Takes-cut : (held_new : Option (List ℕ)) → WritesFront held_mid held_new (mid ++ more) → WritesFront held held_new (ready ++ text)
    Takes-cut held_new wrote = record {
      front = takes.sent ++ wrote.front;
      missing = wrote.missing;
      split = parts_split ∙ ap (λ o. takes.sent ++ o) wrote.split ∙ sym (append_assoc takes.sent wrote.front wrote.missing);
      appends = Appends-trans held held_mid held_new takes.sent wrote.front takes.appends wrote.appends;
    }

-- all is written, and nothing waits
pub Takes-whole : (held held_new : Option (List ℕ)) (ready bytes ready_new : List ℕ) → Appends held held_new (ready ++ bytes) → ready_new ≡ []
    → Takes held held_new ready bytes ready_new
Takes-whole held held_new ready bytes ready_new wrote none = record {
  sent = ready ++ bytes;
  appends = wrote;
  split = sym (ap (λ n. (ready ++ bytes) ++ n) none ∙ append-nil (ready ++ bytes));
}
