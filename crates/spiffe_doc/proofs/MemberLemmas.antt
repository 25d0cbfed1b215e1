-- Members of an entry.
use Rattle.std.proofs.Common.{◌≡◌, ◌≢◌, List, [], ◌∷◌, length, None, refl}
use Rattle.json.specs.declared.value.Value.{Value}
use Rattle.spiffe_doc.specs.Judgement.{only_text}
use Rattle.spiffe_doc.specs.Private.Borrowed.{list_data}

-- a list that isn't of one has no only text
pub only_text_none : {A : Type 0} → (vs : List (Value A)) → length vs ≢ 1 → only_text (list_data vs) ≡ None
only_text_none [] h = refl
only_text_none (v ∷ []) h = absurd (h refl)
only_text_none (v ∷ w ∷ vs) h = refl
