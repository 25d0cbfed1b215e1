-- What one refresh does to the source of documents and to the map, and what it comes to.
use Rattle.std.specs.Prelude.{◌≡◌, ◌⊎◌, ℕ, List, Option, Some, None, Result, Ok, Err, alloc_error}
use Rattle.std.specs.declared.alloc.AllocError.{AllocError}
use Rattle.spiffe_doc.specs.declared.error.DocError.{DocError}
use Rattle.spiffe_doc.specs.Authority.{BundleValue}
use Rattle.spiffe_doc.specs.Document.{document}
use Rattle.map_core.specs.declared.op.Op.{Op}
use Rattle.map_core.specs.declared.op.Op.TheVariants.{Set}
use Rattle.map_core.specs.declared.reply.Reply.{Reply}
use Rattle.map_core.specs.declared.reply.Reply.TheVariants.{Stored}
use Rattle.map_core.specs.declared.reply.AskError.{AskError}
use Rattle.map_core.specs.declared.reply.AskError.TheVariants.{Memory}
use Rattle.map_core.specs.PlainMap.{PlainMap}
use Rattle.refresh.specs.declared.outcome.Outcome.{Outcome}
use Rattle.refresh.specs.declared.outcome.What.{What}
use Rattle.refresh.specs.declared.outcome.What.TheVariants.{Taken, BadDocument, NoAnswer, Asked}
use Rattle.refresh.specs.Relationship.{RelationshipValue}
use Rattle.refresh.specs.Due.{due_after}

-- what a refresh at this time comes to, and when the next is due if the document gave this hint
abbrev pub comes_to : ℕ → Option ℕ → What → Result Outcome AllocError
comes_to now hint what = Ok (record { what = what; due = due_after now hint })

-- what the answer to the Set comes to: out of memory is an error
abbrev pub outcome_of : ℕ → Option ℕ → Result Reply AskError → Result Outcome AllocError
outcome_of now hint (Ok reply) = comes_to now hint (Taken reply)
outcome_of now hint (Err Memory) = Err alloc_error
outcome_of now hint (Err error) = comes_to now hint (Asked error)

module _ {A : Type 0} (answers : A → Op → Result Reply AskError → A → Type 0) where
  -- The bundle that was read is set in the relationship's trust domain, by one Set; or out of memory, and the map is as before.
  abbrev pub Sets : RelationshipValue → ℕ → BundleValue → A → Result Outcome AllocError → A → Type 0
  Sets r now bundle before result after =
      ((answer : Result Reply AskError) × answers before (Set r.domain bundle) answer after × (result ≡ outcome_of now bundle.refresh_hint answer))
      ⊎ ((result ≡ Err alloc_error) × (after ≡ before))

  -- What was fetched is a bundle, which is set; or it is not, and the map is as before.
  abbrev pub Judges : RelationshipValue → ℕ → Result BundleValue DocError → A → Result Outcome AllocError → A → Type 0
  Judges r now (Ok bundle) before result after = Sets r now bundle before result after
  Judges r now (Err why) before result after =
      ((result ≡ comes_to now None (BadDocument why)) ⊎ (result ≡ Err alloc_error)) × (after ≡ before)

  -- Nothing was fetched, and the map is as before; or these bytes, and they are judged.
  abbrev pub Follows : RelationshipValue → ℕ → Option (List ℕ) → A → Result Outcome AllocError → A → Type 0
  Follows r now None before result after = (result ≡ comes_to now None NoAnswer) × (after ≡ before)
  Follows r now (Some bytes) before result after = Judges r now (document bytes) before result after

-- One fetch, and what follows from it.
abbrev pub Refreshes : {S A : Type 0} → (S → RelationshipValue → Option (List ℕ) → S → Type 0)
    → (A → Op → Result Reply AskError → A → Type 0) → RelationshipValue → ℕ → S × A → Result Outcome AllocError → S × A → Type 0
Refreshes fetches answers r now before result after =
    (fetched : Option (List ℕ)) × fetches before.0 r fetched after.0 × Follows answers r now fetched before.1 result after.1

-- what a refresh came to if a bundle was stored
abbrev pub IsStored : Result Outcome AllocError → Type 0
IsStored (Ok outcome) = outcome.what ≡ Taken Stored
IsStored (Err error) = ⊥

-- The map that is shown, if one is, stays as it is unless a bundle was stored.
abbrev pub KeepsUnlessStored : {A : Type 0} → (A → Option PlainMap) → A → Result Outcome AllocError → A → Type 0
KeepsUnlessStored shows before result after = (m : PlainMap) → shows before ≡ Some m → IsStored result ⊎ (shows after ≡ Some m)
