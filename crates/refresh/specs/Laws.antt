-- Laws of due times and of refreshes.
use Rattle.std.specs.Prelude.{◌≡◌, ◌≢◌, ◌⊎◌, ℕ, ◌<◌, ◌≤◌, List, Option, Some, Result, Ok, Err, alloc_error}
use Rattle.std.specs.declared.alloc.AllocError.{AllocError}
use Rattle.std.specs.FinMap as finite
use Rattle.spiffe_doc.specs.Authority.{BundleValue}
use Rattle.spiffe_doc.specs.Document.{document}
use Rattle.map_core.specs.declared.held.Holding.TheVariants.{Published}
use Rattle.map_core.specs.declared.op.Op.{Op}
use Rattle.map_core.specs.declared.reply.Reply.{Reply}
use Rattle.map_core.specs.declared.reply.Reply.TheVariants.{Unchanged, Refused}
use Rattle.map_core.specs.declared.reply.AskError.{AskError}
use Rattle.map_core.specs.declared.reply.MapRefusal.TheVariants.{Stale}
use Rattle.map_core.specs.Ask.{ContentsAnswer}
use Rattle.map_core.specs.Name.{Name}
use Rattle.map_core.specs.PlainMap.{PlainMap}
use Rattle.refresh.specs.declared.outcome.Outcome.{Outcome}
use Rattle.refresh.specs.declared.outcome.What.TheVariants.{Taken}
use Rattle.refresh.specs.Relationship.{RelationshipValue}
use Rattle.refresh.specs.Due.{due_after}
use Rattle.refresh.specs.Refresh.{Follows, KeepsUnlessStored, comes_to}

-- A due time is never before now, and later unless now is the end of time.
abbrev pub DueIsLater : Type 0
DueIsLater = (now : ℕ) (hint : Option ℕ) →
    (now ≤ 18446744073709551615 → now ≤ due_after now hint) × (now < 18446744073709551615 → now < due_after now hint)

-- A refresh, whatever was fetched, leaves what all names but the relationship's hold.
abbrev pub OthersStay : Type 0
OthersStay = (r : RelationshipValue) (now : ℕ) (fetched : Option (List ℕ)) (m : PlainMap) (result : Result Outcome AllocError) (n : PlainMap)
    → Follows ContentsAnswer r now fetched m result n → (name : Name) → name ≢ r.domain → finite.get n name ≡ finite.get m name

-- A refresh, whatever was fetched, changes the map that is shown only if it comes to Stored.
abbrev pub OnlyStoredChanges : {A : Type 0} → (A → Op → Result Reply AskError → A → Type 0) → (A → Option PlainMap) → Type 0
OnlyStoredChanges {A} answers shows = (r : RelationshipValue) (now : ℕ) (fetched : Option (List ℕ)) (before : A) (result : Result Outcome AllocError) (after : A)
    → Follows answers r now fetched before result after → KeepsUnlessStored shows before result after

-- this reply, unless memory ran out, and the map is as before
abbrev pub LeavesMap : ℕ → Option ℕ → Reply → PlainMap → Result Outcome AllocError → PlainMap → Type 0
LeavesMap now hint reply m result n = ((result ≡ comes_to now hint (Taken reply)) ⊎ (result ≡ Err alloc_error)) × (n ≡ m)

-- A document of the bundle that is held is answered by Unchanged.
abbrev pub EqualIsUnchanged : Type 0
EqualIsUnchanged = (r : RelationshipValue) (now : ℕ) (bytes : List ℕ) (bundle : BundleValue) (m : PlainMap) (result : Result Outcome AllocError) (n : PlainMap)
    → document bytes ≡ Ok bundle → finite.get m r.domain ≡ Some (Published bundle)
    → Follows ContentsAnswer r now (Some bytes) m result n → LeavesMap now bundle.refresh_hint Unchanged m result n

-- A document of a lower sequence than that of the bundle that is held is refused, with the sequence held.
abbrev pub OlderIsRefused : Type 0
OlderIsRefused = (r : RelationshipValue) (now : ℕ) (bytes : List ℕ) (bundle held : BundleValue) (lower higher : ℕ) (m : PlainMap) (result : Result Outcome AllocError) (n : PlainMap)
    → document bytes ≡ Ok bundle → finite.get m r.domain ≡ Some (Published held)
    → bundle.sequence ≡ Some lower → held.sequence ≡ Some higher → lower < higher
    → Follows ContentsAnswer r now (Some bytes) m result n → LeavesMap now bundle.refresh_hint (Refused (Stale higher)) m result n
