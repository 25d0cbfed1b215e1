-- How a fetch-all's payloads and a dump's are refused, part by part.
use Rattle.std.specs.Prelude.{◌≡◌, ℕ, List, [], ◌∷◌, ◌++◌, Option, Some, None}
use Rattle.spiffe_doc.specs.Authority.{BundleValue}
use Rattle.map_core.specs.Name.{Name}
use Rattle.wire.specs.Frame.{IsPayload, frame}
use Rattle.map_core.specs.Laws.{IsAfter}
use Rattle.frame_front.specs.Dump.{Domains, count_of}
use Rattle.wire.specs.Items.{item_of}

-- the last name, if any
abbrev pub last_of : Option Name → Domains → Option Name
last_of last [] = last
last_of last (item ∷ items) = last_of (Some item.0) items

-- no frame of a domain whose name comes after the last one stands first
abbrev pub NoItem : Option Name → List ℕ → Type 0
NoItem last bytes = (payload rest : List ℕ) (item : Name × BundleValue) → IsPayload payload → bytes ≡ frame payload ++ rest
    → item_of payload ≡ Some item → ¬ (IsAfter last item.0)

-- no frame of a count stands first
abbrev pub NoCount : List ℕ → Type 0
NoCount bytes = (payload rest : List ℕ) → IsPayload payload → bytes ≡ frame payload ++ rest → count_of payload ≡ None
