-- A trust domain and its bundle, as one of the replies to a fetch-all tells them.
use Rattle.std.specs.Prelude.{ℕ, List, [], ◌∷◌, ◌==◌, if◌then◌else◌, Option, Some, None, Result, Ok, Err}
use Rattle.spiffe_doc.specs.Authority.{BundleValue}
use Rattle.map_core.specs.Name.{Name}
use Rattle.wire.specs.declared.refusal.Refusal.{Refusal}
use Rattle.wire.specs.PayloadReading.{split_named}
use Rattle.wire.specs.Judge.{named_bundle}

abbrev pub unless_refused : Result (Name × BundleValue) Refusal → Option (Name × BundleValue)
unless_refused (Ok item) = Some item
unless_refused (Err refusal) = None

abbrev pub item_in : Option (List ℕ × List ℕ) → Option (Name × BundleValue)
item_in None = None
item_in (Some parts) = unless_refused (named_bundle parts.0 parts.1)

-- the code i, a name, and a document of its bundle
unfoldable pub item_of : List ℕ → Option (Name × BundleValue)
item_of [] = None
item_of (code ∷ bytes) = if code == 105 then item_in (split_named bytes) else None
