-- The text of a map in pieces, for private contracts.
use Rattle.std.specs.Prelude.{ℕ, List, [], ◌∷◌, ◌++◌, Bool, true}
use Rattle.json.specs.Print.{quoted}
use Rattle.serde_json.specs.Written.{comma_if}
use Rattle.spiffe_doc.specs.Text.{text_of}
use Rattle.frame_front.specs.Dump.{Domains}

-- each member's name and bundle, a comma between each two, and one before if something stands there
abbrev pub domain_texts : Bool → Domains → List ℕ
domain_texts later [] = []
domain_texts later (item ∷ items) = (comma_if later ++ (quoted item.0 ++ 58 ∷ [])) ++ (text_of item.1 ++ domain_texts true items)
