-- A folder of documents, a file for each trust domain.
use Rattle.std.specs.Prelude.{◌≡◌, ℕ, List, ◌++◌, codes, Option, Some, None}
use Rattle.map_core.specs.Name.{Name}
use Rattle.refresh.specs.Relationship.{RelationshipValue}
use Rattle.refresh.specs.declared.outcome_lines.Remark.{Remark}

-- the path of the file of a domain's document
abbrev pub document_path : List ℕ → Name → List ℕ
document_path folder domain = folder ++ codes "/" ++ domain ++ codes ".json"

-- the folder's path, and why the last fetch gave no document, if it gave none and that is worth a word
pub record FolderState : Type 0 where
  pub path : List ℕ
  pub remark : Option Remark

-- What the file holds is fetched, and no remark is left; or nothing is, and perhaps a remark is left. What a file holds is not
-- known here.
abbrev pub FetchesFile : FolderState → RelationshipValue → Option (List ℕ) → FolderState → Type 0
FetchesFile old r (Some document) new = new ≡ record { path = old.path; remark = None }
FetchesFile old r None new = (remark : Option Remark) × (new ≡ record { path = old.path; remark = remark })
