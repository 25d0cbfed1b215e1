-- The names of the files of a snapshot, and of the folders.
use Rattle.std.specs.Prelude.{◌≢◌, ℕ, ◌<◌, ◌≤◌, ◌==◌, Bool, nat_le, List, ◌++◌, length, not, codes, decimal}
use Rattle.std.specs.List.{AllPass}
use Rattle.map_core.specs.Name.{Name}

-- the file of a domain's document
abbrev pub json_name : Name → List ℕ
json_name name = name ++ codes ".json"

-- the file of a domain's certificates
abbrev pub pem_name : Name → List ℕ
pem_name name = name ++ codes ".pem"

-- the file of all domains
abbrev pub map_name : List ℕ
map_name = codes "map"

-- the folder of a snapshot
abbrev pub folder_name : ℕ → List ℕ
folder_name number = codes "snapshot-" ++ decimal number

-- A file of this name is in the folder itself, and a file system whose names have up to 255 bytes can have it.
pub record IsFileName (name : List ℕ) : Type 0 where
  pub some : 0 < length name
  pub short : length name ≤ 255
  pub no_slash : AllPass (λ x. not (x == 47)) name
  pub no_nul : AllPass (λ x. not (x == 0)) name
  pub not_the_folder : name ≢ codes "."
  pub not_its_parent : name ≢ codes ".."

-- whether the names of a domain's files fit into 255 bytes
abbrev pub is_short : Name → Bool
is_short name = nat_le (length name) 250
