-- Laws of the files of a snapshot.
use Rattle.std.specs.Prelude.{◌≡◌, ◌≢◌}
use Rattle.std.specs.List.{AllByRecursion}
use Rattle.map_core.specs.Name.{Name}
use Rattle.frame_front.specs.Dump.{Domains, AreValid}
use Rattle.snapshots.specs.Names.{json_name, pem_name, map_name, IsFileName}
use Rattle.snapshots.specs.Files.{files_of}

-- No file is outside of its folder, whatever the trust domains are called.
abbrev pub StayInside : Type 0
StayInside = (items : Domains) → AreValid items → AllByRecursion (λ file. IsFileName file.0) (files_of items)

-- Files of different domains and of different kinds have different names.
pub record AreApart : Type 0 where
  pub json : (a b : Name) → json_name a ≡ json_name b → a ≡ b
  pub pem : (a b : Name) → pem_name a ≡ pem_name b → a ≡ b
  pub kinds : (a b : Name) → json_name a ≢ pem_name b
  pub json_map : (a : Name) → json_name a ≢ map_name
  pub pem_map : (a : Name) → pem_name a ≢ map_name
