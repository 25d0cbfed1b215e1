-- The files of a snapshot.
use Rattle.std.specs.Prelude.{ℕ, List, [], ◌∷◌, ◌++◌, map, flat_map, if◌then◌else◌}
use Rattle.spiffe_doc.specs.Authority.{BundleValue}
use Rattle.spiffe_doc.specs.Text.{text_of}
use Rattle.map_core.specs.Name.{Name}
use Rattle.frame_front.specs.Dump.{Domains}
use Rattle.dump_views.specs.Pem.{pem_of}
use Rattle.dump_views.specs.declared.profile.Profile.TheVariants.{Whole}
use Rattle.dump_views.specs.Map.{map_text, shown}
use Rattle.snapshots.specs.Names.{json_name, pem_name, map_name, is_short}

-- a name and bytes
abbrev pub File : Type 0
File = List ℕ × List ℕ

-- the bundle map of all domains, and a line feed
abbrev pub map_file : Domains → File
map_file items = (map_name, map_text (map (shown Whole) items) ++ 10 ∷ [])

-- the canonical text of the bundle
abbrev pub json_file : Name × BundleValue → File
json_file item = (json_name item.0, text_of item.1)

-- the X.509 authorities of the bundle
abbrev pub pem_file : Name × BundleValue → File
pem_file item = (pem_name item.0, pem_of item.1)

abbrev pub both_files : Name × BundleValue → List File
both_files item = json_file item ∷ pem_file item ∷ []

-- A domain whose name is too long has no files of its own.
abbrev pub domain_files : Name × BundleValue → List File
domain_files item = if is_short item.0 then both_files item else []

-- all files of a snapshot: the map, which has every domain, and the two of each domain whose name is short enough
abbrev pub files_of : Domains → List File
files_of items = map_file items ∷ flat_map domain_files items
