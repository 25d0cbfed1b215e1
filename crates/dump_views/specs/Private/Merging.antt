-- How the changes are found: both lists are gone through together.
use Rattle.std.specs.Prelude.{List, [], ◌∷◌, ◌++◌, if◌then◌else◌}
use Rattle.std.specs.declared.cmp.Ordering.{Ordering}
use Rattle.std.specs.declared.cmp.Ordering.TheVariants.{Less, Equal, Greater}
use Rattle.spiffe_doc.specs.Authority.{BundleValue}
use Rattle.spiffe_doc.specs.Equal.{bundle_eq}
use Rattle.map_core.specs.Name.{Name, name_cmp}
use Rattle.frame_front.specs.Dump.{Domains}
use Rattle.dump_views.specs.Changes.{Change, Added, Removed, Changed}

-- the change of a name that both have, if there is one
abbrev pub change_of_both : Name × BundleValue → Name × BundleValue → List (Name × Change)
change_of_both old new = if bundle_eq old.1 new.1 then [] else (old.0, Changed old.1 new.1) ∷ []

unfoldable pub all_added : Domains → List (Name × Change)
all_added [] = []
all_added (new ∷ news) = (new.0, Added new.1) ∷ all_added news

-- by which name comes first: the changes after the old one alone, after both, and after the new one alone
abbrev pub by_order : Ordering → Name × BundleValue → Name × BundleValue → List (Name × Change) → List (Name × Change) → List (Name × Change) → List (Name × Change)
by_order Less old new after_old after_both after_new = (old.0, Removed) ∷ after_old
by_order Equal old new after_old after_both after_new = change_of_both old new ++ after_both
by_order Greater old new after_old after_both after_new = (new.0, Added new.1) ∷ after_new

-- the changes of an old domain and the later ones, whose own are given
unfoldable pub merged_with : Name × BundleValue → (Domains → List (Name × Change)) → Domains → List (Name × Change)
merged_with old others [] = (old.0, Removed) ∷ others []
merged_with old others (new ∷ news) = by_order (name_cmp old.0 new.0) old new (others (new ∷ news)) (others news) (merged_with old others news)

unfoldable pub merged : Domains → Domains → List (Name × Change)
merged [] news = all_added news
merged (old ∷ olds) news = merged_with old (merged olds) news
