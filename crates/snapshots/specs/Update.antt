-- A folder of snapshots comes to show these domains.
use Rattle.std.specs.Prelude.{◌≡◌, List, ◌++◌, ◌∷◌, Bool, true, false, Option}
use Rattle.std.specs.List.{AllByRecursion}
use Rattle.frame_front.specs.Dump.{Domains}
use Rattle.snapshots.specs.declared.error.FolderError.{FolderError}
use Rattle.snapshots.specs.declared.error.FolderError.TheVariants.{Unusable, Memory}
use Rattle.snapshots.specs.Files.{File, files_of}
use Rattle.snapshots.specs.Deeds.{Deed, deeds_of, then_done}

-- one of the files isn't there, or has other bytes there
pub record SomeDiffers (there : File → Bool → Type 0) (files : List File) : Type 0 where
  pub before : List File
  pub file : File
  pub after : List File
  pub placed : files ≡ before ++ file ∷ after
  pub differs : there file false

-- whether all files are there, with their bytes
abbrev pub AreThere : (File → Bool → Type 0) → List File → Bool → Type 0
AreThere there files true = AllByRecursion (λ file. there file true) files
AreThere there files false = SomeDiffers there files

module _ {F : Type 0} (done_in : F → Option (List Deed)) (shows : F → File → Bool → Type 0) where
  -- Something was new: a file differs from the current snapshot's, and a new snapshot is written and shown. Or each file is as
  -- it was, and nothing is done.
  abbrev pub Updates : F → F → Domains → Bool → Type 0
  Updates old new items true = AreThere (shows old) (files_of items) false × (done_in new ≡ then_done (done_in old) (deeds_of items))
  Updates old new items false = AreThere (shows old) (files_of items) true × (new ≡ old)

module _ {F : Type 0} (fails : F → Type 0) where
  -- Why no snapshot is shown: the folder is told as unusable only if a call on it was answered so.
  abbrev pub WhyNot : FolderError → Type 0
  WhyNot Unusable = (at : F) × fails at
  WhyNot Memory = Unit {0}
