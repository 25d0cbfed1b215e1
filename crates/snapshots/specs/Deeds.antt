-- What is done in the folder of snapshots.
use Rattle.std.specs.Prelude.{◌≡◌, List, [], ◌∷◌, ◌++◌, map, Option, option_map}
use Rattle.frame_front.specs.Dump.{Domains}
use Rattle.snapshots.specs.Files.{File, files_of}

-- one step that went well
pub data Deed : Type 0 where
  -- a new folder is made, with nothing in it
  Begin : Deed
  -- a file is written whole into it
  Put : (file : File) → Deed
  -- the new folder becomes the current one
  Show : Deed

-- a snapshot is written, and only then shown
abbrev pub deeds_of : Domains → List Deed
deeds_of items = Begin ∷ map Put (files_of items) ++ Show ∷ []

-- what was done, if it is known, and then these
abbrev pub then_done : Option (List Deed) → List Deed → Option (List Deed)
then_done known deeds = option_map (λ done. done ++ deeds) known

-- Some of these were done, in order, and not all: the last one is not.
pub record IsCutShort (old new : Option (List Deed)) (deeds : List Deed) : Type 0 where
  pub done : List Deed
  pub next : Deed
  pub rest : List Deed
  pub cut : deeds ≡ done ++ (next ∷ rest)
  pub log : new ≡ then_done old done
