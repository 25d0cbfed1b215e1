-- What a reader of the folder sees.
use Rattle.std.specs.Prelude.{◌≡◌, ◌≢◌, List, [], ◌∷◌, ◌++◌}
use Rattle.frame_front.specs.Dump.{Domains}
use Rattle.snapshots.specs.Files.{File, files_of}
use Rattle.snapshots.specs.Deeds.{Deed, deeds_of}
use Rattle.snapshots.specs.Deeds.Deed.{Begin, Put, Show}

-- the files of the current snapshot, and those of the one that is being written
pub record Seen : Type 0 where
  pub current : List File
  pub written : List File

-- what a deed makes of them
abbrev pub after : Deed → Seen → Seen
after Begin seen = record { current = seen.current; written = [] }
after (Put file) seen = record { current = seen.current; written = seen.written ++ file ∷ [] }
after Show seen = record { current = seen.written; written = [] }

-- what deeds make of them, one after the other
abbrev pub after_all : List Deed → Seen → Seen
after_all [] seen = seen
after_all (deed ∷ deeds) seen = after_all deeds (after deed seen)

-- Whenever a reader looks, while a snapshot is written and shown, it sees all files of the snapshot before and no other, or once
-- all is done, all files of the new one and no other.
abbrev pub OneMoment : Type 0
OneMoment = (items : Domains) (before : Seen) (done rest : List Deed) → deeds_of items ≡ done ++ rest
    → (rest ≢ [] → (after_all done before).current ≡ before.current) × (rest ≡ [] → (after_all done before).current ≡ files_of items)
