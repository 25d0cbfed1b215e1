-- What the command `diff` writes.
use Rattle.std.specs.Prelude.{◌≡◌, ◌⊎◌, ◌≤◌, ℕ, List, [], ◌∷◌, Bool, true, false, Option, Some, None, Result, Err}
use Rattle.wire.specs.Counted.{reads_since, next_count}
use Rattle.frame_front.specs.Dump.{Domains}
use Rattle.wire.specs.Output.{End}
use Rattle.wire.specs.declared.counted.Counted.{Counted}
use Rattle.wire.specs.declared.error.FrontError.TheVariants.{ReadFault, WriteFault}
use Rattle.map_core.specs.Name.{Name}
use Rattle.commands.specs.declared.fault.Fault.{Fault}
use Rattle.commands.specs.declared.fault.Fault.TheVariants.{Front}
use Rattle.commands.specs.Input.{ReadsInput, most_reads}
use Rattle.commands.specs.Streams.{Source, source_of, WritesText, Ends, three_if}
use Rattle.dump_views.specs.Changes.{Change, AreChanges}
use Rattle.dump_views.specs.ChangeLines.{lines_of}
use Rattle.commands.specs.Reading.{IsRead, Unread}
use Rattle.commands.specs.declared.input.Extent.TheVariants.{Any}

abbrev pub is_some_change : List (Name × Change) → Bool
is_some_change [] = false
is_some_change (change ∷ changes) = true

-- two readers, before and after
pub record Inputs : Type 0 where
  pub old_before : Source
  pub old_after : Source
  pub new_before : Source
  pub new_after : Source

abbrev pub inputs : {R S : Type 0} → (R → Option (List ℕ)) → (S → Option (List ℕ)) → Counted R → Counted R → Counted S → Counted S → Inputs
inputs left_of new_left_of old_before old_after new_before new_after = record {
  old_before = source_of left_of old_before;
  old_after = source_of left_of old_after;
  new_before = source_of new_left_of new_before;
  new_after = source_of new_left_of new_after;
}

-- the readers give dumps, and this changed from that of the old one to that of the new one
pub record Differ (inputs : Inputs) (changes : List (Name × Change)) : Type 0 where
  pub olds : Domains
  pub news : Domains
  pub old_is_read : IsRead Any olds inputs.old_before.bytes inputs.old_after.bytes
  pub new_is_read : IsRead Any news inputs.new_before.bytes inputs.new_after.bytes
  pub changed : AreChanges olds news changes

-- A reader gives no dump for this fault, which is 53 only if the reader failed in the meantime.
pub record NoDump (fault : Fault) (before after : Source) : Type 0 where
  pub unread : Unread Any fault before.bytes after.bytes
  pub reads : ReadsInput Any {T = Unit {0}} (Err fault) before.reads after.reads
  pub failed : fault ≡ Front ReadFault → after.faults ≡ next_count before.faults

-- the old reader gives none, and the new one is not read; or the old one gives a dump, and the new one none
abbrev pub NoDiff : Inputs → Fault → Type 0
NoDiff inputs fault =
    (NoDump fault inputs.old_before inputs.old_after × (inputs.new_after ≡ inputs.new_before))
    ⊎ ((olds : Domains) × IsRead Any olds inputs.old_before.bytes inputs.old_after.bytes × NoDump fault inputs.new_before inputs.new_after)

-- each is read so often at most
abbrev pub AreReadFew : Inputs → Type 0
AreReadFew inputs =
    (reads_since inputs.old_before.reads inputs.old_after.reads ≤ most_reads Any)
    × (reads_since inputs.new_before.reads inputs.new_after.reads ≤ most_reads Any)

-- whether something did
abbrev pub Says : Option Bool → List (Name × Change) → Type 0
Says (Some some) changes = some ≡ is_some_change changes
Says None changes = Unit {0}

-- the lines of what changed
abbrev pub DiffOf : Inputs → Option Bool → List ℕ → Type 0
DiffOf inputs value text = (changes : List (Name × Change)) × Differ inputs changes × Says value changes × (text ≡ lines_of changes)

-- The whole command: 3 if something changed; 54 is told only if the writer failed in the meantime.
pub record DiffRun (inputs : Inputs) (status : ℕ) (output_old output_new error_old error_new : End) : Type 0 where
  pub ended : Result Bool Fault
  pub ends : Ends three_if ended status error_old error_new
  pub reads : AreReadFew inputs
  pub writes : WritesText (DiffOf inputs) (NoDiff inputs) ended output_old output_new
  pub blames : ended ≡ Err (Front WriteFault) → output_new.faults ≡ next_count output_old.faults
