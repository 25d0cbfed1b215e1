-- What is written of some bytes, and what becomes of the writer.
use Rattle.std.specs.Prelude.{◌≡◌, ◌≢◌, ◌⊎◌, ℕ, List, ◌++◌, Option}
use Rattle.std.specs.Io.KnownBytes.{Appends}
use Rattle.wire.specs.Counted.{end_in, faults_in, next_count}
use Rattle.wire.specs.declared.counted.Counted.{Counted}

-- a front of the bytes is written
pub record WritesFront (old new : Option (List ℕ)) (bytes : List ℕ) : Type 0 where
  pub front : List ℕ
  pub missing : List ℕ
  pub split : bytes ≡ front ++ missing
  pub appends : Appends old new front

-- the bytes that a writer holds or a reader has left, if they are known, and how many of its calls have failed
pub record End : Type 0 where
  pub bytes : Option (List ℕ)
  pub faults : ℕ

abbrev pub end_of : {E : Type 0} → (E → Option (List ℕ)) → Counted E → End
end_of bytes_of counted = record { bytes = bytes_of (end_in counted); faults = faults_in counted }

-- These bytes are written; or a front of them, and a call of the writer has failed.
pub record Tells (old new : End) (bytes : List ℕ) : Type 0 where
  pub told : (Appends old.bytes new.bytes bytes × (new.faults ≡ old.faults)) ⊎ (WritesFront old.bytes new.bytes bytes × (new.faults ≡ next_count old.faults))

-- A text follows, unless the writer has failed since it had failed so often.
abbrev pub TellsUnlessFailed : ℕ → End → End → List ℕ → Type 0
TellsUnlessFailed before old new text = ((old.faults ≡ before) × Tells old new text) ⊎ ((old.faults ≢ before) × (new ≡ old))
