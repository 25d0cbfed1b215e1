-- What a server keeps of its last map.
use Rattle.std.specs.Prelude.{◌≡◌, ◌⊎◌, ℕ, List, [], Bool, true, false, Option, Some, None}
use Rattle.wire.specs.declared.error.FrontError.TheVariants.{Memory}
use Rattle.commands.specs.Fault.{fault_line}
use Rattle.commands.specs.declared.fault.Fault.{Fault}
use Rattle.commands.specs.declared.fault.Fault.TheVariants.{Front, Unsaved}

-- whoever is to keep the last map keeps this dump; without anybody, nothing is said
abbrev pub Keeps : {K : Type 0} → (K → List ℕ → Type 0) → Option K → List ℕ → Type 0
Keeps keeps None dump = Unit {0}
Keeps keeps (Some keeper) dump = keeps keeper dump

-- what is kept in a file of the host is not known
abbrev pub IsUnknown : List ℕ → Type 0
IsUnknown dump = Unit {0}

-- why a dump is not kept: memory ran out, or its file can't be written
abbrev pub IsSaveFault : Fault → Type 0
IsSaveFault fault = (fault ≡ Front Memory) ⊎ (fault ≡ Unsaved)

-- The dump is kept, and nothing is told; or it is not, and why is told.
abbrev pub KeepsDump : (List ℕ → Type 0) → List ℕ → Bool → List ℕ → Type 0
KeepsDump Kept dump true line = Kept dump × (line ≡ [])
KeepsDump Kept dump false line = (fault : Fault) × IsSaveFault fault × (line ≡ fault_line fault)
