-- How sessions end, and what is kept of that.
use Rattle.std.specs.Prelude.{◌≡◌, ℕ, suc, min, List, [], ◌∷◌, ◌++◌, take, Bool, true, false, Result, Ok, Err}
use Rattle.wire.specs.Error.{front_number}
use Rattle.workers.specs.declared.ended.SessionFault.{SessionFault}
use Rattle.workers.specs.declared.ended.SessionFault.TheVariants.{Front, Listen}

-- the number under which a fault is shown
abbrev pub session_number : SessionFault → ℕ
session_number (Front error) = front_number error
session_number Listen = 57

-- How a session ended: after so many frames that were answered, or by a fault. If the listener failed, no session came.

-- how many sessions were begun
abbrev pub session_count : List (Result ℕ SessionFault) → ℕ
session_count [] = 0
session_count (Err Listen ∷ ends) = session_count ends
session_count (end ∷ ends) = suc (session_count ends)

-- a session came each time that a worker waited for one
abbrev pub all_came : List (Result ℕ SessionFault) → Bool
all_came [] = true
all_came (Err Listen ∷ ends) = false
all_came (end ∷ ends) = all_came ends

-- the faults, in their order
abbrev pub faults_of : List (Result ℕ SessionFault) → List SessionFault
faults_of [] = []
faults_of (Ok count ∷ ends) = faults_of ends
faults_of (Err fault ∷ ends) = fault ∷ faults_of ends

-- so many faults are kept
abbrev pub most_faults : ℕ
most_faults = 1000

-- what is kept of the ends of a worker's sessions
pub record EndsView : Type 0 where
  pub begun : ℕ
  pub came : Bool
  pub faults : List SessionFault

-- of these ends: how many sessions were begun, whether all came, and the first faults
abbrev pub kept_of : List (Result ℕ SessionFault) → EndsView
kept_of ends = record { begun = min (session_count ends) 18446744073709551615; came = all_came ends; faults = take most_faults (faults_of ends) }

-- these ends are noted after those that were
abbrev pub Notes : List (Result ℕ SessionFault) → EndsView → EndsView → Type 0
Notes ends old new = (before : List (Result ℕ SessionFault)) → old ≡ kept_of before → new ≡ kept_of (before ++ ends)
