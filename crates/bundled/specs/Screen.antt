-- Standard output that is a terminal.
use Rattle.std.specs.Prelude.{◌≡◌, ◌≤◌, ◌⊎◌, ℕ, List, Bool, true, false, Option, None}

-- A terminal only shows the byte: it is printable ASCII, or a line feed.
abbrev pub IsShown : ℕ → Type 0
IsShown byte = ((32 ≤ byte) × (byte ≤ 126)) ⊎ (byte ≡ 10)

-- What an end holds of the bytes that were written: a terminal is given others in their place.
abbrev pub held_by : {W : Type 0} → (W → Option (List ℕ)) → Bool → W → Option (List ℕ)
held_by held_of true end = None
held_by held_of false end = held_of end
