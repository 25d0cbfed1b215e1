-- Counts of failing calls, which stay at 2^64 - 1 once there, and of reads, which go on at 0 after it.
use Rattle.std.specs.Prelude.{◌≡◌, ℕ, ◌+◌, ◌-◌, ◌%◌, ◌^◌, ◌≤◌, min}
use Rattle.wire.specs.declared.counted.Counted.{Counted}

abbrev pub next_count : ℕ → ℕ
next_count n = min (n + 1) (2 ^ 64 - 1)

abbrev pub next_read : ℕ → ℕ
next_read n = (n + 1) % 2 ^ 64

-- the reader or the writer that is counted
abbrev pub end_in : {E : Type 0} → Counted E → E
end_in counted = counted.end

-- the count of failing calls
abbrev pub faults_in : {E : Type 0} → Counted E → ℕ
faults_in counted = counted.faults

-- the count of reads
abbrev pub reads_of : {E : Type 0} → Counted E → ℕ
reads_of counted = counted.reads

-- how many reads lead from one count of them to another, if they are fewer than 2^64
abbrev pub reads_since : ℕ → ℕ → ℕ
reads_since old new = (new + 2 ^ 64 - old) % 2 ^ 64

-- At most so many reads were made; and exactly so many if they are used up.
abbrev pub MakesReads : ℕ → Type 0 → ℕ → ℕ → Type 0
MakesReads turns UsedUp old new = (reads_since old new ≤ turns) × (UsedUp → reads_since old new ≡ turns)
