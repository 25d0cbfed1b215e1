-- When a bundle is fetched again (SPIFFE Trust Domain and Bundle, section 4.1.2).
use Rattle.std.specs.Prelude.{ℕ, ◌+◌, Option, min, max}
use Rattle.std.specs.Option.{unwrap_or}

-- after the hint, in seconds, at least one; 300 if there is no hint; at most the greatest number of 64 bits
abbrev pub due_after : ℕ → Option ℕ → ℕ
due_after now hint = min (now + max 1 (unwrap_or hint 300)) 18446744073709551615

-- when a relationship is due again: as the refresh came to, but not before so many seconds are over; at most the greatest
-- number of 64 bits
abbrev pub due_not_before : ℕ → ℕ → ℕ → ℕ
due_not_before now at_least due = max due (min (now + at_least) 18446744073709551615)
