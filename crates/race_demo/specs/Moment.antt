-- The maps of writers that do not rest.
use Rattle.std.specs.Prelude.{◌≡◌, ℕ, suc, zero, ◌+◌, ◌-◌, ◌/◌, ◌%◌, ◌<◌, List, ◌++◌, length, replicate, set}

-- What a writer leaves that sets so many domains in turn, over and over, after so many sets: each has 0 at first, and a set
-- gives the next domain in turn the number of its round, from 1.
abbrev pub map_after : ℕ → ℕ → List ℕ
map_after domains zero = replicate domains 0
map_after domains (suc sets) = set (map_after domains sets) (sets % domains) (sets / domains + 1)

-- at some moment of such a writer its domains have these numbers
abbrev pub IsMoment : List ℕ → Type 0
IsMoment readings = (sets : ℕ) × (readings ≡ map_after (length readings) sets)

-- at some moment of two such writers, with four domains each, the eight domains have these numbers
abbrev pub IsMap : List ℕ → Type 0
IsMap reading = (sets : ℕ) × (others : ℕ) × (reading ≡ map_after 4 sets ++ map_after 4 others)

-- the first so many of the domains have been set once more than the others
abbrev pub few_ahead : ℕ → ℕ → ℕ → List ℕ
few_ahead domains few round = replicate few (round + 1) ++ replicate (domains - few) round

-- at any moment the first few domains of a writer have a number, and the others have the number before it
abbrev pub AreFirstFew : Type 0
AreFirstFew = (domains sets : ℕ) → 0 < domains → (few : ℕ) × (round : ℕ) × (few < domains) × (map_after domains sets ≡ few_ahead domains few round)
