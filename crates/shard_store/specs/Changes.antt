-- Changes of the map in the order in which they were made, and what one shard has of them.
use Rattle.std.specs.Prelude.{◌≡◌, ◌⊎◌, ℕ, ◌+◌, ◌-◌, ◌<◌, ◌≤◌, List, ◌∷◌, ◌++◌, nat_eq, []}
use Rattle.std.specs.List.{fold, count_by}
use Rattle.std.specs.FinMap as finite
use Rattle.map_core.specs.declared.op.Op.{Op}
use Rattle.map_core.specs.PlainMap.{PlainMap, put, ask, home, name_of}
use Rattle.shard_store.specs.declared.change.Change.{Change}
use Rattle.shard_store.specs.declared.change.Seen.{Seen}

-- the map after one change more
abbrev pub make_change : PlainMap → Change → PlainMap
make_change m c = put m c.name c.now

-- the map after a list of changes
abbrev pub after : List Change → PlainMap
after log = fold make_change finite.empty log

-- the change that an operation makes of the map after the list
abbrev pub change_of : Op → List Change → ℕ → Change
change_of op list number = record { name = name_of op; now = finite.get (ask (after list) op).map (name_of op); number = number }

-- how many of the changes are of names at home in the shard, of n
abbrev pub count : ℕ → List Change → ℕ → ℕ
count n log shard = count_by (λ c. nat_eq (home n c.name) shard) log

-- the number is in one of the ranges
abbrev pub HasNumber : List (ℕ × ℕ) → ℕ → Type 0
HasNumber [] k = ⊥
HasNumber (r ∷ rs) k = ((r.0 ≤ k) × (k < r.0 + r.1)) ⊎ HasNumber rs k

-- each change bears a number that a pass can have, and that is in none of the ranges
abbrev pub AreOthers : List (ℕ × ℕ) → List Change → Type 0
AreOthers ranges [] = Unit {0}
AreOthers ranges (c ∷ cs) = (c.number < 4294967296) × (¬ HasNumber ranges c.number) × AreOthers ranges cs

-- the list begins with what was seen, and what is new in it are changes of others
abbrev pub Extends : List Change → Seen → Type 0
Extends list seen = (new : List Change) × (list ≡ seen.log ++ new) × AreOthers seen.ranges new

-- how many numbers the first range has: these are the pass's own, the other ranges were taken in
abbrev pub own_count : List (ℕ × ℕ) → ℕ
own_count [] = 0
own_count (r ∷ rs) = r.1

-- the first number of all, which the changes of the pass bear
abbrev pub own_number : List (ℕ × ℕ) → ℕ
own_number [] = 0
own_number (r ∷ rs) = r.0

-- the ranges without the last numbers of the first range
abbrev pub without_last : ℕ → List (ℕ × ℕ) → List (ℕ × ℕ)
without_last share [] = []
without_last share (r ∷ rs) = (r.0, r.1 - share) ∷ rs

-- those last numbers
abbrev pub just_last : ℕ → List (ℕ × ℕ) → List (ℕ × ℕ)
just_last share [] = []
just_last share (r ∷ rs) = (r.0 + (r.1 - share), share) ∷ []
