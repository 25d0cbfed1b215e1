-- The order of a run, over its records by number: what the proof of the linearization shows first.
use Rattle.std.specs.Prelude.{◌≡◌, ℕ, ◌+◌, ◌<◌, ◌≤◌, ◌==◌, nat_lt, ◌&&◌, cond, List, [], ◌∷◌, IfSome, Ok}
use Rattle.std.specs.FinMap as finite
use Rattle.map_core.specs.PlainMap.{PlainMap, ask}
use Rattle.step_core.specs.declared.trace.OpRecord.{OpRecord}
use Rattle.step_core.specs.Records.{took_effect}

-- how often a number stands in a list
abbrev pub times : ℕ → List ℕ → ℕ
times r [] = 0
times r (x ∷ xs) = cond (x == r) 1 0 + times r xs

-- the event is one between the first and the last of the operation
abbrev pub IsDuring : ℕ → OpRecord → ℕ → Type 0
IsDuring events r event = (r.first ≤ event) × (event < events) × IfSome r.last (λ last. event ≤ last)

-- each operation has an event between its first and its last, from this one on, and these rise strictly
abbrev pub Rises : ℕ → (ℕ → OpRecord) → ℕ → List ℕ → Type 0
Rises events records from [] = Unit {0}
Rises events records from (r ∷ rs) = (event : ℕ) × (from ≤ event) × IsDuring events (records r) event × Rises events records (event + 1) rs

-- the plain map, asked in this order, gives each finished operation its reply
abbrev pub Replies : (ℕ → OpRecord) → PlainMap → List ℕ → Type 0
Replies records m [] = Unit {0}
Replies records m (r ∷ rs) =
    let asked = ask m (records r).op in
    IfSome (records r).reply (λ reply. reply ≡ Ok asked.reply) × Replies records asked.map rs

-- the order holds, each once, the operations that stand, and no other; each has an event of its own, and these rise;
-- and the plain map gives the replies, from the empty one on
pub record IsLegal (events : ℕ) (count : ℕ) (records : ℕ → OpRecord) (order : List ℕ) : Type 0 where
  pub members : (r : ℕ) → times r order ≡ cond (nat_lt r count && took_effect (records r)) 1 0
  pub rises : Rises events records 0 order
  pub replies : Replies records finite.empty order
