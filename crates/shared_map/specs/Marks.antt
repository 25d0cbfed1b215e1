-- What a node shows: its entries in order, and between its parts the fences by which a search tells them apart.
use Rattle.std.specs.Prelude.{◌≡◌, Bool, true, false, List, [], ◌∷◌, ◌++◌, map, not, T, Option, Some, None}
use Rattle.std.specs.declared.cmp.Ordering.{Ordering}
use Rattle.std.specs.Ordering.{bool_cmp, eq_by_cmp, then_cmp, on}
use Rattle.std.specs.FinMap.Entries.{is_sorted, where_key, put}
use Rattle.shared_map.specs.Name.{Name, name_cmp}

-- the key of a mark: a fence (false) stands just before the entry (true) of its name
abbrev pub Key : Type 0
Key = Name × Bool

abbrev pub key_cmp : Key → Key → Ordering
key_cmp = then_cmp (on (λ k. k.0) name_cmp) (on (λ k. k.1) bool_cmp)

-- an entry has its value, and a fence has none
abbrev pub Marks : Type 0 → Type 0
Marks V = List (Key × Option V)

abbrev pub entry : {V : Type 0} → Name × V → Key × Option V
entry e = ((e.0, true), Some e.1)

abbrev pub fence : {V : Type 0} → Name → Key × Option V
fence name = ((name, false), None)

-- the marks of entries with no fence between them
abbrev pub entries_only : {V : Type 0} → List (Name × V) → Marks V
entries_only es = map entry es

abbrev pub plain_mark : {V : Type 0} → Key × Option V → List (Name × V)
plain_mark ((name, true), Some v) = (name, v) ∷ []
plain_mark m = []

-- the entries among the marks
abbrev pub plain : {V : Type 0} → Marks V → List (Name × V)
plain [] = []
plain (m ∷ ms) = plain_mark m ++ plain ms

-- the keys strictly rise
abbrev pub IsSorted : {V : Type 0} → Marks V → Type 0
IsSorted ms = T (is_sorted key_cmp ms)

-- the marks with this entry in its place
abbrev pub with : {V : Type 0} → Name → V → Marks V → Marks V
with name v = put key_cmp (name, true) (Some v)

-- the marks with no entry under this name
abbrev pub without : {V : Type 0} → Name → Marks V → Marks V
without name = where_key key_cmp (λ k. not (eq_by_cmp key_cmp (name, true) k))

-- the same entries, and in order wherever the others are: fences may have come or gone
pub record IsSameBut {V : Type 0} (new old : Marks V) : Type 0 where
  pub entries : plain new ≡ plain old
  pub order : (l r : Marks V) → IsSorted (l ++ (old ++ r)) → IsSorted (l ++ (new ++ r))

-- the marks of parts, each behind its fence
abbrev pub fenced : {P V : Type 0} → (P → Marks V) → List (Name × P) → Marks V
fenced marks [] = []
fenced marks (p ∷ ps) = fence p.0 ∷ (marks p.1 ++ fenced marks ps)

-- the marks of parts, with a fence between one and the next: the first part's name is no fence
abbrev pub marks_of : {P V : Type 0} → (P → Marks V) → List (Name × P) → Marks V
marks_of marks [] = []
marks_of marks (p ∷ ps) = marks p.1 ++ fenced marks ps
