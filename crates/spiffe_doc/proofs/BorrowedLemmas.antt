-- A tree over borrowed text stands for what `serde_json` reads, and looks into it find what looks into its data find.
use Rattle.std.proofs.Common.{◌≡◌, ℕ, List, [], ◌∷◌, bytes_eq, cond, Bool, true, false, ◌&&◌, Option, Some, None, option_map, option_and_then, Bor, Vec, refl, sym, ap, ◌∙◌}
use Rattle.std.specs.Prelude.{is_some}
use Rattle.std.specs.Option.{option_or}
use Rattle.std.specs.Cmp.Lexicographic.{bytes_decides}
use Rattle.json.specs.Json as json
use Rattle.json.specs.Find as find
use Rattle.json.specs.Value.{value_view, items_view, members_view}
use Rattle.json.specs.declared.value.Value.{Value, Array}
use Rattle.json.proofs.Trees.{view-Array}
use Rattle.serde_json.specs.Data.{Num, Data, number, array, object, Items, item, Members, no_members, put}
use Rattle.serde_json.specs.Find.{get, get_member}
use Rattle.serde_json.specs.Read.{number_of, of_json, of_items, of_members}
use Rattle.serde_json.proofs.Views.{get_member-put, get_member-put_other}
use Rattle.spiffe_doc.specs.Private.Borrowed.{number_or_null, data_of, data_items, data_members, in_range, items_in_range, members_in_range, tree_data, list_data}

-- ---- what serde_json reads

-- the value, if it is in range
abbrev pub if_in : {A : Type 0} → Bool → A → Option A
if_in b x = cond b (Some x) None

number_read : (n : Option Num) → option_map number n ≡ if_in (is_some n) (number_or_null n)
number_read (Some n) = refl
number_read None = refl

array_read : (b : Bool) (ds : Items) → option_map array (if_in b ds) ≡ if_in b (array ds)
array_read true ds = refl
array_read false ds = refl

object_read : (b : Bool) (ms : Members) → option_map object (if_in b ms) ≡ if_in b (object ms)
object_read true ms = refl
object_read false ms = refl

item_read : (a b : Bool) (d : Data) (ds : Items) → option_and_then (λ e. option_map (item e) (if_in b ds)) (if_in a d) ≡ if_in (a && b) (item d ds)
item_read true true d ds = refl
item_read true false d ds = refl
item_read false b d ds = refl

member_read : (a b : Bool) (d : Data) (f : Data → Option Members) (ms : Members) → f d ≡ if_in b ms → option_and_then f (if_in a d) ≡ if_in (a && b) ms
member_read true b d f ms e = e
member_read false b d f ms e = refl

mutual
  pub of_json-data_of : (j : json.Json) → of_json j ≡ if_in (in_range j) (data_of j)
  of_json-data_of json.null = refl
  of_json-data_of (json.boolean b) = refl
  of_json-data_of (json.number text) = number_read (number_of text)
  of_json-data_of (json.string text) = refl
  of_json-data_of (json.array js) = ap (option_map array) (of_items-data_items js) ∙ array_read (items_in_range js) (data_items js)
  of_json-data_of (json.object ms) = ap (option_map object) (of_members-data_members ms no_members) ∙ object_read (members_in_range ms) (data_members ms no_members)

  of_items-data_items : (js : json.Items) → of_items js ≡ if_in (items_in_range js) (data_items js)
  of_items-data_items json.no_items = refl
  of_items-data_items (json.item j js) =
      rw (of_json-data_of j, of_items-data_items js) (item_read (in_range j) (items_in_range js) (data_of j) (data_items js))

  of_members-data_members : (ms : json.Members) (found : Members) → of_members ms found ≡ if_in (members_in_range ms) (data_members ms found)
  of_members-data_members json.no_members found = refl
  of_members-data_members (json.member k j ms) found =
      rw (of_json-data_of j) (member_read (in_range j) (members_in_range ms) (data_of j) (λ d. of_members ms (put k d found)) (data_members ms (put k (data_of j) found))
      (of_members-data_members ms (put k (data_of j) found)))

-- ---- looks

-- what a name has after one more member
get_member-put_at : (name k : List ℕ) (d : Data) (found : Members) (b : Bool) → bytes_eq k name ≡ b → get_member name (put k d found) ≡ option_or (cond b (Some d) None) (get_member name found)
get_member-put_at name k d found true e = rw (sym ((bytes_decides k name).0 e)) (get_member-put k d found)
get_member-put_at name k d found false e = get_member-put_other name k d found (λ same. cc (sym e ∙ (bytes_decides k name).1 (sym same)))

over : (o : Option json.Json) (b : Bool) (j : json.Json) (old : Option Data)
    → option_or (option_map data_of o) (option_or (cond b (Some (data_of j)) None) old) ≡ option_or (option_map data_of (find.later_or o (cond b (Some j) None))) old
over (Some i) b j old = refl
over None true j old = refl
over None false j old = refl

found_in : (name : List ℕ) (ms : json.Members) (found : Members) → get_member name (data_members ms found) ≡ option_or (option_map data_of (find.get_member name ms)) (get_member name found)
found_in name json.no_members found = refl
found_in name (json.member k j ms) found =
    found_in name ms (put k (data_of j) found)
    ∙ ap (option_or (option_map data_of (find.get_member name ms))) (get_member-put_at name k (data_of j) found (bytes_eq k name) refl)
    ∙ over (find.get_member name ms) (bytes_eq k name) j (get_member name found)

or_none : (o : Option Data) → option_or o None ≡ o
or_none (Some d) = refl
or_none None = refl

none_of_number : (name : List ℕ) (n : Option Num) → get name (number_or_null n) ≡ None
none_of_number name (Some n) = refl
none_of_number name None = refl

pub get-data_of : (name : List ℕ) (j : json.Json) → get name (data_of j) ≡ option_map data_of (find.get name j)
get-data_of name json.null = refl
get-data_of name (json.boolean b) = refl
get-data_of name (json.number text) = none_of_number name (number_of text)
get-data_of name (json.string text) = refl
get-data_of name (json.array js) = refl
get-data_of name (json.object ms) = found_in name ms no_members ∙ or_none _

pub data_items-view : {A : Type 0} → (vs : List (Value A)) → data_items (items_view vs) ≡ list_data vs
data_items-view [] = refl
data_items-view (v ∷ vs) = ap (item (tree_data v)) (data_items-view vs)

pub tree_data-Array : {A : Type 0} → (v : Vec (Value A) A) → tree_data (Array v) ≡ array (list_data v.items)
tree_data-Array v = ap data_of (view-Array v) ∙ ap array (data_items-view v.items)

-- a look by reference, as one into the data
pub found_data : {A : Type 0} → (r : Option (Bor (Value A))) (o : Option json.Json) → option_map (λ found. value_view found.now) r ≡ o → option_map (λ found. tree_data found.now) r ≡ option_map data_of o
found_data None o e = ap (option_map data_of) e
found_data (Some found) o e = ap (option_map data_of) e

-- ---- one more item or member in range

pub item_in_range : {A : Type 0} → (v : Value A) (vs : List (Value A)) (b : Bool) → b ≡ in_range (value_view v) → items_in_range (items_view (v ∷ vs)) ≡ (b && items_in_range (items_view vs))
item_in_range v vs b e = ap (λ c. c && items_in_range (items_view vs)) (sym e)

pub member_in_range : {A : Type 0} → (m : Bor (List ℕ) × Value A) (ms : List (Bor (List ℕ) × Value A)) (b : Bool) → b ≡ in_range (value_view m.1) → members_in_range (members_view (m ∷ ms)) ≡ (b && members_in_range (members_view ms))
member_in_range m ms b e = ap (λ c. c && members_in_range (members_view ms)) (sym e)
