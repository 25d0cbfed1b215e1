-- The data that a tree over borrowed text stands for, for private contracts: what `serde_json` makes of the same text.
use Rattle.std.specs.Prelude.{List, map, Bool, true, ◌&&◌, is_some, Option, Some, None}
use Rattle.json.specs.Json as json
use Rattle.json.specs.Value.{value_view}
use Rattle.json.specs.declared.value.Value.{Value}
use Rattle.serde_json.specs.Data.{Num, Data, null, boolean, number, string, array, object, Items, no_items, item, Members, no_members, put}
use Rattle.serde_json.specs.Read.{number_of}
use Rattle.serde_json.specs.View.{items_of}

-- a number that is too large for a float stands for null: no tree that has one is kept
abbrev pub number_or_null : Option Num → Data
number_or_null (Some n) = number n
number_or_null None = null

-- of the members of one name the last one stays
abbrev mutual
  pub data_of : json.Json → Data
  data_of json.null = null
  data_of (json.boolean b) = boolean b
  data_of (json.number text) = number_or_null (number_of text)
  data_of (json.string text) = string text
  data_of (json.array js) = array (data_items js)
  data_of (json.object ms) = object (data_members ms no_members)

  pub data_items : json.Items → Items
  data_items json.no_items = no_items
  data_items (json.item j js) = item (data_of j) (data_items js)

  pub data_members : json.Members → Members → Members
  data_members json.no_members found = found
  data_members (json.member k j ms) found = data_members ms (put k (data_of j) found)

-- no number in it is too large
abbrev mutual
  pub in_range : json.Json → Bool
  in_range json.null = true
  in_range (json.boolean b) = true
  in_range (json.number text) = is_some (number_of text)
  in_range (json.string text) = true
  in_range (json.array js) = items_in_range js
  in_range (json.object ms) = members_in_range ms

  pub items_in_range : json.Items → Bool
  items_in_range json.no_items = true
  items_in_range (json.item j js) = in_range j && items_in_range js

  pub members_in_range : json.Members → Bool
  members_in_range json.no_members = true
  members_in_range (json.member k j ms) = in_range j && members_in_range ms

abbrev pub tree_data : {A : Type 0} → Value A → Data
tree_data tree = data_of (value_view tree)

abbrev pub list_data : {A : Type 0} → List (Value A) → Items
list_data trees = items_of (map tree_data trees)
