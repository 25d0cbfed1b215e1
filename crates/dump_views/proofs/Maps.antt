-- What a bundle map says.
use Rattle.std.proofs.Common.{◌≡◌, ℕ, List, [], ◌∷◌, bytes_eq, inl, inr, Option, Some, None, refl, ap, subst, ◌∙◌, codes}
use Rattle.std.specs.Prelude.{option_map, option_and_then}
use Rattle.std.specs.List.{AllByRecursion}
use Rattle.std.specs.Str.{IsUtf8, is_utf8}
use Rattle.std.proofs.lemmas.Str.{IsUtf8-from_is_utf8, is_utf8-from_IsUtf8}
use Rattle.std.proofs.lemmas.Bool.{cases_Bool}
use Rattle.json.specs.Json.{Json, null, boolean, number, string, array, object, Members, no_members, member, document}
use Rattle.json.specs.Tree.{HasNumbers, MembersHaveNumbers}
use Rattle.dump_views.specs.Import.{Member, member_list, as_object, values_named, only_one, json_of, domains_in, listed, FaultOfMap}
use Rattle.dump_views.specs.declared.error.MapError.{MapError}
use Rattle.dump_views.specs.declared.error.MapError.TheVariants.{NotMap, BadMember, Memory}
use Rattle.dump_views.specs.Private.Reading.{FaultOfMembers}

-- ---- numbers of a part are numbers

values_numbers : (name : List ℕ) (ms : Members) → MembersHaveNumbers ms → AllByRecursion HasNumbers (values_named name ms)
values_numbers name no_members all = tt
values_numbers name (member k v more) all = elim (cases_Bool (bytes_eq k name)) [
  | inl same ↦ rw same (all.0, values_numbers name more all.1)
  | inr other ↦ rw other (values_numbers name more all.1)
]

only_numbers : (vs : List Json) (v : Json) → AllByRecursion HasNumbers vs → only_one vs ≡ Some v → HasNumbers v
only_numbers [] v all is = cc is
only_numbers (x ∷ []) v all is = let same : x ≡ v = cc is in subst HasNumbers same all.0
only_numbers (x ∷ y ∷ more) v all is = cc is

object_numbers : (j : Json) (ms : Members) → HasNumbers j → as_object j ≡ Some ms → MembersHaveNumbers ms
object_numbers null ms all is = cc is
object_numbers (boolean b) ms all is = cc is
object_numbers (number s) ms all is = cc is
object_numbers (string s) ms all is = cc is
object_numbers (array js) ms all is = cc is
object_numbers (object own) ms all is = let same : own ≡ ms = cc is in subst MembersHaveNumbers same all

pub numbers_in : (j : Json) (ms : Members) → HasNumbers j → domains_in j ≡ Some ms → MembersHaveNumbers ms
numbers_in j ms all is = of_object (as_object j) refl is
  where
    of_value : (own : Members) → MembersHaveNumbers own → (v : Option Json) → only_one (values_named (codes "trust_domains") own) ≡ v → option_and_then as_object v ≡ Some ms → MembersHaveNumbers ms
    of_value own numbers None one found = cc found
    of_value own numbers (Some v) one found =
        object_numbers v ms (only_numbers (values_named (codes "trust_domains") own) v (values_numbers (codes "trust_domains") own numbers) one) found

    of_object : (o : Option Members) → as_object j ≡ o
        → option_and_then as_object (option_and_then (λ members. only_one (values_named (codes "trust_domains") members)) o) ≡ Some ms → MembersHaveNumbers ms
    of_object None is_object found = cc found
    of_object (Some own) is_object found = of_value own (object_numbers j own all is_object) (only_one (values_named (codes "trust_domains") own)) refl found

-- ---- the tree of a file

pub json_some : (file : List ℕ) (j : Json) → IsUtf8 file → document file ≡ Some j → json_of file ≡ Some j
json_some file j utf8 reads = rw (is_utf8-from_IsUtf8 file utf8) reads

pub json_none : (file : List ℕ) → (IsUtf8 file → document file ≡ None) → json_of file ≡ None
json_none file none = elim (cases_Bool (is_utf8 file)) [
  | inl utf8 ↦ rw utf8 (none (IsUtf8-from_is_utf8 file utf8))
  | inr other ↦ rw other refl
]

-- ---- the members of a file

pub listed_is : (file : List ℕ) (j : Json) (ms : Members) → json_of file ≡ Some j → domains_in j ≡ Some ms → listed file ≡ Some (member_list ms)
listed_is file j ms reads is = ap (λ t. option_map member_list (option_and_then domains_in t)) reads ∙ ap (option_map member_list) is

pub fault_of_map : (file : List ℕ) (entries : List Member) (error : MapError) → listed file ≡ Some entries → FaultOfMembers entries error → FaultOfMap error file
fault_of_map file entries NotMap lists bad = absurd bad
fault_of_map file entries (BadMember place fault) lists bad = (entries, lists, bad)
fault_of_map file entries Memory lists bad = tt
