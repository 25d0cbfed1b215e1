-- What the text of a map reads as.
use Rattle.std.proofs.Common.{◌≡◌, ℕ, ◌≤◌, List, [], ◌∷◌, codes, Bool, true, false, Option, Some, None, Ok, refl, sym, ap, subst, ◌∙◌, arith, lit≤}
use Rattle.std.specs.Prelude.{option_map, option_and_then}
use Rattle.std.specs.Str.{IsUtf8, is_utf8}
use Rattle.std.proofs.lemmas.Str.{IsUtf8-append, IsUtf8-nil, IsUtf8-from_ascii, is_utf8-from_IsUtf8}
use Rattle.json.specs.Json as json
use Rattle.json.specs.Tree as json_tree
use Rattle.json.specs.Print.{print}
use Rattle.json.proofs.Printed.Trees.{document-print}
use Rattle.json.proofs.Printed.Utf8.{IsUtf8-are_ascii, IsUtf8-key}
use Rattle.serde_json.specs.Data.{Members, no_members, member}
use Rattle.serde_json.specs.Read.{of_json, of_members, read}
use Rattle.serde_json.specs.Written.{outline, items_outline, members_outline, comma_if}
use Rattle.serde_json.proofs.Texts.{print-outline}
use Rattle.spiffe_doc.specs.Authority.{BundleValue}
use Rattle.spiffe_doc.specs.declared.authority.Authority.{Authority}
use Rattle.spiffe_doc.specs.Bundle.{IsBundle}
use Rattle.spiffe_doc.specs.Document.{document, json_tree as data_of_text}
use Rattle.spiffe_doc.specs.Text.{entry_trees, document_tree, text_of}
use Rattle.spiffe_doc.proofs.NameLemmas.{IsAscii-IsName, IsName-trust_domain}
use Rattle.spiffe_doc.proofs.RoundTrip.{document-text_of}
use Rattle.spiffe_doc.proofs.TextLemmas.{entry_depth, document_reads, document_numbers}
use Rattle.spiffe_doc.proofs.TextUtf8.{document_utf8}
use Rattle.spiffe_doc.proofs.TreeLemmas.{read-compact_text}
use Rattle.map_core.specs.Name.{Name}
use Rattle.map_core.specs.Laws.{Ascends}
use Rattle.frame_front.specs.Dump.{Domains, AreValid}
use Rattle.dump_views.specs.Choice.{names_of}
use Rattle.dump_views.specs.Map.{domain_members, map_tree, map_text}
use Rattle.dump_views.specs.Import.{Member, member_list, member_names, StandOnce, AreMembersOf, IsMap, json_of, domains_in, listed}
use Rattle.dump_views.specs.Private.Writing.{domain_texts}
use Rattle.dump_views.proofs.Texts.{map_text-pieces}
use Rattle.dump_views.proofs.Orders.{StandOnce-ascending, onto, put_last, IsUpTo, IsUpTo-none, IsUpTo-one, onto-one}

-- ---- its tree

entries_depth : (xs : List Authority) → json_tree.items_depth (items_outline (entry_trees xs)) ≤ 2
entries_depth [] = lit≤ tt
entries_depth (a ∷ xs) = omega (arith, entry_depth a, entries_depth xs)

document_depth : (b : BundleValue) → json_tree.depth (outline (document_tree b)) ≤ 4
document_depth b = go b.sequence b.refresh_hint
  where
    go : (sequence hint : Option ℕ)
        → (let q : BundleValue = record { sequence = sequence; refresh_hint = hint; authorities = b.authorities } in json_tree.depth (outline (document_tree q)) ≤ 4)
    go None None = omega (arith, entries_depth b.authorities)
    go (Some n) None = omega (arith, entries_depth b.authorities)
    go None (Some m) = omega (arith, entries_depth b.authorities)
    go (Some n) (Some m) = omega (arith, entries_depth b.authorities)

domains_depth : (items : Domains) → json_tree.members_depth (members_outline (domain_members items)) ≤ 4
domains_depth [] = lit≤ tt
domains_depth (item ∷ items) = omega (arith, document_depth item.1, domains_depth items)

domains_numbers : (items : Domains) → AreValid items → json_tree.MembersHaveNumbers (members_outline (domain_members items))
domains_numbers [] valid = tt
domains_numbers (item ∷ items) valid = (document_numbers item.1 valid.0.1.sequence_fits valid.0.1.hint_fits, domains_numbers items valid.1)

map_json : (items : Domains) → AreValid items → json.document (map_text items) ≡ Some (outline (map_tree items))
unfolding map_text
map_json items valid =
    ap json.document (sym (print-outline (map_tree items)))
    ∙ document-print (outline (map_tree items)) (domains_numbers items valid, tt) (omega (arith, domains_depth items))

-- ---- its bytes

comma_utf8 : (later : Bool) → IsUtf8 (comma_if later)
comma_utf8 true = IsUtf8-are_ascii _ refl
comma_utf8 false = IsUtf8-nil

bundle_utf8 : (b : BundleValue) → IsBundle b → IsUtf8 (text_of b)
unfolding text_of
bundle_utf8 b valid = document_utf8 b valid.sequence_fits valid.hint_fits valid.authorities.valid

domains_utf8 : (later : Bool) (items : Domains) → AreValid items → IsUtf8 (domain_texts later items)
domains_utf8 later [] valid = IsUtf8-nil
domains_utf8 later (item ∷ items) valid =
    IsUtf8-append _ _ (IsUtf8-append _ _ (comma_utf8 later) (IsUtf8-key item.0 (IsUtf8-from_ascii _ (IsAscii-IsName item.0 valid.0.0))))
    (IsUtf8-append _ _ (bundle_utf8 item.1 valid.0.1) (domains_utf8 true items valid.1))

map_utf8 : (items : Domains) → AreValid items → is_utf8 (map_text items) ≡ true
map_utf8 items valid =
    is_utf8-from_IsUtf8 (map_text items)
    (subst IsUtf8 (sym (map_text-pieces items))
    (IsUtf8-append _ _ (IsUtf8-append _ _ (IsUtf8-are_ascii (codes "{\"trust_domains\":{") refl) (domains_utf8 false items valid)) (IsUtf8-are_ascii (codes "}}") refl)))

-- ---- its members

abbrev written_members : Domains → List Member
written_members [] = []
written_members (item ∷ items) = (item.0, outline (document_tree item.1)) ∷ written_members items

members_are : (items : Domains) → member_list (members_outline (domain_members items)) ≡ written_members items
members_are [] = refl
members_are (item ∷ items) = ap (λ rest. (item.0, outline (document_tree item.1)) ∷ rest) (members_are items)

names_are : (items : Domains) → member_names (written_members items) ≡ names_of items
names_are [] = refl
names_are (item ∷ items) = ap (λ rest. item.0 ∷ rest) (names_are items)

bundle_read : (b : BundleValue) → IsBundle b → document (print (json_tree.json_tokens (outline (document_tree b)))) ≡ Ok b
unfolding text_of
bundle_read b valid = ap document (print-outline (document_tree b)) ∙ document-text_of b valid

members_read : (items : Domains) → AreValid items → AreMembersOf items (written_members items)
members_read [] valid = tt
members_read (item ∷ items) valid = ((IsName-trust_domain item.0 item.0 refl valid.0.0, bundle_read item.1 valid.0.1), members_read items valid.1)

listed_are : (items : Domains) → AreValid items → listed (map_text items) ≡ Some (written_members items)
listed_are items valid =
    let tree : json_of (map_text items) ≡ Some (outline (map_tree items)) = rw (map_utf8 items valid) (map_json items valid) in
    ap (λ t. option_map member_list (option_and_then domains_in t)) tree ∙ ap Some (members_are items)

-- the text of a map is a map of its domains
pub map_read : (items : Domains) → AreValid items → Ascends None items → IsMap (map_text items) items
map_read items valid ascending = (
  written_members items,
  listed_are items valid,
  record {
    once = subst StandOnce (sym (names_are items)) (StandOnce-ascending None items ascending);
    are = members_read items valid;
  },
)

-- ---- its data

domains_reads : (last : Option Name) (found : Members) (items : Domains) → AreValid items → Ascends last items → IsUpTo found last
    → of_members (members_outline (domain_members items)) found ≡ Some (onto found (domain_members items))
domains_reads last found [] valid ascending up = ap Some (sym (onto_none found))
  where
    onto_none : (ms : Members) → onto ms no_members ≡ ms
    onto_none no_members = refl
    onto_none (member k d more) = ap (λ rest. member k d rest) (onto_none more)
domains_reads last found (item ∷ items) valid ascending up =
    let d = document_tree item.1 in
    rw (document_reads item.1 valid.0.1.sequence_fits valid.0.1.hint_fits, put_last item.0 d found (up item.0 ascending.0))
    (domains_reads (Some item.0) (onto found (member item.0 d no_members)) items valid.1 ascending.1 (IsUpTo-one found last item.0 d up ascending.0)
    ∙ ap Some (onto-one found (domain_members items) item.0 d))

map_reads : (items : Domains) → AreValid items → Ascends None items → of_json (outline (map_tree items)) ≡ Some (map_tree items)
map_reads items valid ascending = rw (domains_reads None no_members items valid ascending IsUpTo-none) refl

-- a reader that keeps each member once reads the map's tree
pub map_data : (items : Domains) → AreValid items → Ascends None items → data_of_text (map_text items) ≡ Some (map_tree items)
unfolding map_text
map_data items valid ascending =
    rw (map_utf8 items valid)
    (read-compact_text (map_tree items) (map_reads items valid ascending) (domains_numbers items valid, tt) (omega (arith, domains_depth items)))

bundle_reads : (b : BundleValue) → IsBundle b → read (text_of b) ≡ Some (document_tree b)
unfolding text_of
bundle_reads b valid =
    read-compact_text (document_tree b) (document_reads b valid.sequence_fits valid.hint_fits) (document_numbers b valid.sequence_fits valid.hint_fits)
    (omega (arith, document_depth b))

-- the canonical text of a bundle reads as its tree
pub bundle_data : (b : BundleValue) → IsBundle b → data_of_text (text_of b) ≡ Some (document_tree b)
bundle_data b valid = rw (is_utf8-from_IsUtf8 (text_of b) (bundle_utf8 b valid)) (bundle_reads b valid)
