-- Some of the domains, or of their authorities, are valid and in order as all are.
use Rattle.std.proofs.Common.{◌≡◌, ℕ, ◌≤◌, List, [], ◌∷◌, ◌++◌, length, map, codes, Bool, true, false, inl, inr, Option, Some, None, Less, ap, arith, length-append}
use Rattle.std.specs.List.{filter, AllByRecursion}
use Rattle.std.specs.Cmp.Lexicographic.{nat_list_cmp_total}
use Rattle.std.proofs.lemmas.Bool.{cases_Bool}
use Rattle.std.proofs.lemmas.List.Kept.{AllPairs-filter}
use Rattle.serde_json.specs.Written.{comma_if}
use Rattle.spiffe_doc.specs.declared.authority.Authority.{Authority}
use Rattle.spiffe_doc.specs.declared.authority.Authority.TheVariants.{X509, Jwt}
use Rattle.spiffe_doc.specs.Authority.{IsAuthority, BundleValue}
use Rattle.spiffe_doc.specs.Bundle.{is_x509, AreApart, IsBundle}
use Rattle.spiffe_doc.specs.Text.{entry_text, text_of}
use Rattle.spiffe_doc.specs.Private.Writing.{entry_texts, front_text, number_text, rest_text}
use Rattle.spiffe_doc.proofs.TextLemmas.{text_of-pieces}
use Rattle.map_core.specs.Name.{Name, name_cmp}
use Rattle.map_core.specs.Laws.{IsAfter, Ascends}
use Rattle.frame_front.specs.Dump.{Domains, IsDump, AreValid}
use Rattle.frame_front.proofs.MigrationLemmas.{migration}
use Rattle.dump_views.specs.declared.profile.Profile.{Profile}
use Rattle.dump_views.specs.declared.profile.Profile.TheVariants as profiles
use Rattle.dump_views.specs.Choice.{is_named, chosen}
use Rattle.dump_views.specs.Map.{x509_part, shown, AreOrdered}

pub dump_ordered : (dump : List ℕ) (items : Domains) → IsDump dump items → AreOrdered items
dump_ordered dump items is = ((migration dump items is).0, is.ascending)

-- ---- some of the domains

after_all : (last : Option Name) (name other : Name) → IsAfter last name → name_cmp name other ≡ Less → IsAfter last other
after_all None name other after less = tt
after_all (Some before) name other after less = nat_list_cmp_total.trans before name other after less

from_earlier : (last : Option Name) (name : Name) (items : Domains) → IsAfter last name → Ascends (Some name) items → Ascends last items
from_earlier last name [] after ascending = tt
from_earlier last name (item ∷ items) after ascending = (after_all last name item.0 after ascending.0, ascending.1)

some_ascend : (test : Name × BundleValue → Bool) (last : Option Name) (items : Domains) → Ascends last items → Ascends last (filter test items)
some_ascend test last [] ascending = tt
some_ascend test last (item ∷ items) ascending = elim (cases_Bool (test item)) [
  | inl kept ↦ rw kept (ascending.0, some_ascend test (Some item.0) items ascending.1)
  | inr left ↦ rw left (some_ascend test last items (from_earlier last item.0 items ascending.0 ascending.1))
]

some_valid : (test : Name × BundleValue → Bool) (items : Domains) → AreValid items → AreValid (filter test items)
some_valid test [] valid = tt
some_valid test (item ∷ items) valid = elim (cases_Bool (test item)) [
  | inl kept ↦ rw kept (valid.0, some_valid test items valid.1)
  | inr left ↦ rw left (some_valid test items valid.1)
]

pub chosen_ordered : (names : List (List ℕ)) (items : Domains) → AreOrdered items → AreOrdered (chosen names items)
chosen_ordered names items ordered =
    (some_valid (λ item. is_named names item.0) items ordered.0, some_ascend (λ item. is_named names item.0) None items ordered.1)

-- ---- some of the authorities

fewer : (later : Bool) (xs : List Authority) → length (entry_texts later xs) ≤ length (entry_texts true xs)
fewer later [] = omega arith
fewer true (x ∷ xs) = omega arith
fewer false (x ∷ xs) = omega arith

x509_texts : (later : Bool) (xs : List Authority) → length (entry_texts later (filter is_x509 xs)) ≤ length (entry_texts later xs)
x509_texts later [] = omega arith
x509_texts later (X509 key der ∷ xs) =
    let rest = x509_texts true xs in
    let entry = entry_text (X509 key der) in
    let some = entry_texts true (filter is_x509 xs) in
    let all = entry_texts true xs in
    omega (arith, rest, length-append (comma_if later) (entry ++ some), length-append entry some, length-append (comma_if later) (entry ++ all), length-append entry all)
x509_texts later (Jwt kid key ∷ xs) =
    let rest = x509_texts true xs in
    let entry = entry_text (Jwt kid key) in
    let all = entry_texts true xs in
    omega (arith, rest, fewer later (filter is_x509 xs), length-append (comma_if later) (entry ++ all), length-append entry all)

no_hint : (hint sequence : Option ℕ) → length (rest_text None sequence) ≤ length (rest_text hint sequence)
unfolding rest_text
no_hint None sequence = omega arith
no_hint (Some n) sequence =
    let label = number_text (codes ",\"spiffe_refresh_hint\":") (Some n) in
    let end = number_text (codes ",\"spiffe_sequence\":") sequence ++ codes "}" in
    omega (arith, length-append (codes "]") end, length-append (codes "]") (label ++ end), length-append label end)

x509_short : (b : BundleValue) → length (text_of (x509_part b)) ≤ length (text_of b)
unfolding front_text
x509_short b =
    let some = filter is_x509 b.authorities in
    omega (
      arith,
      ap length (text_of-pieces (x509_part b)),
      ap length (text_of-pieces b),
      x509_texts false b.authorities,
      no_hint b.refresh_hint b.sequence,
      length-append (front_text some) (rest_text None b.sequence),
      length-append (front_text b.authorities) (rest_text b.refresh_hint b.sequence),
      length-append (codes "{\"keys\":[") (entry_texts false some),
      length-append (codes "{\"keys\":[") (entry_texts false b.authorities),
    )

x509_few : (xs : List Authority) → length (filter is_x509 xs) ≤ length xs
x509_few [] = omega arith
x509_few (X509 key der ∷ xs) = omega (arith, x509_few xs)
x509_few (Jwt kid key ∷ xs) = omega (arith, x509_few xs)

x509_authorities : (xs : List Authority) → AllByRecursion IsAuthority xs → AllByRecursion IsAuthority (filter is_x509 xs)
x509_authorities [] valid = tt
x509_authorities (X509 key der ∷ xs) valid = (valid.0, x509_authorities xs valid.1)
x509_authorities (Jwt kid key ∷ xs) valid = x509_authorities xs valid.1

x509_valid : (b : BundleValue) → IsBundle b → IsBundle (x509_part b)
x509_valid b valid = record {
  sequence_fits = valid.sequence_fits;
  hint_fits = tt;
  authorities = record {
    valid = x509_authorities b.authorities valid.authorities.valid;
    apart = AllPairs-filter AreApart is_x509 b.authorities valid.authorities.apart;
    few = omega (arith, x509_few b.authorities, valid.authorities.few);
  };
  short = omega (arith, x509_short b, valid.short);
}

shown_valid : (profile : Profile) (items : Domains) → AreValid items → AreValid (map (shown profile) items)
shown_valid profile [] valid = tt
shown_valid profiles.Whole (item ∷ items) valid = (valid.0, shown_valid profiles.Whole items valid.1)
shown_valid profiles.X509 (item ∷ items) valid = ((valid.0.0, x509_valid item.1 valid.0.1), shown_valid profiles.X509 items valid.1)

shown_ascend : (profile : Profile) (last : Option Name) (items : Domains) → Ascends last items → Ascends last (map (shown profile) items)
shown_ascend profile last [] ascending = tt
shown_ascend profile last (item ∷ items) ascending = (ascending.0, shown_ascend profile (Some item.0) items ascending.1)

pub shown_ordered : (profile : Profile) (items : Domains) → AreOrdered items → AreOrdered (map (shown profile) items)
shown_ordered profile items ordered = (shown_valid profile items ordered.0, shown_ascend profile None items ordered.1)
