-- Names that ascend stand once, and are kept in their order.
use Rattle.std.proofs.Common.{◌≡◌, ℕ, zero, suc, ◌<◌, [], ◌∷◌, length, get_or, bytes_eq, true, false, Option, Some, None, Ordering, Less, Equal, Greater, refl, sym, ap, ◌∙◌, arith}
use Rattle.std.specs.Ordering.{is_eq, ordering_reverse, match_ordering}
use Rattle.std.specs.Cmp.Lexicographic.{nat_list_cmp_total, texts_ties, bytes_decides}
use Rattle.serde_json.specs.Data.{Data, Members, no_members, member, put}
use Rattle.serde_json.specs.Find.{get_member}
use Rattle.spiffe_doc.specs.Authority.{BundleValue}
use Rattle.spiffe_doc.specs.Text.{document_tree}
use Rattle.map_core.specs.Name.{Name, name_cmp}
use Rattle.map_core.specs.Laws.{IsAfter, Ascends}
use Rattle.frame_front.specs.Dump.{Domains}
use Rattle.dump_views.specs.Map.{domain_members}
use Rattle.dump_views.specs.Choice.{is_named, names_of}
use Rattle.dump_views.specs.Import.{StandOnce}
use Rattle.dump_views.proofs.Members.{or_parts}

greater : (a b : Name) → name_cmp a b ≡ Less → name_cmp b a ≡ Greater
greater a b less = nat_list_cmp_total.antisymm b a ∙ ap ordering_reverse less

differs : (name other : Name) → name_cmp name other ≡ Less → bytes_eq other name ≡ false
differs name other less = texts_ties other name ∙ ap is_eq (greater name other less)

-- ---- each name stands once

not_among : (name before : Name) (items : Domains) → name_cmp name before ≡ Less → Ascends (Some before) items → is_named (names_of items) name ≡ false
not_among name before [] less ascending = refl
not_among name before (item ∷ items) less ascending =
    let past = nat_list_cmp_total.trans name before item.0 less ascending.0 in
    rw (differs name item.0 past) (not_among name item.0 items past ascending.1)

not_later : (name : Name) (items : Domains) → Ascends (Some name) items → is_named (names_of items) name ≡ false
not_later name [] ascending = refl
not_later name (item ∷ items) ascending = rw (differs name item.0 ascending.0) (not_among name item.0 items ascending.0 ascending.1)

pub StandOnce-ascending : (last : Option Name) (items : Domains) → Ascends last items → StandOnce (names_of items)
StandOnce-ascending last [] ascending = tt
StandOnce-ascending last (item ∷ items) ascending = (not_later item.0 items ascending.1, StandOnce-ascending (Some item.0) items ascending.1)

-- ---- members put one after the other

abbrev pub onto : Members → Members → Members
onto no_members ms = ms
onto (member k d more) ms = member k d (onto more ms)

-- each name comes before this one
abbrev AreBefore : Members → Name → Type 0
AreBefore no_members name = Unit {0}
AreBefore (member k d more) name = (name_cmp k name ≡ Less) × AreBefore more name

pub put_last : (name : Name) (d : Data) (found : Members) → AreBefore found name → put name d found ≡ onto found (member name d no_members)
put_last name d no_members before = refl
put_last name d (member k e more) before = rw (greater k name before.0) (ap (λ ms. member k e ms) (put_last name d more before.1))

AreBefore-onto : (found : Members) (name other : Name) (d : Data) → AreBefore found other → name_cmp name other ≡ Less → AreBefore (onto found (member name d no_members)) other
AreBefore-onto no_members name other d before less = (less, tt)
AreBefore-onto (member k e more) name other d before less = (before.0, AreBefore-onto more name other d before.1 less)

AreBefore-later : (found : Members) (name other : Name) → AreBefore found name → name_cmp name other ≡ Less → AreBefore found other
AreBefore-later no_members name other before less = tt
AreBefore-later (member k e more) name other before less = (nat_list_cmp_total.trans k name other before.0 less, AreBefore-later more name other before.1 less)

-- what is put after the last name stands behind the others
abbrev pub IsUpTo : Members → Option Name → Type 0
IsUpTo found last = (name : Name) → IsAfter last name → AreBefore found name

pub IsUpTo-none : IsUpTo no_members None
IsUpTo-none name after = tt

pub IsUpTo-one : (found : Members) (last : Option Name) (name : Name) (d : Data) → IsUpTo found last → IsAfter last name → IsUpTo (onto found (member name d no_members)) (Some name)
IsUpTo-one found last name d up after = λ other less. AreBefore-onto found name other d (AreBefore-later found name other (up name after) less) less

pub onto-one : (found more : Members) (k : Name) (d : Data) → onto (onto found (member k d no_members)) more ≡ onto found (member k d more)
onto-one no_members more k d = refl
onto-one (member l e ms) more k d = ap (λ xs. member l e xs) (onto-one ms more k d)

-- ---- each name is found

equal_if : (o : Ordering) → is_eq o ≡ true → o ≡ Equal
equal_if Less same = cc same
equal_if Equal same = refl
equal_if Greater same = cc same

unequal : {X : Type 0} (o : Ordering) (x y : X) → is_eq o ≡ false → match_ordering o x y x ≡ x
unequal Less x y other = refl
unequal Equal x y other = cc other
unequal Greater x y other = refl

is_named_at : (items : Domains) (k : ℕ) (d : Name × BundleValue) (name : Name) → k < length items → is_named (names_of items) name ≡ false → bytes_eq (get_or items k d).0 name ≡ false
is_named_at [] k d name inside none = absurd (omega (arith, inside))
is_named_at (item ∷ items) zero d name inside none = (or_parts _ _ none).0
is_named_at (item ∷ items) (suc k) d name inside none = is_named_at items k d name (omega (arith, inside)) (or_parts _ _ none).1

pub found_at : (items : Domains) (k : ℕ) (d : Name × BundleValue) → StandOnce (names_of items) → k < length items
    → get_member (get_or items k d).0 (domain_members items) ≡ Some (document_tree (get_or items k d).1)
found_at [] k d once inside = absurd (omega (arith, inside))
found_at (item ∷ items) zero d once inside =
    let same : name_cmp item.0 item.0 ≡ Equal = equal_if (name_cmp item.0 item.0) (sym (texts_ties item.0 item.0) ∙ (bytes_decides item.0 item.0).1 refl) in
    rw same refl
found_at (item ∷ items) (suc k) d once inside =
    let name = (get_or items k d).0 in
    let within : k < length items = omega (arith, inside) in
    let other = sym (texts_ties name item.0) ∙ is_named_at items k d item.0 within once.0 in
    unequal (name_cmp name item.0) (get_member name (domain_members items)) (Some (document_tree item.1)) other ∙ found_at items k d once.1 within
