-- The members of a map, one after the other.
use Rattle.std.proofs.Common.{◌≡◌, ℕ, suc, ◌+◌, ◌<◌, ◌≤◌, List, [], ◌∷◌, ◌++◌, zero, length, map, take, drop, get_or, bytes_eq, Bool, true, false, ◌||◌, inl, inr, Option, Some, None, refl, sym, ap, subst, ◌∙◌, arith}
use Rattle.std.specs.Borrow.{Bor}
use Rattle.std.specs.BTreeSet.{BTreeSet}
use Rattle.std.specs.Cmp.Lexicographic.{bytes_decides}
use Rattle.std.proofs.lemmas.Bool.{cases_Bool}
use Rattle.std.proofs.lemmas.List.{take_more, take-append-drop, drop_more, length-take-le, take_all}
use Rattle.json.specs.Value.{value_view, members_view}
use Rattle.json.specs.declared.value.Value.{Value}
use Rattle.json.specs.Tree.{HasNumbers, MembersHaveNumbers}
use Rattle.spiffe_doc.specs.Name.{IsName}
use Rattle.spiffe_doc.specs.Authority.{BundleValue}
use Rattle.map_core.specs.Name.{Name}
use Rattle.wire.specs.Frame.{frame, stream_of}
use Rattle.frame_front.specs.Dump.{Domains}
use Rattle.frame_front.proofs.DomainLists.{stream-more}
use Rattle.spiffe_doc.proofs.NameLemmas.{trust_domain-IsName}
use Rattle.dump_views.specs.declared.error.MapError.{MapError}
use Rattle.dump_views.specs.declared.error.MapError.TheVariants.{NotMap, BadMember, Memory}
use Rattle.dump_views.specs.declared.error.MemberFault.{MemberFault}
use Rattle.dump_views.specs.declared.error.MemberFault.TheVariants.{BadName, Twice, BadBundle}
use Rattle.dump_views.specs.Choice.{is_named}
use Rattle.dump_views.specs.Import.{Member, member_list, member_names, StandOnce, IsMemberOf, AreMembersOf, AreDomains, IsFaultOf, IsFirstBad, set_request}
use Rattle.dump_views.specs.Private.Names.{has}
use Rattle.dump_views.specs.Private.Reading.{member_of, map_error, NameFault, BundleFault, IsMapFault, FaultOfMembers}
use Rattle.dump_views.proofs.Choices.{is_named-one}

pub bad_value : (place : ℕ) (again : Bool) (entry : Member) (fault : Option MemberFault) → IsName entry.0 → again ≡ false → BundleFault fault entry.1
    → IsMapFault place (IsFaultOf again entry) (map_error place fault)
bad_value place again entry None name new bad = tt
bad_value place again entry (Some (BadName fault)) name new bad = absurd bad
bad_value place again entry (Some Twice) name new bad = absurd bad
bad_value place again entry (Some (BadBundle fault)) name new bad = (refl, (name, new, bad))

-- ---- the members of a tree

pub numbers_at : {A : Type 0} (ms : List (Bor (List ℕ) × Value A)) (i : ℕ) (d : Bor (List ℕ) × Value A) → MembersHaveNumbers (members_view ms) → i < length ms
    → HasNumbers (value_view (get_or ms i d).1)
numbers_at [] i d all inside = absurd (omega (arith, inside))
numbers_at (m ∷ ms) zero d all inside = all.0
numbers_at (m ∷ ms) (suc i) d all inside = numbers_at ms i d all.1 (omega (arith, inside))

-- ---- one member more

pub member_names-one : (entries : List Member) (entry : Member) → member_names (entries ++ entry ∷ []) ≡ member_names entries ++ entry.0 ∷ []
member_names-one [] entry = refl
member_names-one (first ∷ entries) entry = ap (λ names. first.0 ∷ names) (member_names-one entries entry)

pub or_parts : (a b : Bool) → (a || b) ≡ false → (a ≡ false) × (b ≡ false)
or_parts true b none = cc none
or_parts false b none = (refl, none)

pub other_way : (a b : List ℕ) → bytes_eq a b ≡ false → bytes_eq b a ≡ false
other_way a b differ = elim (cases_Bool (bytes_eq b a)) [
  | inl same ↦ let is : a ≡ b = sym ((bytes_decides b a).0 same) in cc (sym differ ∙ (bytes_decides a b).1 is)
  | inr other ↦ other
]

StandOnce-one : (names : List (List ℕ)) (name : List ℕ) → StandOnce names → is_named names name ≡ false → StandOnce (names ++ name ∷ [])
StandOnce-one [] name once new = (refl, tt)
StandOnce-one (first ∷ names) name once new =
    let parts = or_parts (bytes_eq first name) (is_named names name) new in
    (is_named-one names name first ∙ rw (other_way first name parts.0, once.0) refl, StandOnce-one names name once.1 parts.1)

AreMembersOf-one : (items : Domains) (entries : List Member) (item : Name × BundleValue) (entry : Member) → AreMembersOf items entries → IsMemberOf item entry
    → AreMembersOf (items ++ item ∷ []) (entries ++ entry ∷ [])
AreMembersOf-one [] [] item entry are one = (one, tt)
AreMembersOf-one [] (e ∷ es) item entry are one = absurd are
AreMembersOf-one (i ∷ is) [] item entry are one = absurd are
AreMembersOf-one (i ∷ is) (e ∷ es) item entry are one = (are.0, AreMembersOf-one is es item entry are.1 one)

pub AreDomains-one : (items : Domains) (entries : List Member) (item : Name × BundleValue) (entry : Member) → AreDomains items entries
    → is_named (member_names entries) entry.0 ≡ false → IsMemberOf item entry → AreDomains (items ++ item ∷ []) (entries ++ entry ∷ [])
AreDomains-one items entries item entry good new one = record {
  once = subst StandOnce (sym (member_names-one entries entry)) (StandOnce-one (member_names entries) entry.0 good.once new);
  are = AreMembersOf-one items entries item entry good.are one;
}

pub AreDomains-none : AreDomains [] []
AreDomains-none = record { once = tt; are = tt }

-- ---- so many members are read

pub record HasRead (entries : List Member) (place : ℕ) (names : BTreeSet (List ℕ)) (stream : List ℕ) : Type 0 where
  pub items : Domains
  pub good : AreDomains items (take place entries)
  pub known : (name : List ℕ) → has names name ≡ is_named (member_names (take place entries)) name
  pub written : stream ≡ stream_of (map set_request items) []

pub HasRead-none : (entries : List Member) (names : BTreeSet (List ℕ)) (stream : List ℕ) → ((name : List ℕ) → has names name ≡ false) → stream ≡ [] → HasRead entries 0 names stream
HasRead-none entries names stream none empty = record { items = []; good = AreDomains-none; known = none; written = empty }

map-one : (items : Domains) (item : Name × BundleValue) → map set_request (items ++ item ∷ []) ≡ map set_request items ++ set_request item ∷ []
map-one [] item = refl
map-one (first ∷ items) item = ap (λ requests. set_request first ∷ requests) (map-one items item)

module _ (entries : List Member) (place : ℕ) (names : BTreeSet (List ℕ)) (stream : List ℕ) (so_far : HasRead entries place names stream)
    (entry : Member) (inside : place < length entries) (at : entry ≡ get_or entries place entry) where
  next : take (place + 1) entries ≡ take place entries ++ entry ∷ []
  next = take_more entries place entry inside ∙ ap (λ e. take place entries ++ e ∷ []) (sym at)

  pub HasRead-then : (names_new : BTreeSet (List ℕ)) (stream_new : List ℕ) (item : Name × BundleValue) → has names entry.0 ≡ false → IsMemberOf item entry
      → ((other : List ℕ) → has names_new other ≡ (bytes_eq item.0 other || has names other)) → stream_new ≡ stream ++ frame (set_request item)
      → HasRead entries (place + 1) names_new stream_new
  HasRead-then names_new stream_new item new one known wrote = record {
    items = so_far.items ++ item ∷ [];
    good = subst (AreDomains (so_far.items ++ item ∷ [])) (sym next)
        (AreDomains-one so_far.items (take place entries) item entry so_far.good (sym (so_far.known entry.0) ∙ new) one);
    known = λ other.
        let name : item.0 ≡ entry.0 = (trust_domain-IsName entry.0 item.0 one.0).0 in
        known other ∙ (λ i. bytes_eq (name i) other || so_far.known other i) ∙ sym (is_named-one (member_names (take place entries)) entry.0 other)
        ∙ ap (λ ns. is_named ns other) (sym (member_names-one (take place entries) entry)) ∙ ap (λ es. is_named (member_names es) other) (sym next);
    written = wrote ∙ ap (λ s. s ++ frame (set_request item)) so_far.written ∙ sym (stream-more (map set_request so_far.items) (set_request item))
        ∙ ap (λ rs. stream_of rs []) (sym (map-one so_far.items item));
  }

  first_bad : (fault : MemberFault) → IsFaultOf (has names entry.0) entry fault → IsFirstBad entries place fault
  first_bad fault bad = record {
    front = take place entries;
    entry = entry;
    more = drop (place + 1) entries;
    items = so_far.items;
    split = sym (take-append-drop place entries) ∙ ap (λ es. take place entries ++ es) (drop_more entries place entry inside ∙ ap (λ e. e ∷ drop (place + 1) entries) (sym at));
    placed = sym (length-take-le place entries (omega (arith, inside)));
    good = so_far.good;
    bad = subst (λ again. IsFaultOf again entry fault) (so_far.known entry.0) bad;
  }

  pub bad_member : (error : MapError) → IsMapFault place (IsFaultOf (has names entry.0) entry) error → FaultOfMembers entries error
  bad_member NotMap bad = absurd bad
  bad_member (BadMember other fault) bad = subst (λ p. IsFirstBad entries p fault) (sym bad.0) (first_bad fault bad.1)
  bad_member Memory bad = tt

pub HasRead-whole : (entries : List Member) (place : ℕ) (names : BTreeSet (List ℕ)) (stream : List ℕ) → HasRead entries place names stream → length entries ≤ place
    → (items : Domains) × AreDomains items entries × (stream ≡ stream_of (map set_request items) [])
HasRead-whole entries place names stream so_far all = (so_far.items, subst (AreDomains so_far.items) (take_all place entries all) so_far.good, so_far.written)

pub entry_at : {A : Type 0} (ms : List (Bor (List ℕ) × Value A)) (i : ℕ) (m : Bor (List ℕ) × Value A) → i < length ms → m ≡ get_or ms i m
    → member_of m ≡ get_or (member_list (members_view ms)) i (member_of m)
entry_at [] i m inside at = absurd (omega (arith, inside))
entry_at (first ∷ ms) zero m inside at = ap member_of at
entry_at (first ∷ ms) (suc i) m inside at = entry_at ms i m (omega (arith, inside)) at

pub length-members : {A : Type 0} (ms : List (Bor (List ℕ) × Value A)) → length (member_list (members_view ms)) ≡ length ms
length-members [] = refl
length-members (m ∷ ms) = ap suc (length-members ms)
