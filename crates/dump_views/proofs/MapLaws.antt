-- The laws of bundle maps.
use Rattle.std.proofs.Common.{◌≡◌, ℕ, zero, suc, ◌<◌, List, [], ◌∷◌, ◌++◌, length, get_or, bytes_eq, codes, Bool, false, Some, None, Result, Ok, Err, refl, sym, subst, ◌∙◌, arith}
use Rattle.std.specs.Prelude.{option_and_then}
use Rattle.std.specs.List.{AllByRecursion, All}
use Rattle.std.proofs.lemmas.List.Elements.{All-from_recursion}
use Rattle.serde_json.specs.Find.{get}
use Rattle.spiffe_doc.specs.Authority.{BundleValue}
use Rattle.spiffe_doc.specs.Bundle.{IsBundle}
use Rattle.spiffe_doc.specs.Name.{IsName, trust_domain}
use Rattle.spiffe_doc.specs.Document.{json_tree}
use Rattle.spiffe_doc.specs.Text.{text_of}
use Rattle.spiffe_doc.proofs.NameLemmas.{trust_domain-IsName}
use Rattle.spiffe_doc.proofs.DocumentLaws.{IsBundle-document}
use Rattle.map_core.specs.Name.{Name}
use Rattle.map_core.specs.declared.op.Op.TheVariants.{Set}
use Rattle.wire.specs.declared.version.Version.TheVariants.{One}
use Rattle.wire.specs.declared.judge.Judged.TheVariants.{Ask}
use Rattle.wire.specs.RequestForm as form
use Rattle.wire.specs.Judge.{request_of}
use Rattle.wire.proofs.JudgeLemmas.{request_read}
use Rattle.wire.proofs.Readings.{set_asks}
use Rattle.frame_front.specs.Dump.{Domains, AreValid}
use Rattle.dump_views.specs.declared.error.MapError.{MapError}
use Rattle.dump_views.specs.declared.error.MapError.TheVariants.{NotMap, BadMember, Memory}
use Rattle.dump_views.specs.declared.error.MemberFault.{MemberFault}
use Rattle.dump_views.specs.declared.error.MemberFault.TheVariants.{BadName, Twice, BadBundle}
use Rattle.dump_views.specs.Choice.{is_named}
use Rattle.dump_views.specs.Map.{map_tree, map_text, AreOrdered}
use Rattle.dump_views.specs.Import.{Member, member_names, StandOnce, bundle_in, IsMemberOf, AreMembersOf, IsMap, IsFaultOf, FaultOfMap, set_request}
use Rattle.dump_views.proofs.Members.{or_parts, other_way}
use Rattle.dump_views.proofs.Orders.{StandOnce-ascending, found_at}
use Rattle.dump_views.proofs.Readings.{map_read, map_data, bundle_data}

-- ---- maps of ordered domains

pub map_of_domains : (items : Domains) → AreOrdered items → IsMap (map_text items) items
map_of_domains items ordered = map_read items ordered.0 ordered.1

pub tree_of_domains : (items : Domains) → AreOrdered items → json_tree (map_text items) ≡ Some (map_tree items)
tree_of_domains items ordered = map_data items ordered.0 ordered.1

valid_at : (items : Domains) (k : ℕ) (d : Name × BundleValue) → AreValid items → k < length items → IsBundle (get_or items k d).1
valid_at [] k d valid inside = absurd (omega (arith, inside))
valid_at (item ∷ items) zero d valid inside = valid.0.1
valid_at (item ∷ items) (suc k) d valid inside = valid_at items k d valid.1 (omega (arith, inside))

pub bundles_of_domains : (items : Domains) → AreOrdered items
    → All (λ item. option_and_then (get item.0) (get (codes "trust_domains") (map_tree items)) ≡ json_tree (text_of item.1)) items
bundles_of_domains items ordered k d inside =
    found_at items k d (StandOnce-ascending None items ordered.1) inside
    ∙ sym (bundle_data (get_or items k d).1 (valid_at items k d ordered.0 inside))

-- ---- one reading

same_ok : {A E : Type 0} (a b : A) (r : Result A E) → r ≡ Ok a → r ≡ Ok b → a ≡ b
same_ok a b r is other = let both : (let s : Result _ _ = Ok a in s) ≡ Ok b = sym is ∙ other in cc both

same_items : (items others : Domains) (entries : List Member) → AreMembersOf items entries → AreMembersOf others entries → items ≡ others
same_items [] [] [] are other = refl
same_items [] (o ∷ os) [] are other = absurd other
same_items (i ∷ is) others [] are other = absurd are
same_items [] others (e ∷ es) are other = absurd are
same_items (i ∷ is) [] (e ∷ es) are other = absurd other
same_items (i ∷ is) (o ∷ os) (e ∷ es) are other =
    let names = same_ok i.0 o.0 (trust_domain e.0) are.0.0 other.0.0 in
    let bundles = same_ok i.1 o.1 (bundle_in e.1) are.0.1 other.0.1 in
    let rest = same_items is os es are.1 other.1 in
    λ k. (names k, bundles k) ∷ rest k

pub same_map : (file : List ℕ) (items others : Domains) → IsMap file items → IsMap file others → items ≡ others
same_map file items others is other =
    let lists : Some is.0 ≡ Some other.0 = sym is.1 ∙ other.1 in
    let same : is.0 ≡ other.0 = cc lists in
    same_items items others other.0 (subst (AreMembersOf items) same is.2.are) other.2.are

-- ---- a map has no fault

member_at : (items : Domains) (front : List Member) (entry : Member) (more : List Member) → AreMembersOf items (front ++ entry ∷ more) → (item : Name × BundleValue) × IsMemberOf item entry
member_at [] [] entry more are = absurd are
member_at (i ∷ is) [] entry more are = (i, are.0)
member_at [] (f ∷ front) entry more are = absurd are
member_at (i ∷ is) (f ∷ front) entry more are = member_at is front entry more are.1

any_later : (name : List ℕ) (front : List Member) (entry : Member) (more : List Member) → is_named (member_names (front ++ entry ∷ more)) name ≡ false → bytes_eq entry.0 name ≡ false
any_later name [] entry more none = (or_parts _ _ none).0
any_later name (f ∷ front) entry more none = any_later name front entry more (or_parts _ _ none).1

new_at : (front : List Member) (entry : Member) (more : List Member) → StandOnce (member_names (front ++ entry ∷ more)) → is_named (member_names front) entry.0 ≡ false
new_at [] entry more once = refl
new_at (f ∷ front) entry more once = rw (other_way entry.0 f.0 (any_later f.0 front entry more once.0)) (new_at front entry more once.1)

no_fault : (again : Bool) (entry : Member) (item : Name × BundleValue) (fault : MemberFault) → again ≡ false → IsMemberOf item entry → IsFaultOf again entry fault → ⊥
no_fault again entry item (BadName fault) new one bad = let both : (let s : Result _ _ = Ok item.0 in s) ≡ Err fault = sym one.0 ∙ bad in cc both
no_fault again entry item Twice new one bad = let both = sym new ∙ bad.1 in cc both
no_fault again entry item (BadBundle fault) new one bad = let both : (let s : Result _ _ = Ok item.1 in s) ≡ Err fault = sym one.1 ∙ bad.2 in cc both

pub faultless_map : (file : List ℕ) (items : Domains) (error : MapError) → IsMap file items → FaultOfMap error file → error ≡ Memory
faultless_map file items NotMap is fault = let both : Some is.0 ≡ None = sym is.1 ∙ fault in cc both
faultless_map file items Memory is fault = refl
faultless_map file items (BadMember place what) is fault =
    let bad = fault.2 in
    let lists : Some is.0 ≡ Some fault.0 = sym is.1 ∙ fault.1 in
    let same : is.0 ≡ fault.0 = cc lists in
    let split = same ∙ bad.split in
    let one = member_at items bad.front bad.entry bad.more (subst (AreMembersOf items) split is.2.are) in
    let new = new_at bad.front bad.entry bad.more (subst (λ es. StandOnce (member_names es)) split is.2.once) in
    absurd (no_fault (is_named (member_names bad.front) bad.entry.0) bad.entry one.0 what new one.1 bad.bad)

-- ---- its requests

valid_members : (items : Domains) (entries : List Member) → AreMembersOf items entries → AreValid items
valid_members [] [] are = tt
valid_members [] (e ∷ es) are = absurd are
valid_members (i ∷ is) [] are = absurd are
valid_members (i ∷ is) (e ∷ es) are =
    let name = trust_domain-IsName e.0 i.0 are.0.0 in
    ((subst IsName (sym name.0) name.1, IsBundle-document _ i.1 are.0.1), valid_members is es are.1)

pub valid_map : (file : List ℕ) (items : Domains) → IsMap file items → AreValid items
valid_map file items is = valid_members items is.0 is.2.are

set_read : (item : Name × BundleValue) → IsName item.0 → IsBundle item.1 → request_of One (set_request item) ≡ Ok (Ask (Set item.0 item.1))
set_read item is valid = request_read One (form.Set item.0 (text_of item.1)) (omega (arith, is.short)) ∙ set_asks One item.0 item.1 is valid

sets_read : (items : Domains) → AreValid items → AllByRecursion (λ item. request_of One (set_request item) ≡ Ok (Ask (Set item.0 item.1))) items
sets_read [] valid = tt
sets_read (item ∷ items) valid = (set_read item valid.0.0 valid.0.1, sets_read items valid.1)

pub map_sets : (file : List ℕ) (items : Domains) → IsMap file items → All (λ item. request_of One (set_request item) ≡ Ok (Ask (Set item.0 item.1))) items
map_sets file items is = All-from_recursion (λ item. request_of One (set_request item) ≡ Ok (Ask (Set item.0 item.1))) items (sets_read items (valid_map file items is))
