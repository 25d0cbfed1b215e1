-- The laws of the names of files.
use Rattle.std.proofs.Common.{◌≡◌, ◌≢◌, ℕ, ◌==◌, ◌<◌, ◌≤◌, List, [], ◌∷◌, ◌++◌, length, get_or, reverse, not, true, false, refl, sym, ap, ◌∙◌, arith, codes, Bool}
use Rattle.std.proofs.lemmas.List.{append_cancel_right, reverse-append, length-append}
use Rattle.std.proofs.lemmas.List.Elements.{All-append, All-from_recursion}
use Rattle.std.specs.List.{AllPass, AllByRecursion}
use Rattle.std.specs.Prelude.{flat_map, if◌then◌else◌}
use Rattle.frame_front.specs.Dump.{Domains, AreValid}
use Rattle.spiffe_doc.specs.Authority.{BundleValue}
use Rattle.snapshots.specs.Files.{File, both_files, domain_files}
use Rattle.spiffe_doc.specs.Name.{IsName, is_name_byte}
use Rattle.map_core.specs.Name.{Name}
use Rattle.snapshots.specs.Names.{map_name, is_short, IsFileName}
use Rattle.snapshots.specs.Laws.{StayInside, AreApart}

passes : (p : ℕ → Bool) (xs : List ℕ) → AllByRecursion (λ x. p x ≡ true) xs → AllPass p xs
passes p xs each = All-from_recursion (λ x. p x ≡ true) xs each

-- a byte of a name is another one than this
other_byte : (wrong x : ℕ) → is_name_byte wrong ≡ false → is_name_byte x ≡ true → not (x == wrong) ≡ true
other_byte wrong x bad good = grind arith

-- no byte of a name is this one, nor is any behind it
none_of : (wrong : ℕ) (name ending : List ℕ) → is_name_byte wrong ≡ false → AllPass is_name_byte name → AllPass (λ x. not (x == wrong)) ending
    → AllPass (λ x. not (x == wrong)) (name ++ ending)
none_of wrong name ending bad good rest =
    All-append (λ x. not (x == wrong) ≡ true) name ending (λ k d inside. other_byte wrong (get_or name k d) bad (good k d inside)) rest

-- a list has the last element of what it ends with
abbrev last_of : List ℕ → ℕ
last_of xs = get_or (reverse xs) 0 0

last_behind : (xs ys : List ℕ) → get_or (reverse (xs ++ ys)) 0 0 ≡ get_or (reverse ys ++ reverse xs) 0 0
last_behind xs ys = ap (λ zs. get_or zs 0 0) (reverse-append xs ys)

longer : (name ending other : List ℕ) → length other < length ending → name ++ ending ≢ other
longer name ending other more same = omega (arith, ap length same, length-append name ending, more)

apart : (x y : ℕ) → (x == y) ≡ false → x ≡ y → ⊥
apart x y other same = grind arith

json_no_slash : AllPass (λ x. not (x == 47)) (codes ".json")
json_no_slash =
    let each : AllByRecursion (λ x. not (x == 47) ≡ true) (codes ".json") = (refl, (refl, (refl, (refl, (refl, tt))))) in
    passes (λ x. not (x == 47)) (codes ".json") each

json_no_nul : AllPass (λ x. not (x == 0)) (codes ".json")
json_no_nul =
    let each : AllByRecursion (λ x. not (x == 0) ≡ true) (codes ".json") = (refl, (refl, (refl, (refl, (refl, tt))))) in
    passes (λ x. not (x == 0)) (codes ".json") each

pem_no_slash : AllPass (λ x. not (x == 47)) (codes ".pem")
pem_no_slash =
    let each : AllByRecursion (λ x. not (x == 47) ≡ true) (codes ".pem") = (refl, (refl, (refl, (refl, tt)))) in
    passes (λ x. not (x == 47)) (codes ".pem") each

pem_no_nul : AllPass (λ x. not (x == 0)) (codes ".pem")
pem_no_nul =
    let each : AllByRecursion (λ x. not (x == 0) ≡ true) (codes ".pem") = (refl, (refl, (refl, (refl, tt)))) in
    passes (λ x. not (x == 0)) (codes ".pem") each

map_no_slash : AllPass (λ x. not (x == 47)) map_name
map_no_slash =
    let each : AllByRecursion (λ x. not (x == 47) ≡ true) map_name = (refl, (refl, (refl, tt))) in
    passes (λ x. not (x == 47)) map_name each

map_no_nul : AllPass (λ x. not (x == 0)) map_name
map_no_nul =
    let each : AllByRecursion (λ x. not (x == 0) ≡ true) map_name = (refl, (refl, (refl, tt))) in
    passes (λ x. not (x == 0)) map_name each

file_name : (name ending : List ℕ) → IsName name → length name ≤ 250 → 2 < length ending → length ending ≤ 5
    → AllPass (λ x. not (x == 47)) ending → AllPass (λ x. not (x == 0)) ending → IsFileName (name ++ ending)
file_name name ending is fits some few no_slash no_nul = record {
  some = omega (arith, length-append name ending, some);
  short = omega (arith, length-append name ending, fits, few);
  no_slash = none_of 47 name ending refl is.allowed no_slash;
  no_nul = none_of 0 name ending refl is.allowed no_nul;
  not_the_folder = longer name ending (codes ".") (omega (arith, some));
  not_its_parent = longer name ending (codes "..") some;
}

abbrev IsNamed : File → Type 0
IsNamed file = IsFileName file.0

map_is_named : IsFileName map_name
map_is_named = record {
  some = omega arith;
  short = omega arith;
  no_slash = map_no_slash;
  no_nul = map_no_nul;
  not_the_folder = longer [] map_name (codes ".") (omega arith);
  not_its_parent = longer [] map_name (codes "..") (omega arith);
}

short_enough : (name : List ℕ) → is_short name ≡ true → length name ≤ 250
short_enough name short = grind arith

-- the files of a domain whose name is short, or none
domain_is_named : (item : Name × BundleValue) (short : Bool) → IsName item.0 → is_short item.0 ≡ short
    → AllByRecursion IsNamed (if short then both_files item else [])
domain_is_named item false is same = tt
domain_is_named item true is same =
    let fits = short_enough item.0 same in (
      file_name item.0 (codes ".json") is fits (omega arith) (omega arith) json_no_slash json_no_nul,
      (file_name item.0 (codes ".pem") is fits (omega arith) (omega arith) pem_no_slash pem_no_nul, tt),
    )

both_named : (files more : List File) → AllByRecursion IsNamed files → AllByRecursion IsNamed more → AllByRecursion IsNamed (files ++ more)
both_named [] more first second = second
both_named (file ∷ files) more first second = (first.0, both_named files more first.1 second)

domains_are_named : (items : Domains) → AreValid items → AllByRecursion IsNamed (flat_map domain_files items)
domains_are_named [] valid = tt
domains_are_named (item ∷ items) valid =
    both_named (domain_files item) (flat_map domain_files items) (domain_is_named item (is_short item.0) valid.0.0 refl) (domains_are_named items valid.1)

pub files_stay_inside : StayInside
files_stay_inside items valid = (map_is_named, domains_are_named items valid)

pub files_are_apart : AreApart
files_are_apart = record {
  json = λ a b same. append_cancel_right a b (codes ".json") same;
  pem = λ a b same. append_cancel_right a b (codes ".pem") same;
  kinds = λ a b same. apart 110 109 refl (sym (last_behind a (codes ".json")) ∙ ap last_of same ∙ last_behind b (codes ".pem"));
  json_map = λ a same. apart 110 112 refl (sym (last_behind a (codes ".json")) ∙ ap last_of same);
  pem_map = λ a same. apart 109 112 refl (sym (last_behind a (codes ".pem")) ∙ ap last_of same);
}
