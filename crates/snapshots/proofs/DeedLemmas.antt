-- Lemmas on what is done, one deed after the other.
use Rattle.std.proofs.Common.{◌≡◌, List, [], ◌∷◌, ◌++◌, true, false, Option, Some, None, Result, Ok, Err, ℕ, ◌<◌, ◌+◌, map, length, take, drop, get_or, refl, sym, ap, ◌∙◌, append_assoc, append-nil}
use Rattle.std.specs.Prelude.{OnErr, flat_map, if◌then◌else◌}
use Rattle.spiffe_doc.specs.Authority.{BundleValue}
use Rattle.map_core.specs.Name.{Name}
use Rattle.std.proofs.lemmas.List.{map-append, take-append-drop, drop_more}
use Rattle.std.proofs.lemmas.List.Concat.{flat_map-append}
use Rattle.snapshots.specs.Names.{is_short}
use Rattle.snapshots.specs.Files.{File, both_files, domain_files}
use Rattle.snapshots.specs.Deeds.Deed.{Put}
use Rattle.snapshots.specs.Deeds.{Deed, then_done, IsCutShort}

-- a domain whose name is short enough has both files
pub has_both : (item : Name × BundleValue) → is_short item.0 ≡ true → domain_files item ≡ both_files item
has_both item short = ap (λ yes. if yes then both_files item else []) short

-- and another one has none
pub has_none : (item : Name × BundleValue) → is_short item.0 ≡ false → domain_files item ≡ []
has_none item long = ap (λ yes. if yes then both_files item else []) long

pub then_nothing : (known : Option (List Deed)) → then_done known [] ≡ known
then_nothing None = refl
then_nothing (Some done) = ap Some (append-nil done)

pub then_twice : (known : Option (List Deed)) (first second : List Deed) → then_done (then_done known first) second ≡ then_done known (first ++ second)
then_twice None first second = refl
then_twice (Some done) first second = ap Some (append_assoc done first second)

-- one after the other
pub done_both : (old mid new : Option (List Deed)) (first second : List Deed) → mid ≡ then_done old first → new ≡ then_done mid second
    → new ≡ then_done old (first ++ second)
done_both old mid new first second one two = two ∙ ap (λ known. then_done known second) one ∙ then_twice old first second

-- nothing was done of some deeds
pub cut_first : (old new : Option (List Deed)) (next : Deed) (rest : List Deed) → new ≡ old → IsCutShort old new (next ∷ rest)
cut_first old new next rest same = record { done = []; next = next; rest = rest; cut = refl; log = same ∙ sym (then_nothing old) }

-- some were done, and then not all of the next
pub cut_later : (old mid new : Option (List Deed)) (first part after : List Deed) → mid ≡ then_done old first → IsCutShort mid new part
    → IsCutShort old new (first ++ (part ++ after))
cut_later old mid new first part after one short = record {
  done = first ++ short.done;
  next = short.next;
  rest = short.rest ++ after;
  cut = ap (λ deeds. first ++ (deeds ++ after)) short.cut ∙ ap (λ deeds. first ++ deeds) (append_assoc short.done (short.next ∷ short.rest) after)
      ∙ sym (append_assoc first short.done (short.next ∷ short.rest ++ after));
  log = done_both old mid new first short.done one short.log;
}

pub on_err : {T E : Type 0} (r : Result T E) (P : Type 0) → P → OnErr r P
on_err (Ok value) P p = tt
on_err (Err error) P p = p

-- what a list gives, piece by piece: that of those before one, its own, and that of those behind it
pub flat_at : {X Y : Type 0} (f : X → List Y) (xs : List X) (i : ℕ) (x : X) → i < length xs → get_or xs i x ≡ x
    → flat_map f xs ≡ flat_map f (take i xs) ++ (f x ++ flat_map f (drop (i + 1) xs))
flat_at f xs i x inside at =
    ap (flat_map f) (sym (take-append-drop i xs) ∙ ap (λ rest. take i xs ++ rest) (drop_more xs i x inside ∙ ap (λ y. y ∷ drop (i + 1) xs) at))
    ∙ flat_map-append f (take i xs) (x ∷ drop (i + 1) xs)

pub puts_at : {X : Type 0} (f : X → List File) (xs : List X) (i : ℕ) (x : X) → i < length xs → get_or xs i x ≡ x
    → map Put (flat_map f xs) ≡ map Put (flat_map f (take i xs)) ++ (map Put (f x) ++ map Put (flat_map f (drop (i + 1) xs)))
puts_at f xs i x inside at =
    ap (map Put) (flat_at f xs i x inside at) ∙ map-append Put (flat_map f (take i xs)) (f x ++ flat_map f (drop (i + 1) xs))
    ∙ ap (λ more. map Put (flat_map f (take i xs)) ++ more) (map-append Put (f x) (flat_map f (drop (i + 1) xs)))
