-- Lemmas on lists of domains and of their frames.
use Rattle.std.proofs.Common.{◌≡◌, ℕ, ◌-◌, List, [], ◌∷◌, ◌++◌, length, map, append-nil, arith, refl, sym, ap, ◌∙◌, Some, None}
use Rattle.std.specs.Prelude.{Option, option_map}
use Rattle.std.specs.List.{flat_map, slice_get}
use Rattle.spiffe_doc.specs.Authority.{BundleValue}
use Rattle.spiffe_doc.specs.Bundle.{IsBundle}
use Rattle.map_core.specs.Name.{Name}
use Rattle.wire.specs.Frame.{frame, stream_of}
use Rattle.frame_front.specs.Dump.{Domains, HaveValidBundles, ReadsItems, request_for}
use Rattle.wire.specs.Items.{item_of}
use Rattle.frame_front.specs.Private.Refusals.{last_of}
use Rattle.map_core.specs.Laws.{IsAfter, Ascends}
use Rattle.frame_front.proofs.SessionLemmas.{stream_of-append}

last_is : (last : Option Name) (item : Name × BundleValue) (items : Domains)
    → last_of last (item ∷ items) ≡ option_map (λ (i : Name × BundleValue). i.0) (slice_get (item ∷ items) (length items))
last_is last item [] = refl
last_is last item (next ∷ items) = last_is (Some item.0) next items

-- the last name is that of the last domain
pub last_name : (items : Domains) → last_of None items ≡ option_map (λ (i : Name × BundleValue). i.0) (slice_get items (length items - 1))
last_name [] = refl
last_name (item ∷ items) =
    let same : length (item ∷ items) - 1 ≡ length items = omega arith in
    rw same (last_is None item items)

pub ReadsItems-length : (ps : List (List ℕ)) (items : Domains) → ReadsItems ps items → length ps ≡ length items
ReadsItems-length [] [] read = refl
ReadsItems-length [] (i ∷ is) read = absurd read
ReadsItems-length (p ∷ ps) [] read = absurd read
ReadsItems-length (p ∷ ps) (i ∷ is) read = omega (arith, ReadsItems-length ps is read.1)

pub ReadsItems-one : (ps : List (List ℕ)) (items : Domains) (p : List ℕ) (i : Name × BundleValue) → ReadsItems ps items → item_of p ≡ Some i → ReadsItems (ps ++ p ∷ []) (items ++ i ∷ [])
ReadsItems-one [] [] p i read one = (one, tt)
ReadsItems-one [] (j ∷ is) p i read one = absurd read
ReadsItems-one (q ∷ ps) [] p i read one = absurd read
ReadsItems-one (q ∷ ps) (j ∷ is) p i read one = (read.0, ReadsItems-one ps is p i read.1 one)

pub Ascends-one : (last : Option Name) (items : Domains) (i : Name × BundleValue) → Ascends last items → IsAfter (last_of last items) i.0 → Ascends last (items ++ i ∷ [])
Ascends-one last [] i ascending after = (after, tt)
Ascends-one last (j ∷ is) i ascending after = (ascending.0, Ascends-one (Some j.0) is i ascending.1 after)

pub last_of-one : (last : Option Name) (items : Domains) (i : Name × BundleValue) → last_of last (items ++ i ∷ []) ≡ Some i.0
last_of-one last [] i = refl
last_of-one last (j ∷ is) i = last_of-one (Some j.0) is i

pub valid-one : (items : Domains) (i : Name × BundleValue) → HaveValidBundles items → IsBundle i.1 → HaveValidBundles (items ++ i ∷ [])
valid-one [] i valid one = (one, tt)
valid-one (j ∷ is) i valid one = (valid.0, valid-one is i valid.1 one)

pub map-one : (items : Domains) (i : Name × BundleValue) → map request_for (items ++ i ∷ []) ≡ map request_for items ++ request_for i ∷ []
map-one [] i = refl
map-one (j ∷ is) i = ap (λ rs. request_for j ∷ rs) (map-one is i)

pub stream-one : (ps : List (List ℕ)) (p rest : List ℕ) → stream_of (ps ++ p ∷ []) rest ≡ stream_of ps (frame p ++ rest)
stream-one ps p rest = stream_of-append ps (p ∷ []) rest ∙ ap (λ f. stream_of ps (f ++ rest)) (append-nil (frame p))

pub stream-more : (ps : List (List ℕ)) (p : List ℕ) → stream_of (ps ++ p ∷ []) [] ≡ stream_of ps [] ++ frame p
stream-more ps p = stream-one ps p [] ∙ ap (stream_of ps) (append-nil (frame p)) ∙ ap (λ s. s ++ frame p) (sym (append-nil (flat_map frame ps)))

pub some_item : (a b : Name × BundleValue) → Some a ≡ Some b → a ≡ b
some_item a b same = cc

pub none_item : (a : Name × BundleValue) → None ≡ Some a → ⊥
none_item a same = cc

pub cons_head : {X : Type 0} (a b : X) (xs ys : List X) → a ∷ xs ≡ b ∷ ys → a ≡ b
cons_head a b xs ys same = cc

pub cons_tail : {X : Type 0} (a b : X) (xs ys : List X) → a ∷ xs ≡ b ∷ ys → xs ≡ ys
cons_tail a b xs ys same = cc
