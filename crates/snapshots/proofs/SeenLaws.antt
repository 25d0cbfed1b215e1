-- What a reader sees of a snapshot that is written and shown.
use Rattle.std.proofs.Common.{◌≡◌, ◌≢◌, List, [], ◌∷◌, ◌++◌, map, refl, sym, ap, ◌∙◌, append_assoc, append-nil}
use Rattle.frame_front.specs.Dump.{Domains}
use Rattle.snapshots.specs.Files.{File, files_of}
use Rattle.snapshots.specs.Deeds.{Deed, deeds_of}
use Rattle.snapshots.specs.Deeds.Deed.{Begin, Put, Show}
use Rattle.snapshots.specs.Seen.{Seen, after, after_all, OneMoment}

-- a deed that shows nothing
abbrev IsQuiet : Deed → Type 0
IsQuiet Begin = Unit {0}
IsQuiet (Put file) = Unit {0}
IsQuiet Show = ⊥

quiet_keeps : (deed : Deed) (seen : Seen) → IsQuiet deed → (after deed seen).current ≡ seen.current
quiet_keeps Begin seen quiet = refl
quiet_keeps (Put file) seen quiet = refl
quiet_keeps Show seen quiet = absurd quiet

abbrev AreQuiet : List Deed → Type 0
AreQuiet [] = Unit {0}
AreQuiet (deed ∷ deeds) = IsQuiet deed × AreQuiet deeds

puts_are_quiet : (files : List File) → AreQuiet (map Put files)
puts_are_quiet [] = tt
puts_are_quiet (file ∷ files) = (tt, puts_are_quiet files)

head_same : (x y : Deed) (xs ys : List Deed) → x ∷ xs ≡ y ∷ ys → x ≡ y
head_same x y xs ys same = cc

tail_same : (x y : Deed) (xs ys : List Deed) → x ∷ xs ≡ y ∷ ys → xs ≡ ys
tail_same x y xs ys same = cc

-- what is behind nothing is nothing
nothing_behind : (xs ys : List Deed) → [] ≡ xs ++ ys → ys ≡ []
nothing_behind [] ys same = sym same
nothing_behind (x ∷ xs) ys same = absurd (let bad = same in cc)

-- before the end nothing is shown
front_keeps : (quiet : List Deed) (seen : Seen) (done rest : List Deed) → AreQuiet quiet → quiet ++ Show ∷ [] ≡ done ++ rest → rest ≢ []
    → (after_all done seen).current ≡ seen.current
front_keeps quiet seen [] rest are same some = refl
front_keeps [] seen (deed ∷ done) rest are same some = absurd (some (nothing_behind done rest (tail_same Show deed [] (done ++ rest) same)))
front_keeps (one ∷ quiet) seen (deed ∷ done) rest are same some =
    front_keeps quiet (after deed seen) done rest are.1 (tail_same one deed (quiet ++ Show ∷ []) (done ++ rest) same) some
    ∙ rw (sym (head_same one deed (quiet ++ Show ∷ []) (done ++ rest) same)) (quiet_keeps one seen are.0)

-- files that are put are written, and at the end shown
puts_are_shown : (files : List File) (seen : Seen) → (after_all (map Put files ++ Show ∷ []) seen).current ≡ seen.written ++ files
puts_are_shown [] seen = sym (append-nil seen.written)
puts_are_shown (file ∷ files) seen = puts_are_shown files (after (Put file) seen) ∙ append_assoc seen.written (file ∷ []) files

all_is_shown : (items : Domains) (before : Seen) → (after_all (deeds_of items) before).current ≡ files_of items
all_is_shown items before = puts_are_shown (files_of items) (after Begin before)

pub readers_see_one_moment : OneMoment
readers_see_one_moment items before done rest same =
    let deeds = Begin ∷ map Put (files_of items) in
    let whole : rest ≡ [] → (after_all done before).current ≡ files_of items =
    λ none. ap (λ ds. (after_all ds before).current) (sym (append-nil done) ∙ ap (λ more. done ++ more) (sym none) ∙ sym same) ∙ all_is_shown items before in
    ((λ some. front_keeps deeds before done rest (tt, puts_are_quiet (files_of items)) same some), whole)
