-- Lemmas on files that are compared one after the other.
use Rattle.std.proofs.Common.{◌≡◌, List, [], ◌∷◌, ◌++◌, Bool, true, false, Result, Ok, Err, sym, ap, ◌∙◌, append_assoc}
use Rattle.std.specs.Prelude.{IfOk}
use Rattle.snapshots.specs.declared.error.FolderError.{FolderError}
use Rattle.snapshots.specs.Files.{File}
use Rattle.snapshots.specs.Update.{AreThere, SomeDiffers}

false_true : false ≡ true → ⊥
false_true same = cc

-- those before are there
pub there_after : (there : File → Bool → Type 0) (files more : List File) (yes : Bool) → AreThere there files true → AreThere there more yes → AreThere there (files ++ more) yes
there_after there files more false first second = record {
  before = files ++ second.before;
  file = second.file;
  after = second.after;
  placed = ap (λ others. files ++ others) second.placed ∙ sym (append_assoc files second.before (second.file ∷ second.after));
  differs = second.differs;
}
there_after there [] more true first second = second
there_after there (file ∷ files) more true first second = (first.0, there_after there files more true first.1 second)

-- one before differs
pub differs_before : (there : File → Bool → Type 0) (files more : List File) → SomeDiffers there files → SomeDiffers there (files ++ more)
differs_before there files more first = record {
  before = first.before;
  file = first.file;
  after = first.after ++ more;
  placed = ap (λ others. others ++ more) first.placed ∙ append_assoc first.before (first.file ∷ first.after) more;
  differs = first.differs;
}

-- the first of some files differs
pub head_differs : (there : File → Bool → Type 0) (file found : File) (rest : List File) (yes : Bool) → found ≡ file → yes ≡ false → there found yes
    → SomeDiffers there (file ∷ rest)
head_differs there file found rest false same other answer = record { before = []; file = found; after = rest; placed = ap (λ f. f ∷ rest) (sym same); differs = answer }
head_differs there file found rest true same other answer = absurd (false_true (sym other))

-- the first of two is there, so both are if the second is
pub two_there : (there : File → Bool → Type 0) (first second one two : File) (yes last : Bool) → one ≡ first → two ≡ second → yes ≡ true
    → there one yes → there two last → AreThere there (first ∷ second ∷ []) last
two_there there first second one two true true same-one same-two other a b = rw (sym same-one, sym same-two) (a, (b, tt))
two_there there first second one two true false same-one same-two other a b =
    record { before = first ∷ []; file = two; after = []; placed = ap (λ f. first ∷ f ∷ []) (sym same-two); differs = b }
two_there there first second one two false last same-one same-two other a b = absurd (false_true other)

-- the same if the answer on the second may be an error
pub two_answered : (there : File → Bool → Type 0) (first second one two : File) (found : Bool) (last : Result Bool FolderError) → one ≡ first → two ≡ second → found ≡ true
    → there one found → IfOk last (λ l. there two l) → IfOk last (AreThere there (first ∷ second ∷ []))
two_answered there first second one two found (Ok last) same-one same-two is-there a b = two_there there first second one two found last same-one same-two is-there a b
two_answered there first second one two found (Err error) same-one same-two is-there a b = tt

pub head_there : (there : File → Bool → Type 0) (file found : File) (yes : Bool) → found ≡ file → yes ≡ true → there found yes → AreThere there (file ∷ []) true
head_there there file found true same other answer = rw (sym same) (answer, tt)
head_there there file found false same other answer = absurd (false_true other)

pub differs_at : (there : File → Bool → Type 0) (files : List File) (yes : Bool) → yes ≡ false → AreThere there files yes → SomeDiffers there files
differs_at there files false other answer = answer
differs_at there files true other answer = absurd (false_true (sym other))
