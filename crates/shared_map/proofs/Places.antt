-- A place of a list.
use Rattle.std.proofs.Common.{◌≡◌, ◌≢◌, ◌⊎◌, inl, inr, ◌<◌, ℕ, zero, suc, List, [], ◌∷◌, ◌++◌, length, drop, Option, Some, None, Result, true, refl, sym, ap, subst, ◌∙◌, arith}
use Rattle.std.proofs.Math.Seq.{take-append_seam, drop-append_seam, set-append_seam, get_or-append_seam}
use Rattle.std.proofs.lemmas.List.{nil_from_length}
use Rattle.std.specs.List.{slice_get, insert, remove}
use Rattle.std.specs.Prelude.{slice_index_or, slice_set, MatchOption, is_ok, if◌then◌else◌}
use Rattle.std.specs.declared.cmp.Ordering.TheVariants.{Less}
use Rattle.shared_map.specs.Name.{Name, name_cmp}
use Rattle.shared_map.specs.Places.{Around, IsBefore, IsReached}

-- q is not before what stands there, if anything does
abbrev pub IsFrom : {X : Type 0} → Name → Option (Name × X) → Type 0
IsFrom q None = Unit {0}
IsFrom q (Some x) = name_cmp q x.0 ≢ Less

pub record Opened {A : Type 0} (xs : List A) (place : ℕ) : Type 0 where
  pub around : Around xs place
  pub here : slice_get xs place ≡ Some around.item
  pub rest : drop (suc place) xs ≡ around.back

pub opened : {A : Type 0} (xs : List A) (place : ℕ) → place < length xs → Opened xs place
opened [] place h = absurd (omega arith)
opened (x ∷ xs) zero h = record { around = record { front = []; item = x; back = xs; is = refl; at = refl }; here = refl; rest = refl }
opened (x ∷ xs) (suc place) h =
    let o = opened xs place (omega arith) in
    record {
      around = record { front = x ∷ o.around.front; item = o.around.item; back = o.around.back; is = ap (λ ys. x ∷ ys) o.around.is; at = ap suc o.around.at };
      here = o.here;
      rest = o.rest;
    }

pub reached : {X : Type 0} (q : Name) (xs : List (Name × X)) (low high : ℕ) → low < length xs → high ≡ suc low → (low ≡ 0) ⊎ IsFrom q (slice_get xs low) → IsBefore q (drop high xs) → IsReached q xs low
reached q xs low high h next from before =
    let o = opened xs low h in (
      o.around,
      elim from [
        | inl z ↦ inl (nil_from_length o.around.front (o.around.at ∙ z))
        | inr f ↦ inr (subst (IsFrom q) o.here f)
      ],
      subst (IsBefore q) (ap (λ n. drop n xs) next ∙ o.rest) before,
    )

pub item_at : {A : Type 0} (xs : List A) (front : List A) (x : A) (back : List A) (place : ℕ) (d : A) → xs ≡ front ++ x ∷ back → length front ≡ place → slice_index_or xs place d ≡ x
item_at xs front x back place d is at = (λ i. slice_index_or (is i) (sym at i) d) ∙ get_or-append_seam front x back d

-- what is read at a place
pub read_at : {A : Type 0} {xs : List A} {place : ℕ} (a : Around xs place) (d : A) → slice_index_or xs place d ≡ a.item
read_at {A} {xs} {place} a d = item_at xs a.front a.item a.back place d a.is a.at

pub set_at : {A : Type 0} (xs : List A) (front : List A) (x : A) (back : List A) (place : ℕ) (y : A) → xs ≡ front ++ x ∷ back → length front ≡ place → slice_set xs place y ≡ front ++ y ∷ back
set_at xs front x back place y is at = (λ i. slice_set (is i) (sym at i) y) ∙ set-append_seam front x back y

-- a value is put under the name at a place
pub value_at : {X : Type 0} {ys xs : List (Name × X)} {place : ℕ} → ys ≡ xs → (a : Around xs place) → (v : X) (x : Name × X) → x ≡ slice_index_or ys place x → slice_set ys place (x.0, v) ≡ a.front ++ (a.item.0, v) ∷ a.back
value_at {X} {ys} {xs} {place} kept a v x read =
    let name : x.0 ≡ a.item.0 = ap (λ (e : Name × X). e.0) (read ∙ item_at ys a.front a.item a.back place x (kept ∙ a.is) a.at) in
    set_at ys a.front a.item a.back place (x.0, v) (kept ∙ a.is) a.at ∙ ap (λ n. a.front ++ (n, v) ∷ a.back) name

pub read_same : {A : Type 0} {ys xs : List A} {place : ℕ} → ys ≡ xs → (a : Around xs place) → (x : A) → x ≡ slice_index_or ys place x → x ≡ a.item
read_same {A} {ys} {xs} {place} kept a x read = read ∙ ap (λ (l : List A). slice_index_or l place x) kept ∙ read_at a x

drop_more : {A : Type 0} (front : List A) (x : A) (back : List A) → drop (suc (length front)) (front ++ x ∷ back) ≡ back
drop_more [] x back = refl
drop_more (y ∷ front) x back = drop_more front x back

pub insert_at : {A : Type 0} {xs : List A} (front back : List A) {place : ℕ} (y : A) → xs ≡ front ++ back → length front ≡ place → insert xs place y ≡ front ++ y ∷ back
insert_at {A} {xs} front back {place} y is at =
    ap (λ n. insert xs n y) (sym at) ∙ ap (λ (l : List A). insert l (length front) y) is ∙ ap (λ l. l ++ y ∷ drop (length front) (front ++ back)) (take-append_seam front back) ∙ ap (λ l. front ++ y ∷ l) (drop-append_seam front back)

pub remove_at : {A : Type 0} {xs : List A} {place : ℕ} (a : Around xs place) → remove xs place ≡ a.front ++ a.back
remove_at {A} {xs} {place} a =
    ap (remove xs) (sym a.at) ∙ ap (λ (l : List A). remove l (length a.front)) a.is ∙ ap (λ l. l ++ drop (suc (length a.front)) (a.front ++ a.item ∷ a.back)) (take-append_seam a.front (a.item ∷ a.back)) ∙ ap (λ l. a.front ++ l) (drop_more a.front a.item a.back)

pub read_set : {A : Type 0} {ys xs : List A} {place : ℕ} → ys ≡ xs → (a : Around xs place) → (y d : A) → slice_index_or (slice_set ys place y) place d ≡ y
read_set {A} {ys} {xs} {place} kept a y d = item_at (slice_set ys place y) a.front y a.back place d (set_at ys a.front a.item a.back place y (kept ∙ a.is) a.at) a.at

pub match_weaker : {A : Type 0} {Q R : A → Type 0} (P : Type 0) (o : Option A) → ((x : A) → Q x → R x) → MatchOption o P Q → MatchOption o P R
match_weaker P None f h = h
match_weaker P (Some x) f h = f x h

-- what holds of a value that is there
pub at_some : {A : Type 0} (P : Type 0) (Q : A → Type 0) {o : Option A} {x : A} → o ≡ Some x → MatchOption o P Q → Q x
at_some {A} P Q {o} {x} is h = subst (λ o. MatchOption o P Q) is h

pub inserted : {A B E : Type 0} (r : Result B E) (new old : List A) (place : ℕ) (x : A) → new ≡ (if is_ok r then insert old place x else old) → is_ok r ≡ true → new ≡ insert old place x
inserted r new old place x is e = grind arith
