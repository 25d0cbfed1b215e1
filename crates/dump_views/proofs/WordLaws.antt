-- Nothing is said of two bundles if and only if they are the same.
use Rattle.std.proofs.Common.{◌≡◌, ◌&&◌, ◌||◌, ◌==◌, ℕ, List, [], ◌∷◌, ◌++◌, Bool, true, false, not, Option, codes, decimal, arith, refl, sym, ap, ◌∙◌, append_assoc}
use Rattle.std.specs.Prelude.{if◌then◌else◌, nat_eq}
use Rattle.std.specs.List.{list_all}
use Rattle.std.specs.Option.{option_eq}
use Rattle.std.specs.Cmp.{first_so, second_so}
use Rattle.std.specs.Cmp.Lexicographic.{pointwise}
use Rattle.std.proofs.lemmas.Bool.Decides.{nat_tests}
use Rattle.std.proofs.lemmas.List.Folds.{list_any-append}
use Rattle.spiffe_doc.specs.declared.authority.Authority.{Authority}
use Rattle.spiffe_doc.specs.Authority.{BundleValue}
use Rattle.spiffe_doc.specs.Bundle.{is_among}
use Rattle.spiffe_doc.specs.Equal.{authority_eq}
use Rattle.spiffe_doc.specs.Private.Equality.{authority_decides, bundle_decides}
use Rattle.dump_views.specs.ChangeLines.{number_word, number_words, x509_beyond, jwt_beyond, count_words, have_same, order_words, authority_words, bundle_words}
use Rattle.dump_views.specs.Laws.{NoWordsAreSame}
use Rattle.dump_views.proofs.CountLemmas.{none_beyond}

-- ---- texts that are empty
neither : (xs ys : List ℕ) → xs ++ ys ≡ [] → (xs ≡ []) × (ys ≡ [])
neither [] ys none = (refl, none)
neither (x ∷ xs) ys none = absurd (let e = none in cc)

if_none : (b : Bool) (xs : List ℕ) → (xs ≡ [] → ⊥) → (if b then [] else xs) ≡ [] → b ≡ true
if_none true xs some none = refl
if_none false xs some none = absurd (some none)

-- ---- nothing is said only of what is the same
number_none : (c : ℕ) (label : List ℕ) (old new : Option ℕ) → number_words (c ∷ label) old new ≡ [] → option_eq nat_eq old new ≡ true
unfolding number_words
number_none c label old new none = if_none (option_eq nat_eq old new) ((c ∷ label) ++ (number_word old ++ (codes " to " ++ number_word new))) (λ e. cc e) none

count_none : (c : ℕ) (label : List ℕ) (added removed : ℕ) → count_words (c ∷ label) added removed ≡ [] → ((added == 0) && (removed == 0)) ≡ true
unfolding count_words
count_none c label added removed none =
    if_none ((added == 0) && (removed == 0)) ((c ∷ label) ++ (codes " +" ++ (decimal added ++ (codes " -" ++ decimal removed)))) (λ e. cc e) none

order_if : (s p : Bool) → s ≡ true → (if s && not p then codes " order" else []) ≡ [] → p ≡ true
order_if true true same none = refl
order_if true false same none = absurd (let e = none in cc)
order_if false p same none = absurd (let e = same in cc)

order_none : (old new : List Authority) → have_same old new ≡ true → order_words old new ≡ [] → pointwise authority_eq old new ≡ true
unfolding order_words
order_none old new same none = order_if (have_same old new) (pointwise authority_eq old new) same none

both_counts : (xa xr ja jr : ℕ) → ((xa == 0) && (xr == 0)) ≡ true → ((ja == 0) && (jr == 0)) ≡ true → (((xa == 0) && (ja == 0)) && ((xr == 0) && (jr == 0))) ≡ true
both_counts xa xr ja jr x j = grind (arith, nat_tests)

counted_same : (old new : List Authority) → ((x509_beyond old new == 0) && (x509_beyond new old == 0)) ≡ true → ((jwt_beyond old new == 0) && (jwt_beyond new old == 0)) ≡ true → have_same old new ≡ true
unfolding have_same
counted_same old new x j =
    (λ i. sym (none_beyond old new) i && sym (none_beyond new old) i) ∙ both_counts (x509_beyond old new) (x509_beyond new old) (jwt_beyond old new) (jwt_beyond new old) x j

authorities_none : (old new : List Authority) → authority_words old new ≡ [] → pointwise authority_eq old new ≡ true
unfolding authority_words
authorities_none old new none =
    let first = neither (count_words (codes " x509") (x509_beyond old new) (x509_beyond new old)) (count_words (codes " jwt") (jwt_beyond old new) (jwt_beyond new old) ++ order_words old new) none in
    let second = neither (count_words (codes " jwt") (jwt_beyond old new) (jwt_beyond new old)) (order_words old new) first.1 in
    order_none old new
    (counted_same old new (count_none 32 (codes "x509") (x509_beyond old new) (x509_beyond new old) first.0) (count_none 32 (codes "jwt") (jwt_beyond old new) (jwt_beyond new old) second.0))
    second.1

none_same : (old new : BundleValue) → bundle_words old new ≡ [] → old ≡ new
unfolding bundle_words
none_same old new none =
    let first = neither (number_words (codes " sequence ") old.sequence new.sequence) (number_words (codes " hint ") old.refresh_hint new.refresh_hint ++ authority_words old.authorities new.authorities) none in
    let second = neither (number_words (codes " hint ") old.refresh_hint new.refresh_hint) (authority_words old.authorities new.authorities) first.1 in
    let sequence = number_none 32 (codes "sequence ") old.sequence new.sequence first.0 in
    let hint = number_none 32 (codes "hint ") old.refresh_hint new.refresh_hint second.0 in
    let authorities = authorities_none old.authorities new.authorities second.1 in
    (bundle_decides old new).0 (λ i. sequence i && hint i && authorities i)

-- ---- and nothing is said of it
number_same : (label : List ℕ) (n : Option ℕ) → option_eq nat_eq n n ≡ true → number_words label n n ≡ []
unfolding number_words
number_same label n same = ap (λ b. if b then [] else label ++ (number_word n ++ (codes " to " ++ number_word n))) same

count_same : (label : List ℕ) (n : ℕ) → (n == 0) ≡ true → count_words label n n ≡ []
unfolding count_words
count_same label n zero = ap (λ b. if b && b then [] else label ++ (codes " +" ++ (decimal n ++ (codes " -" ++ decimal n)))) zero

or_true : (b : Bool) → (b || true) ≡ true
or_true true = refl
or_true false = refl

own_authority : (authority : Authority) → authority_eq authority authority ≡ true
own_authority authority = (authority_decides authority authority).1 refl

here_among : (before after : List Authority) (authority : Authority) → is_among (before ++ authority ∷ after) authority ≡ true
here_among before after authority =
    list_any-append (λ other. authority_eq other authority) before (authority ∷ after)
    ∙ ap (λ b. is_among before authority || (b || is_among after authority)) (own_authority authority)
    ∙ or_true (is_among before authority)

later_among : (before after : List Authority) → list_all (is_among (before ++ after)) after ≡ true
later_among before [] = refl
later_among before (authority ∷ after) =
    (λ i. here_among before after authority i && list_all (is_among (before ++ authority ∷ after)) after)
    ∙ ap (λ all. list_all (is_among all) after) (sym (append_assoc before (authority ∷ []) after))
    ∙ later_among (before ++ authority ∷ []) after

order_same : (s p : Bool) → p ≡ true → (if s && not p then codes " order" else []) ≡ []
order_same true true same = refl
order_same true false same = absurd (let e = same in cc)
order_same false p same = refl

authorities_same : (authorities : List Authority) → pointwise authority_eq authorities authorities ≡ true → authority_words authorities authorities ≡ []
unfolding authority_words order_words
authorities_same authorities same =
    let none : ((x509_beyond authorities authorities == 0) && (jwt_beyond authorities authorities == 0)) ≡ true = none_beyond authorities authorities ∙ later_among [] authorities in
    let x = first_so (x509_beyond authorities authorities == 0) (jwt_beyond authorities authorities == 0) none in
    let j = second_so (x509_beyond authorities authorities == 0) (jwt_beyond authorities authorities == 0) none in
    λ i. count_same (codes " x509") (x509_beyond authorities authorities) x i
    ++ (count_same (codes " jwt") (jwt_beyond authorities authorities) j i ++ order_same (have_same authorities authorities) (pointwise authority_eq authorities authorities) same i)

same_none : (bundle : BundleValue) → bundle_words bundle bundle ≡ []
unfolding bundle_words
same_none bundle =
    let same = (bundle_decides bundle bundle).1 refl in
    let numbers = first_so (option_eq nat_eq bundle.sequence bundle.sequence && option_eq nat_eq bundle.refresh_hint bundle.refresh_hint) (pointwise authority_eq bundle.authorities bundle.authorities) same in
    let authorities = second_so (option_eq nat_eq bundle.sequence bundle.sequence && option_eq nat_eq bundle.refresh_hint bundle.refresh_hint) (pointwise authority_eq bundle.authorities bundle.authorities) same in
    let sequence = first_so (option_eq nat_eq bundle.sequence bundle.sequence) (option_eq nat_eq bundle.refresh_hint bundle.refresh_hint) numbers in
    let hint = second_so (option_eq nat_eq bundle.sequence bundle.sequence) (option_eq nat_eq bundle.refresh_hint bundle.refresh_hint) numbers in
    λ i. number_same (codes " sequence ") bundle.sequence sequence i ++ (number_same (codes " hint ") bundle.refresh_hint hint i ++ authorities_same bundle.authorities authorities i)

pub no_words_are_same : NoWordsAreSame
no_words_are_same old new = (none_same old new, λ same. ap (λ (bundle : BundleValue). bundle_words bundle new) same ∙ same_none new)
