-- What a line lists.
use Rattle.std.proofs.Common.{◌≡◌, ◌⊎◌, ℕ, List, [], ◌∷◌, Bool, true, false, Option, Some, None, Result, Err, refl, sym, ap, subst, ◌∙◌, inl, inr}
use Rattle.std.specs.Prelude.{MatchOption, is_some, option_copied, if◌then◌else◌}
use Rattle.std.specs.Borrow.{Bor}
use Rattle.std.specs.Option.{option_to_list}
use Rattle.std.specs.Str.{IsUtf8, is_utf8}
use Rattle.std.proofs.lemmas.Bool.{cases_Bool}
use Rattle.std.proofs.lemmas.Str.{IsUtf8-from_is_utf8, is_utf8-from_IsUtf8}
use Rattle.refresh.specs.Relationship.{RelationshipValue, relationship}
use Rattle.refresh.specs.declared.error.RelationError.{RelationError}
use Rattle.refresh.specs.declared.error.RelationError.TheVariants as relation
use Rattle.refresh.specs.declared.list_line.Words.{Words}
use Rattle.refresh.specs.declared.list.ListError.{ListError}
use Rattle.refresh.specs.List.{Listed, words_of, listed_as, listed_by, listed_in}
use Rattle.refresh.specs.Private.Listing.{IsLineFault, refusal, words_in}

pub listed_no_text : (line : List ℕ) → ¬ (IsUtf8 line) → listed_in line ≡ Err None
unfolding listed_in
listed_no_text line none = elim (cases_Bool (is_utf8 line)) [
  | inl text ↦ absurd (none (IsUtf8-from_is_utf8 line text))
  | inr other ↦ ap (λ (b : Bool). if b then listed_by (words_of line) else Err None) other
]

pub listed_words : (line text start : List ℕ) → text ≡ line → IsUtf8 line → start ≡ text → (words : List (List ℕ)) → words_of start ≡ words → listed_in line ≡ listed_by words
unfolding listed_in
listed_words line text start same utf8 begins words are =
    ap (λ (b : Bool). if b then listed_by (words_of line) else Err None) (is_utf8-from_IsUtf8 line utf8)
    ∙ ap (λ (bytes : List ℕ). listed_by (words_of bytes)) (sym (begins ∙ same)) ∙ ap listed_by are

-- ---- after three words

pub one_or_none : (found : Option (Bor (List ℕ))) (left next : List (List ℕ)) → MatchOption found (left ≡ []) (λ word. left ≡ word.now ∷ next) → (is_some found ≡ true → next ≡ [])
    → left ≡ option_to_list (option_copied found)
one_or_none None left next none last = none
one_or_none (Some word) left next some last = some ∙ ap (λ (words : List (List ℕ)). word.now ∷ words) (last refl)

pub too_many : (found : Option (Bor (List ℕ))) (domain url profile : List ℕ) (left next : List (List ℕ)) → MatchOption found (left ≡ []) (λ word. left ≡ word.now ∷ next) → is_some found ≡ true
    → (more : Option (Bor (List ℕ))) (after : List (List ℕ)) → MatchOption more (next ≡ []) (λ word. next ≡ word.now ∷ after) → is_some more ≡ true
    → listed_by (domain ∷ url ∷ profile ∷ left) ≡ Err None
too_many None domain url profile left next none there more after one some = absurd (let no : ⊥ = cc in no)
too_many (Some word) domain url profile left next first there None after none some = absurd (let no : ⊥ = cc in no)
too_many (Some word) domain url profile left next first there (Some other) after second some =
    ap (λ (words : List (List ℕ)). listed_by (domain ∷ url ∷ profile ∷ words)) (first ∙ ap (λ (words : List (List ℕ)). word.now ∷ words) second)

pub three_or_four : (domain url profile : List ℕ) (endpoint_id : Option (List ℕ)) → listed_by (domain ∷ url ∷ profile ∷ option_to_list endpoint_id) ≡ listed_as (relationship domain url profile endpoint_id)
three_or_four domain url profile None = refl
three_or_four domain url profile (Some id) = refl

pub none_after : (more : Option (Bor (List ℕ))) (left after : List (List ℕ)) → MatchOption more (left ≡ []) (λ word. left ≡ word.now ∷ after) → false ≡ is_some more → left ≡ []
none_after None left after none same = none
none_after (Some word) left after some same = cc same

pub no_more : (found : Option (Bor (List ℕ))) (left : List (List ℕ)) → false ≡ is_some found → is_some found ≡ true → left ≡ []
no_more found left none some = cc (none ∙ some)

refused_so : (number : ℕ) (error : RelationError) (given : Result RelationshipValue RelationError) → (error ≡ relation.Memory) ⊎ (given ≡ Err error)
    → IsLineFault number (listed_as given) (refusal number error)
refused_so number error given (inl memory) = inl (ap (refusal number) memory)
refused_so number relation.Memory given (inr is) = inl refl
refused_so number error given (inr is) = inr (Some error, ap listed_as is, refl)

pub refused_words : (words : Words) (number : ℕ) (error : RelationError) (told : ListError) → told ≡ refusal number error
    → (error ≡ relation.Memory) ⊎ (relationship words.domain.now words.url.now words.profile.now (option_copied words.endpoint_id) ≡ Err error)
    → IsLineFault number (listed_by (words_in words)) told
refused_words words number error told is why =
    let id = option_copied words.endpoint_id in
    let given = relationship words.domain.now words.url.now words.profile.now id in
    subst (λ (e : ListError). IsLineFault number (listed_by (words_in words)) e) (sym is)
    (subst (λ (l : Listed). IsLineFault number l (refusal number error)) (sym (three_or_four words.domain.now words.url.now words.profile.now id)) (refused_so number error given why))
