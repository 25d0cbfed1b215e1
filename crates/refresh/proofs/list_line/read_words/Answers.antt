use Rattle.std.proofs.Common.{◌≡◌, [], ◌∷◌, List, ℕ, sym, ap, ◌∙◌}
use Rattle.std.specs.Option.{option_to_list}
use Rattle.std.specs.Prelude.{option_copied}
use Rattle.std.specs.Str.Iter.{split_ascii_whitespace_text}
use Rattle.refresh.specs.List.{words_of, listed_by}
use Rattle.refresh.proofs.ListReading.{listed_no_text, listed_words, one_or_none, none_after, no_more, too_many}
use Rattle.refresh.proofs.list_line.read_words.Goals as goal
use Rattle.refresh.proofs.list_line.read_words.Goals.{else-is_some-via-then-is_some+else-is_some-2, else-is_some-via-else-is_some}

pub returns-in_default-clause-err : goal.returns-in_default-clause-err
returns-in_default-clause-err c = listed_no_text c.args.line.now c.in_default.ensures.cases.0

pub returns-in_default-next_word-clause-ok : goal.returns-in_default-next_word-clause-ok
returns-in_default-next_word-clause-ok c =
    let text = c.in-Ok.ensures.cases in
    listed_words _ _ _ text.0 text.1 c.split_ascii_whitespace-words.ensures.text [] c.in_default-next_word.ensures

pub returns-in_default-next_word-2-clause-err : goal.returns-in_default-next_word-2-clause-err
returns-in_default-next_word-2-clause-err c =
    let text = c.in-Ok.ensures.cases in
    let domain = c.in-Some.domain.now in
    listed_words _ _ _ text.0 text.1 c.split_ascii_whitespace-words.ensures.text (domain ∷ [])
    (c.in-Some.ensures ∙ ap (λ (ws : List (List ℕ)). domain ∷ ws) c.in_default-next_word-2.ensures)

pub returns-in_default-next_word-3-clause-err : goal.returns-in_default-next_word-3-clause-err
returns-in_default-next_word-3-clause-err c =
    let text = c.in-Ok.ensures.cases in
    let domain = c.in-Some.domain.now in
    let url = c.in-Some-next_word.url.now in
    listed_words _ _ _ text.0 text.1 c.split_ascii_whitespace-words.ensures.text (domain ∷ url ∷ [])
    (c.in-Some.ensures ∙ ap (λ (ws : List (List ℕ)). domain ∷ ws) (c.in-Some-next_word.ensures ∙ ap (λ (ws : List (List ℕ)). url ∷ ws) c.in_default-next_word-3.ensures))

pub returns-then-is_some-2-clause-err : goal.returns-then-is_some-2-clause-err
returns-then-is_some-2-clause-err c =
    let text = c.in-Ok.ensures.cases in
    let domain = c.in-Some.domain.now in
    let url = c.in-Some-next_word.url.now in
    let profile = c.in-Some-next_word-2.profile.now in
    let given = listed_words _ _ _ text.0 text.1 c.split_ascii_whitespace-words.ensures.text (domain ∷ url ∷ profile ∷ words_of (split_ascii_whitespace_text c.next_word-3.new.words))
    (c.in-Some.ensures ∙ ap (λ (ws : List (List ℕ)). domain ∷ ws) (c.in-Some-next_word.ensures ∙ ap (λ (ws : List (List ℕ)). url ∷ ws) c.in-Some-next_word-2.ensures)) in
    given ∙ too_many c.next_word-endpoint_id.result domain url profile _ _ c.next_word-endpoint_id.ensures (sym c.if-is_some.ensures) c.next_word-then-is_some.result _ c.next_word-then-is_some.ensures (sym c.if-is_some-2.ensures)

pub returns-clause-ok : goal.returns-clause-ok
returns-clause-ok c =
    let text = c.in-Ok.ensures.cases in
    let domain = c.in-Some.domain.now in
    let url = c.in-Some-next_word.url.now in
    let profile = c.in-Some-next_word-2.profile.now in
    let left = words_of (split_ascii_whitespace_text c.next_word-3.new.words) in
    let last : left ≡ option_to_list (option_copied c.next_word-endpoint_id.result) = elim c.else-is_some.branch [
      | else-is_some-via-then-is_some+else-is_some-2 w ↦
          one_or_none c.next_word-endpoint_id.result left _ c.next_word-endpoint_id.ensures (λ some. none_after w.next_word-then-is_some.result _ _ w.next_word-then-is_some.ensures w.if-is_some-2.ensures)
      | else-is_some-via-else-is_some w ↦ one_or_none c.next_word-endpoint_id.result left _ c.next_word-endpoint_id.ensures (no_more c.next_word-endpoint_id.result _ w.if-is_some.ensures)
    ] in
    let given = listed_words _ _ _ text.0 text.1 c.split_ascii_whitespace-words.ensures.text (domain ∷ url ∷ profile ∷ left)
    (c.in-Some.ensures ∙ ap (λ (ws : List (List ℕ)). domain ∷ ws) (c.in-Some-next_word.ensures ∙ ap (λ (ws : List (List ℕ)). url ∷ ws) c.in-Some-next_word-2.ensures)) in
    given ∙ ap (λ (ws : List (List ℕ)). listed_by (domain ∷ url ∷ profile ∷ ws)) last
