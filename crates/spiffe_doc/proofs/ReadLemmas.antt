-- The tree of a text.
use Rattle.std.proofs.Common.{◌≡◌, ℕ, List, [], ◌∷◌, true, false, Option, Some, None, MatchOption, option_and_then, refl, ap, ◌∙◌, inl, inr}
use Rattle.std.specs.Prelude.{is_some}
use Rattle.std.specs.Str.{IsUtf8, is_utf8}
use Rattle.std.proofs.lemmas.Bool.{cases_Bool}
use Rattle.std.proofs.lemmas.Str.{IsUtf8-from_is_utf8, is_utf8-from_IsUtf8}
use Rattle.json.specs.Lex.{tokens}
use Rattle.json.specs.Token as spec
use Rattle.json.specs.Reads.{token_of}
use Rattle.json.specs.declared.token.Token.{Token}
use Rattle.json.specs.Json as json
use Rattle.serde_json.specs.Data.{Data}
use Rattle.serde_json.specs.Read.{read, of_json, max_depth}
use Rattle.spiffe_doc.specs.Document.{json_tree}
use Rattle.spiffe_doc.specs.Private.Borrowed.{data_of, in_range}
use Rattle.spiffe_doc.proofs.BorrowedLemmas.{of_json-data_of, if_in}

pub json_tree-some : (text : List ℕ) (d : Data) → IsUtf8 text → read text ≡ Some d → json_tree text ≡ Some d
json_tree-some text d utf8 reads = rw (is_utf8-from_IsUtf8 text utf8) reads

pub json_tree-none : (text : List ℕ) → (IsUtf8 text → read text ≡ None) → json_tree text ≡ None
json_tree-none text none = elim (cases_Bool (is_utf8 text)) [
  | inl utf8 ↦ rw utf8 (none (IsUtf8-from_is_utf8 text utf8))
  | inr other ↦ rw other refl
]

-- ---- what the tokens of a text give

pub read-of : (text : List ℕ) (o : Option (json.Json × List spec.Token)) → json.value max_depth (tokens text) ≡ o → read text ≡ option_and_then of_json (option_and_then (λ p. json.if_last p.0 p.1) o)
read-of text o e = ap (λ (p : Option (json.Json × List spec.Token)). option_and_then of_json (option_and_then (λ q. json.if_last q.0 q.1) p)) e

-- one value and nothing after it, with no number that is too large
pub read-in_range : (text : List ℕ) (j : json.Json) (rest : List spec.Token) → json.value max_depth (tokens text) ≡ Some (j, rest) → rest ≡ [] → in_range j ≡ true → read text ≡ Some (data_of j)
read-in_range text j rest e last fits = read-of text (Some (j, [])) (e ∙ ap (λ ts. Some (j, ts)) last) ∙ of_json-data_of j ∙ ap (λ b. if_in b (data_of j)) fits

pub read-out_of_range : (text : List ℕ) (j : json.Json) (rest : List spec.Token) → json.value max_depth (tokens text) ≡ Some (j, rest) → rest ≡ [] → in_range j ≡ false → read text ≡ None
read-out_of_range text j rest e last large = read-of text (Some (j, [])) (e ∙ ap (λ ts. Some (j, ts)) last) ∙ of_json-data_of j ∙ ap (λ b. if_in b (data_of j)) large

pub read-more : (text : List ℕ) (j : json.Json) (rest new : List spec.Token) (t : spec.Token) → json.value max_depth (tokens text) ≡ Some (j, rest) → rest ≡ t ∷ new → read text ≡ None
read-more text j rest new t e more = read-of text (Some (j, t ∷ new)) (e ∙ ap (λ ts. Some (j, ts)) more)

-- a token that follows, or none
pub no_token : (r : Option Token) (old new : List spec.Token) → MatchOption r ((old ≡ []) × (new ≡ [])) (λ t. old ≡ token_of t ∷ new) → is_some r ≡ false → old ≡ []
no_token None old new h e = h.0
no_token (Some t) old new h e = cc e

pub one_token : (r : Option Token) (old new : List spec.Token) → MatchOption r ((old ≡ []) × (new ≡ [])) (λ t. old ≡ token_of t ∷ new) → is_some r ≡ true → (t : spec.Token) × (old ≡ t ∷ new)
one_token None old new h e = cc e
one_token (Some t) old new h e = (token_of t, h)
