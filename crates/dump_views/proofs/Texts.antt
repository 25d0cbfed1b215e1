-- The text of a bundle map in pieces.
use Rattle.std.proofs.Common.{◌≡◌, ℕ, suc, List, [], ◌∷◌, ◌++◌, append_assoc, append-nil, length, ◌==◌, Bool, true, false, not, codes, None, refl, sym, ap, ◌∙◌, arith}
use Rattle.std.proofs.lemmas.Bool.Decides.{nat_tests}
use Rattle.json.specs.Print.{quoted}
use Rattle.serde_json.specs.Written.{comma_if, members_text}
use Rattle.serde_json.proofs.OnLiterals.{serde_json_on_literals}
use Rattle.spiffe_doc.specs.Authority.{BundleValue}
use Rattle.spiffe_doc.specs.Name.{IsName}
use Rattle.spiffe_doc.specs.Text.{text_of}
use Rattle.spiffe_doc.specs.declared.authority.Authority.{Authority}
use Rattle.spiffe_doc.specs.Private.Writing.{entry_texts, front_text, rest_text, number_text}
use Rattle.spiffe_doc.proofs.TextLemmas.{rest_text-pieces, text_of-pieces}
use Rattle.map_core.specs.Name.{Name}
use Rattle.frame_front.specs.Dump.{Domains}
use Rattle.dump_views.specs.Map.{domain_members, map_text}
use Rattle.dump_views.specs.Private.Writing.{domain_texts}
use Rattle.dump_views.proofs.Names.{quoted-name}

-- a member's name behind what stands before it
abbrev pub name_text : Bool → Name → List ℕ
name_text later name = comma_if later ++ (quoted name ++ 58 ∷ [])

regroup_member : (comma name text rest front end : List ℕ) → rest ≡ front ++ end
    → comma ++ (name ++ 58 ∷ (text ++ rest)) ≡ ((comma ++ (name ++ 58 ∷ [])) ++ (text ++ front)) ++ end
regroup_member comma name text rest front end same = rw same (simp append_assoc)

members_text-domains : (later : Bool) (items : Domains) → members_text later (domain_members items) ≡ domain_texts later items ++ codes "}"
unfolding text_of
members_text-domains later [] = refl
members_text-domains later (item ∷ items) =
    regroup_member (comma_if later) (quoted item.0) (text_of item.1) _ (domain_texts true items) (codes "}") (members_text-domains true items)

-- the text of a map
pub map_text-pieces : (items : Domains) → map_text items ≡ (codes "{\"trust_domains\":{" ++ domain_texts false items) ++ codes "}}"
unfolding map_text serde_json_on_literals
map_text-pieces items =
    ap (λ text. codes "{\"trust_domains\":{" ++ (text ++ codes "}")) (members_text-domains false items)
    ∙ ap (λ text. codes "{\"trust_domains\":{" ++ text) (append_assoc (domain_texts false items) (codes "}") (codes "}"))
    ∙ sym (append_assoc (codes "{\"trust_domains\":{") (domain_texts false items) (codes "}}"))

some_are : (n : ℕ) → (suc n == 0) ≡ false
some_are n = grind (arith, nat_tests)

regroup_last : (name text front last : List ℕ) → name ++ (text ++ (front ++ last)) ≡ (name ++ (text ++ front)) ++ last
regroup_last name text front last = simp append_assoc

texts-later : (items : Domains) (item : Name × BundleValue) → domain_texts true (items ++ item ∷ []) ≡ domain_texts true items ++ (name_text true item.0 ++ text_of item.1)
texts-later [] item = ap (λ text. name_text true item.0 ++ text) (append-nil (text_of item.1))
texts-later (first ∷ items) item =
    ap (λ text. name_text true first.0 ++ (text_of first.1 ++ text)) (texts-later items item)
    ∙ regroup_last (name_text true first.0) (text_of first.1) (domain_texts true items) (name_text true item.0 ++ text_of item.1)

-- the text of one domain more
pub texts-push : (items : Domains) (item : Name × BundleValue)
    → domain_texts false (items ++ item ∷ []) ≡ domain_texts false items ++ (name_text (not (length items == 0)) item.0 ++ text_of item.1)
texts-push [] item = ap (λ text. name_text false item.0 ++ text) (append-nil (text_of item.1))
texts-push (first ∷ items) item =
    ap (λ text. name_text false first.0 ++ (text_of first.1 ++ text)) (texts-later items item)
    ∙ regroup_last (name_text false first.0) (text_of first.1) (domain_texts true items) (name_text true item.0 ++ text_of item.1)
    ∙ ap (λ none. domain_texts false (first ∷ items) ++ (name_text (not none) item.0 ++ text_of item.1)) (sym (some_are (length items)))

-- a name, written piece by piece
pub name_written : (old : List ℕ) (later : Bool) (name : Name) → IsName name
    → (((old ++ comma_if later) ++ 34 ∷ []) ++ name) ++ codes "\":" ≡ old ++ name_text later name
name_written old later name is =
    regroup old (comma_if later) name ∙ ap (λ text. old ++ (comma_if later ++ (text ++ 58 ∷ []))) (sym (quoted-name name is))
  where
    regroup : (a b c : List ℕ) → (((a ++ b) ++ 34 ∷ []) ++ c) ++ codes "\":" ≡ a ++ (b ++ ((34 ∷ (c ++ 34 ∷ [])) ++ 58 ∷ []))
    regroup a b c = simp append_assoc

pub name_behind : (old t u v w bytes : List ℕ) (later : Bool) (name : Name) → IsName name → t ≡ old ++ comma_if later → u ≡ t ++ 34 ∷ [] → bytes ≡ name
    → v ≡ u ++ bytes → w ≡ v ++ codes "\":" → w ≡ old ++ name_text later name
name_behind old t u v w bytes later name is comma quote same named colon =
    colon ∙ ap (λ x. x ++ codes "\":") (named ∙ (λ i. quote i ++ same i) ∙ ap (λ x. (x ++ 34 ∷ []) ++ name) comma) ∙ name_written old later name is

-- one domain more behind a front
pub domain_behind : (front t u v : List ℕ) (items : Domains) (item : Name × BundleValue) (first : Bool) → t ≡ front ++ domain_texts false items
    → u ≡ t ++ name_text (not first) item.0 → v ≡ u ++ text_of item.1 → first ≡ (length items == 0) → v ≡ front ++ domain_texts false (items ++ item ∷ [])
domain_behind front t u v items item first before named told is =
    told ∙ ap (λ x. x ++ text_of item.1) (named ∙ (λ i. before i ++ name_text (not (is i)) item.0))
    ∙ regroup front (domain_texts false items) (name_text (not (length items == 0)) item.0) (text_of item.1) ∙ ap (λ x. front ++ x) (sym (texts-push items item))
  where
    regroup : (a b c d : List ℕ) → ((a ++ b) ++ c) ++ d ≡ a ++ (b ++ (c ++ d))
    regroup a b c d = simp append_assoc

-- ---- the text of a bundle's X.509 authorities

-- the end of a bundle with no hint
pub rest_behind : (old t u v w : List ℕ) (bundle : BundleValue) → t ≡ old ++ front_text bundle.authorities → u ≡ t ++ codes "]"
    → v ≡ u ++ number_text (codes ",\"spiffe_sequence\":") bundle.sequence → w ≡ v ++ codes "}" → bundle.refresh_hint ≡ None → w ≡ old ++ text_of bundle
rest_behind old t u v w bundle front list number end none =
    end ∙ ap (λ x. x ++ codes "}") (number ∙ ap (λ x. x ++ number_text (codes ",\"spiffe_sequence\":") bundle.sequence) (list ∙ ap (λ x. x ++ codes "]") front))
    ∙ ap (λ x. (x ++ number_text (codes ",\"spiffe_sequence\":") bundle.sequence) ++ codes "}") (sym (append-nil ((old ++ front_text bundle.authorities) ++ codes "]")))
    ∙ rest_text-pieces (old ++ front_text bundle.authorities) None bundle.sequence
    ∙ append_assoc old (front_text bundle.authorities) (rest_text None bundle.sequence)
    ∙ ap (λ hint. old ++ (front_text bundle.authorities ++ rest_text hint bundle.sequence)) (sym none)
    ∙ ap (λ x. old ++ x) (sym (text_of-pieces bundle))

-- the text before the first entry, and the entries
pub texts_begun : (old : List ℕ) (xs : List Authority) → (old ++ codes "{\"keys\":[") ++ entry_texts false xs ≡ old ++ front_text xs
unfolding front_text
texts_begun old xs = append_assoc old (codes "{\"keys\":[") (entry_texts false xs)
