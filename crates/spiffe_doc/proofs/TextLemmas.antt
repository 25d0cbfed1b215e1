-- The tree of a bundle reads back from its text, and each entry is judged to be its authority.
use Rattle.std.proofs.Common.{◌≡◌, ℕ, suc, ◌<◌, ◌≤◌, ◌==◌, ◌^◌, List, [], ◌∷◌, ◌++◌, append_assoc, append-nil, length, Bool, cond, codes, true, false, Option, Some, None, refl, sym, ap, ◌∙◌, arith, lit≤}
use Rattle.std.specs.Prelude.{IfSome}
use Rattle.json.specs.Tree as json_tree
use Rattle.json.proofs.Printed.Decimals.{IsNumber-decimal}
use Rattle.serde_json.specs.Data.{no_members}
use Rattle.serde_json.specs.Read.{of_json, of_items, max_depth}
use Rattle.serde_json.specs.Written.{outline, items_outline, items_text, members_text, comma_if}
use Rattle.serde_json.proofs.Numbers.{number_of-decimal}
use Rattle.serde_json.proofs.OnLiterals.{serde_json_on_literals}
use Rattle.std.proofs.lemmas.Bool.Decides.{nat_tests}
use Rattle.spiffe_doc.specs.declared.key.PublicKey.TheVariants.{Ec, Rsa}
use Rattle.spiffe_doc.specs.declared.authority.Authority.{Authority}
use Rattle.spiffe_doc.specs.declared.authority.Authority.TheVariants.{X509, Jwt}
use Rattle.spiffe_doc.specs.Authority.{BundleValue}
use Rattle.spiffe_doc.specs.Text.{number_member, entry_tree, entry_text, entry_trees, document_tree, text_of}
use Rattle.spiffe_doc.specs.Private.Writing.{entry_texts, front_text, number_text, rest_text}

-- ---- the tree reads back

pub entry_reads : (a : Authority) → of_json (outline (entry_tree a)) ≡ Some (entry_tree a)
entry_reads (X509 (Ec key) der) = refl
entry_reads (X509 (Rsa key) der) = refl
entry_reads (Jwt kid (Ec key)) = refl
entry_reads (Jwt kid (Rsa key)) = refl

pub entry_numbers : (a : Authority) → json_tree.HasNumbers (outline (entry_tree a))
entry_numbers (X509 (Ec key) der) = (tt, (tt, (tt, (tt, ((tt, tt), (tt, tt))))))
entry_numbers (X509 (Rsa key) der) = (tt, (tt, (tt, (tt, ((tt, tt), tt)))))
entry_numbers (Jwt kid (Ec key)) = (tt, (tt, (tt, (tt, (tt, (tt, tt))))))
entry_numbers (Jwt kid (Rsa key)) = (tt, (tt, (tt, (tt, (tt, tt)))))

pub entry_depth : (a : Authority) → json_tree.depth (outline (entry_tree a)) ≤ 2
entry_depth (X509 (Ec key) der) = lit≤ tt
entry_depth (X509 (Rsa key) der) = lit≤ tt
entry_depth (Jwt kid (Ec key)) = lit≤ tt
entry_depth (Jwt kid (Rsa key)) = lit≤ tt

entries_read : (xs : List Authority) → of_items (items_outline (entry_trees xs)) ≡ Some (entry_trees xs)
entries_read [] = refl
entries_read (a ∷ xs) = rw (entry_reads a, entries_read xs) refl

entries_numbers : (xs : List Authority) → json_tree.ItemsHaveNumbers (items_outline (entry_trees xs))
entries_numbers [] = tt
entries_numbers (a ∷ xs) = (entry_numbers a, entries_numbers xs)

entries_depth : (xs : List Authority) → json_tree.items_depth (items_outline (entry_trees xs)) ≤ 2
entries_depth [] = lit≤ tt
entries_depth (a ∷ xs) = omega (arith, entry_depth a, entries_depth xs)

pub document_reads : (p : BundleValue) → IfSome p.sequence (λ n. n < 2 ^ 64) → IfSome p.refresh_hint (λ n. n < 2 ^ 64) → of_json (outline (document_tree p)) ≡ Some (document_tree p)
document_reads p s h = go p.sequence p.refresh_hint s h
  where
    go : (sequence hint : Option ℕ) → IfSome sequence (λ n. n < 2 ^ 64) → IfSome hint (λ n. n < 2 ^ 64)
        → (let q : BundleValue = record { sequence = sequence; refresh_hint = hint; authorities = p.authorities } in of_json (outline (document_tree q)) ≡ Some (document_tree q))
    go None None s h = rw entries_read refl
    go (Some n) None s h = rw (entries_read, number_of-decimal n s) refl
    go None (Some m) s h = rw (entries_read, number_of-decimal m h) refl
    go (Some n) (Some m) s h = rw (entries_read, number_of-decimal n s, number_of-decimal m h) refl

pub document_numbers : (p : BundleValue) → IfSome p.sequence (λ n. n < 2 ^ 64) → IfSome p.refresh_hint (λ n. n < 2 ^ 64) → json_tree.HasNumbers (outline (document_tree p))
document_numbers p s h = go p.sequence p.refresh_hint s h
  where
    go : (sequence hint : Option ℕ) → IfSome sequence (λ n. n < 2 ^ 64) → IfSome hint (λ n. n < 2 ^ 64)
        → (let q : BundleValue = record { sequence = sequence; refresh_hint = hint; authorities = p.authorities } in json_tree.HasNumbers (outline (document_tree q)))
    go None None s h = (entries_numbers p.authorities, tt)
    go (Some n) None s h = (entries_numbers p.authorities, (IsNumber-decimal n s, tt))
    go None (Some m) s h = (entries_numbers p.authorities, (IsNumber-decimal m h, tt))
    go (Some n) (Some m) s h = (entries_numbers p.authorities, (IsNumber-decimal m h, (IsNumber-decimal n s, tt)))

pub document_depth : (p : BundleValue) → json_tree.depth (outline (document_tree p)) ≤ max_depth
document_depth p = go p.sequence p.refresh_hint
  where
    go : (sequence hint : Option ℕ)
        → (let q : BundleValue = record { sequence = sequence; refresh_hint = hint; authorities = p.authorities } in json_tree.depth (outline (document_tree q)) ≤ max_depth)
    go None None = omega (arith, entries_depth p.authorities)
    go (Some n) None = omega (arith, entries_depth p.authorities)
    go None (Some m) = omega (arith, entries_depth p.authorities)
    go (Some n) (Some m) = omega (arith, entries_depth p.authorities)

-- ---- the text in two pieces

items_text-entry_trees : (later : Bool) (xs : List Authority) → items_text later (entry_trees xs) ≡ entry_texts later xs ++ codes "]"
unfolding entry_text
items_text-entry_trees later [] = refl
items_text-entry_trees later (x ∷ xs) =
    ap (λ text. comma_if later ++ (entry_text x ++ text)) (items_text-entry_trees true xs)
    ∙ ap (λ text. comma_if later ++ text) (sym (append_assoc (entry_text x) (entry_texts true xs) (codes "]")))
    ∙ sym (append_assoc (comma_if later) (entry_text x ++ entry_texts true xs) (codes "]"))

-- what stands behind the entries
members_rest : (hint sequence : Option ℕ)
    → codes "]" ++ members_text true (number_member (codes "spiffe_refresh_hint") hint (number_member (codes "spiffe_sequence") sequence no_members)) ≡ rest_text hint sequence
unfolding rest_text serde_json_on_literals
members_rest None None = refl
members_rest (Some m) None = refl
members_rest None (Some n) = refl
members_rest (Some m) (Some n) = refl

pub text_of-pieces : (bundle : BundleValue) → text_of bundle ≡ front_text bundle.authorities ++ rest_text bundle.refresh_hint bundle.sequence
unfolding text_of front_text serde_json_on_literals
text_of-pieces bundle =
    let numbers = members_text true (number_member (codes "spiffe_refresh_hint") bundle.refresh_hint (number_member (codes "spiffe_sequence") bundle.sequence no_members)) in
    let texts = entry_texts false bundle.authorities in
    ap (λ text. codes "{\"keys\":[" ++ (text ++ numbers)) (items_text-entry_trees false bundle.authorities)
    ∙ ap (λ text. codes "{\"keys\":[" ++ text) (append_assoc texts (codes "]") numbers)
    ∙ ap (λ text. codes "{\"keys\":[" ++ (texts ++ text)) (members_rest bundle.refresh_hint bundle.sequence)

entry_texts-later : (xs : List Authority) (a : Authority) → entry_texts true (xs ++ a ∷ []) ≡ entry_texts true xs ++ 44 ∷ entry_text a
entry_texts-later [] a = ap (λ text. 44 ∷ text) (append-nil (entry_text a))
entry_texts-later (x ∷ xs) a =
    ap (λ text. 44 ∷ (entry_text x ++ text)) (entry_texts-later xs a)
    ∙ ap (λ text. 44 ∷ text) (sym (append_assoc (entry_text x) (entry_texts true xs) (44 ∷ entry_text a)))

pub front_text-nil : front_text [] ≡ codes "{\"keys\":["
unfolding front_text
front_text-nil = refl

-- the same bytes pushed behind the same text
pub pushed_same : (text front : List ℕ) (first none : Bool) (given entry : List ℕ) → text ≡ front → first ≡ none → given ≡ entry
    → text ++ (cond first [] (44 ∷ []) ++ given) ≡ front ++ (cond none [] (44 ∷ []) ++ entry)
pushed_same text front first none given entry texts firsts entries = rw (texts, firsts, entries) refl

some_are : (n : ℕ) → (suc n == 0) ≡ false
some_are n = grind (arith, nat_tests)

-- the rest, piece by piece behind a text
pub rest_text-pieces : (text : List ℕ) (hint sequence : Option ℕ)
    → (((text ++ codes "]") ++ number_text (codes ",\"spiffe_refresh_hint\":") hint) ++ number_text (codes ",\"spiffe_sequence\":") sequence) ++ codes "}"
    ≡ text ++ rest_text hint sequence
unfolding rest_text
rest_text-pieces text hint sequence =
    let hints = number_text (codes ",\"spiffe_refresh_hint\":") hint in
    let sequences = number_text (codes ",\"spiffe_sequence\":") sequence in
    append_assoc ((text ++ codes "]") ++ hints) sequences (codes "}")
    ∙ append_assoc (text ++ codes "]") hints (sequences ++ codes "}")
    ∙ append_assoc text (codes "]") (hints ++ (sequences ++ codes "}"))

-- the text up to the last entry, with one entry more
pub front_text-push : (xs : List Authority) (a : Authority) → front_text (xs ++ a ∷ []) ≡ front_text xs ++ (cond (length xs == 0) [] (44 ∷ []) ++ entry_text a)
unfolding front_text
front_text-push [] a = ap (λ text. codes "{\"keys\":[" ++ text) (append-nil (entry_text a))
front_text-push (x ∷ xs) a = rw (some_are (length xs)) (
    ap (λ text. codes "{\"keys\":[" ++ (entry_text x ++ text)) (entry_texts-later xs a)
    ∙ ap (λ text. codes "{\"keys\":[" ++ text) (sym (append_assoc (entry_text x) (entry_texts true xs) (44 ∷ entry_text a))))
