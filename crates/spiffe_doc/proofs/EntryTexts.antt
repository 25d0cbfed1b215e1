-- The text of a valid authority gives that authority.
use Rattle.std.proofs.Common.{◌≡◌, ℕ, List, Bool, true, Some, Ok, bytes_eq, sym, ap, ◌∙◌, inl, inr, arith}
use Rattle.std.specs.Prelude.{option_map}
use Rattle.std.specs.Cmp.Lexicographic.{bytes_decides}
use Rattle.std.proofs.lemmas.Bool.{cases_Bool}
use Rattle.serde_json.specs.Data.{Data}
use Rattle.serde_json.specs.Read.{read}
use Rattle.spiffe_doc.specs.declared.authority.Authority.{Authority}
use Rattle.spiffe_doc.specs.Authority.{IsAuthority}
use Rattle.spiffe_doc.specs.Bundle.{is_x509}
use Rattle.spiffe_doc.specs.Equal.{authority_eq}
use Rattle.spiffe_doc.specs.Judgement.{judge}
use Rattle.spiffe_doc.specs.Text.{entry_tree, entry_text}
use Rattle.spiffe_doc.specs.Private.Equality.{authority_decides}
use Rattle.spiffe_doc.specs.Private.Entries.{judged_so, authority_in, IsEntry}
use Rattle.spiffe_doc.proofs.TextLemmas.{entry_reads, entry_numbers, entry_depth}
use Rattle.spiffe_doc.proofs.EntryLaws.{judge-entry_tree}
use Rattle.spiffe_doc.proofs.TreeLemmas.{read-compact_text}

pub entry_text_reads : (a : Authority) → read (entry_text a) ≡ Some (entry_tree a)
unfolding entry_text
entry_text_reads a = read-compact_text (entry_tree a) (entry_reads a) (entry_numbers a) (omega (arith, entry_depth a))

-- what a text's tree is judged to give
pub authority_in-judged : (text : List ℕ) (tree : Data) (a : Authority) → read text ≡ Some tree → judge 0 tree ≡ Ok (Some a) → authority_in text ≡ a
unfolding authority_in
authority_in-judged text tree a reads judged = ap (λ o. judged_so (option_map (judge 0) o)) reads ∙ ap (λ v. judged_so (Some v)) judged

pub authority_in-entry_text : (a : Authority) → IsAuthority a → authority_in (entry_text a) ≡ a
authority_in-entry_text a h = authority_in-judged (entry_text a) (entry_tree a) a (entry_text_reads a) (judge-entry_tree 0 a h)

-- what is read of its text
pub authority_in-is : (text : List ℕ) (a : Authority) → IsAuthority a → text ≡ entry_text a → authority_in text ≡ a
authority_in-is text a h same = ap authority_in same ∙ authority_in-entry_text a h

pub IsEntry-of : (text : List ℕ) (kind : Bool) (a : Authority) → IsAuthority a → text ≡ entry_text a → kind ≡ is_x509 a → IsEntry text kind
IsEntry-of text kind a h same kinds =
    let is = sym (authority_in-is text a h same) in
    record { valid = rw (← is) h; written = same ∙ ap entry_text is; kind_is = kinds ∙ ap is_x509 is }

-- valid authorities of one text are one
pub entry_text-injective : (a b : Authority) → IsAuthority a → IsAuthority b → entry_text a ≡ entry_text b → a ≡ b
entry_text-injective a b is_a is_b same = sym (authority_in-entry_text a is_a) ∙ ap authority_in same ∙ authority_in-entry_text b is_b

-- texts are equal if and only if what they are of is
pub decided_alike : {A : Type 0} (x y : A) (text : A → List ℕ) (test : Bool) → ((test ≡ true) → x ≡ y) × (x ≡ y → (test ≡ true)) → (text x ≡ text y → x ≡ y) → bytes_eq (text x) (text y) ≡ test
decided_alike x y text test decides one = elim (cases_Bool test) [
  | inl same ↦ (bytes_decides _ _).1 (ap text (decides.0 same)) ∙ sym same
  | inr other ↦ elim (cases_Bool (bytes_eq (text x) (text y))) [
    | inl texts ↦ cc (decides.1 (one ((bytes_decides _ _).0 texts)))
    | inr texts ↦ texts ∙ sym other
  ]
]

pub same_text : (a b : Authority) → IsAuthority a → IsAuthority b → bytes_eq (entry_text a) (entry_text b) ≡ authority_eq a b
same_text a b is_a is_b = decided_alike a b entry_text (authority_eq a b) (authority_decides a b) (entry_text-injective a b is_a is_b)
