-- Names, alone and before other words.
use Rattle.std.proofs.Common.{◌≡◌, ℕ, ◌<◌, arith, Bool, true, false, nat_lt, List, length, Option, Some, None, refl, ap, subst, ◌∙◌}
use Rattle.std.specs.Prelude.{if◌then◌else◌}
use Rattle.std.proofs.lemmas.Option.{same_Some, none-some}
use Rattle.wire.specs.RequestForm.{IsWord, IsNameWord, ◌then◌}
use Rattle.wire.specs.PayloadReading.{◌>>=◌}
use Rattle.wire.specs.Private.RequestReading.{split_word, unless_split, lone_word, short_name, split_name, lone_name}
use Rattle.wire.proofs.Words.{split_found, split_then, split_alone, split_not}
use Rattle.wire.proofs.Cases.{bind_some}

lone_found : (bytes word : List ℕ) → lone_word bytes ≡ Some word → (bytes ≡ word) × IsWord word
unfolding lone_word
lone_found bytes word is = by (split_word bytes) refl is
  where
    by : (o : Option (List ℕ × List ℕ)) → split_word bytes ≡ o → unless_split bytes o ≡ Some word → (bytes ≡ word) × IsWord word
    by None e h = let same = same_Some bytes word h in (same, subst IsWord same (split_not bytes e))
    by (Some parts) e h = absurd (none-some word h)

lone_alone : (word : List ℕ) → IsWord word → lone_word word ≡ Some word
unfolding lone_word
lone_alone word is = ap (unless_split word) (split_alone word is)

short_found : (word name : List ℕ) → short_name word ≡ Some name → (word ≡ name) × (length name < 256)
unfolding short_name
short_found word name is = by (nat_lt (length word) 256) refl is
  where
    by : (b : Bool) → nat_lt (length word) 256 ≡ b → (if b then Some word else None) ≡ Some name → (word ≡ name) × (length name < 256)
    by true e h = let same = same_Some word name h in (same, subst (λ (w : List ℕ). length w < 256) same (grind (arith, e)))
    by false e h = absurd (none-some name h)

short_read : (name : List ℕ) → length name < 256 → short_name name ≡ Some name
unfolding short_name
short_read name short =
    let lower : nat_lt (length name) 256 ≡ true = grind (arith, short) in
    ap (λ (b : Bool). if b then Some name else None) lower

-- a name and a text
pub name_split_found : (bytes : List ℕ) (parts : List ℕ × List ℕ) → split_name bytes ≡ Some parts → (bytes ≡ parts.0 then parts.1) × IsNameWord parts.0
unfolding split_name
name_split_found bytes parts is =
    let b = bind_some (split_word bytes) (λ words. short_name words.0 >>= λ name. Some (name, words.1)) parts is in
    let d = bind_some (short_name b.0.0) (λ name. Some (name, b.0.1)) parts b.2 in
    let s = split_found bytes b.0 b.1 in
    let n = short_found b.0.0 d.0 d.1 in
    subst (λ (p : List ℕ × List ℕ). (bytes ≡ p.0 then p.1) × IsNameWord p.0) (same_Some (d.0, b.0.1) parts d.2) (s.0 ∙ ap (λ w. w then b.0.1) n.0, (subst IsWord n.0 s.1, n.1))

pub name_split_then : (name rest : List ℕ) → IsNameWord name → split_name (name then rest) ≡ Some (name, rest)
unfolding split_name
name_split_then name rest is =
    ap (λ o. o >>= λ words. short_name words.0 >>= λ word. Some (word, words.1)) (split_then name rest is.0)
    ∙ ap (λ o. o >>= λ word. Some (word, rest)) (short_read name is.1)

pub name_lone_found : (bytes name : List ℕ) → lone_name bytes ≡ Some name → (bytes ≡ name) × IsNameWord name
unfolding lone_name
name_lone_found bytes name is =
    let b = bind_some (lone_word bytes) short_name name is in
    let w = lone_found bytes b.0 b.1 in
    let n = short_found b.0 name b.2 in
    (w.0 ∙ n.0, (subst IsWord n.0 w.1, n.1))

pub name_lone_alone : (name : List ℕ) → IsNameWord name → lone_name name ≡ Some name
unfolding lone_name
name_lone_alone name is = ap (λ o. o >>= short_name) (lone_alone name is.0) ∙ short_read name is.1
