-- A request is read from its payload, and from no other.
use Rattle.std.proofs.Common.{◌≡◌, inl, inr, ℕ, suc, ◌+◌, ◌<◌, ◌≤◌, ◌^◌, arith, Bool, true, nat_le, List, [], ◌∷◌, ◌++◌, length, take, drop, get_or, Option, Some, None, refl, sym, ap, subst, ◌∙◌, eqb-true, length-append, get_or-take, get_or-drop, append-nil}
use Rattle.std.specs.Prelude.{◌==◌, ◌&&◌, if◌then◌else◌, option_map, IfSome, MatchOption}
use Rattle.std.specs.Int.{w64, to_be_bytes, from_be_bytes}
use Rattle.std.proofs.lemmas.List.{length-take-le, take-append-drop, take_at}
use Rattle.std.proofs.Math.Seq.{drop-append_seam}
use Rattle.std.proofs.lemmas.Nat.{be_bytes_8, from_be_bytes-to_be_bytes_8}
use Rattle.std.proofs.lemmas.Option.{same_Some, none-some}
use Rattle.map_core.specs.declared.op.Expect.{Expect}
use Rattle.map_core.specs.declared.op.Expect.TheVariants.{Absent, Sequence, Unnumbered}
use Rattle.wire.specs.declared.version.Version.{Version}
use Rattle.wire.specs.declared.version.Version.TheVariants.{One, Two, Three}
use Rattle.wire.specs.Fields.{expect_bytes, version_number}
use Rattle.wire.specs.declared.request.RequestForm.{RequestForm}
use Rattle.wire.specs.RequestForm.{Request, Set, SetIf, Append, Remove, Get, Fetch, FetchUnless, Stats, Speak, request, named, payload_of, HasPayload, IsDigest, IsExpect}
use Rattle.wire.specs.PayloadReading.{◌>>=◌, at_end, of_both, split_named, lone_named, split_expect, version_in, digest_in, set_if_in, request_by_letter, read_payload}
use Rattle.wire.proofs.Cases.{bind_some, bind_cases, if_some, map_some, number_cases}
use Rattle.wire.proofs.Numbers.{both}

abbrev pub AreBytes : List ℕ → Type 0
AreBytes bytes = (i : ℕ) → get_or bytes i 0 < 256

-- ---- names

pub named_found : (bytes : List ℕ) (parts : List ℕ × List ℕ) → AreBytes bytes → split_named bytes ≡ Some parts → (bytes ≡ named parts.0 ++ parts.1) × (length parts.0 < 256) × AreBytes parts.1
unfolding split_named
named_found [] parts fits is = absurd (none-some parts is)
named_found (size ∷ bytes) parts fits is = elim (if_some (nat_le size (length bytes)) (Some (take size bytes, drop size bytes)) None parts is) [
  | inl h ↦
      let enough : size ≤ length bytes = grind (arith, h.0) in
      let long = length-take-le size bytes enough in
      subst (λ (p : List ℕ × List ℕ). (size ∷ bytes ≡ named p.0 ++ p.1) × (length p.0 < 256) × AreBytes p.1) (same_Some (take size bytes, drop size bytes) parts h.1)
      ((λ i. sym long i ∷ sym (take-append-drop size bytes) i), omega (arith, long, fits 0), λ i. grind (arith, get_or-drop size bytes i 0, fits (suc (size + i))))
  | inr h ↦ absurd (none-some parts h.1)
]

pub named_read : (name rest : List ℕ) → split_named (named name ++ rest) ≡ Some (name, rest)
unfolding split_named
named_read name rest =
    let enough : nat_le (length name) (length (name ++ rest)) ≡ true = grind (arith, length-append name rest) in
    ap (λ (b : Bool). if b then Some (take (length name) (name ++ rest), drop (length name) (name ++ rest)) else None) enough
    ∙ (λ i. Some (take_at name rest (length name) refl i, drop-append_seam name rest i))

pub end_found : {A : Type 0} (value wanted : A) (bytes : List ℕ) → at_end value bytes ≡ Some wanted → (bytes ≡ []) × (value ≡ wanted)
end_found value wanted [] is = (refl, same_Some value wanted is)
end_found value wanted (byte ∷ bytes) is = absurd (none-some wanted is)

lone_named_found : (bytes name : List ℕ) → AreBytes bytes → lone_named bytes ≡ Some name → (bytes ≡ named name) × (length name < 256)
unfolding lone_named
lone_named_found bytes name fits is =
    let b = bind_some (split_named bytes) (λ parts. at_end parts.0 parts.1) name is in
    let n = named_found bytes b.0 fits b.1 in
    let a = end_found b.0.0 name b.0.1 b.2 in
    subst (λ (m : List ℕ). (bytes ≡ named m) × (length m < 256)) a.1 (n.0 ∙ ap (λ rest. named b.0.0 ++ rest) a.0 ∙ append-nil (named b.0.0), n.1)

lone_named_read : (name : List ℕ) → lone_named (named name) ≡ Some name
unfolding lone_named
lone_named_read name = ap (λ o. o >>= λ parts. at_end parts.0 parts.1) (ap split_named (sym (append-nil (named name))) ∙ named_read name [])

-- ---- expectations

eight_fit : (bytes : List ℕ) → AreBytes bytes → from_be_bytes w64 bytes < 2 ^ 64
eight_fit bytes fits = omega (arith, fits 0, fits 1, fits 2, fits 3, fits 4, fits 5, fits 6, fits 7)

-- what is told of what follows a kind, at a kind that is equal
abbrev Expected : List ℕ → Expect × List ℕ → Type 0
Expected bytes parts = (bytes ≡ expect_bytes parts.0 ++ parts.1) × IsExpect parts.0

sequence_found : (bytes : List ℕ) (parts : Expect × List ℕ) → AreBytes bytes → nat_le 8 (length bytes) ≡ true → ◌≡◌ {A = Option (Expect × List ℕ)} (Some (Sequence (from_be_bytes w64 (take 8 bytes)), drop 8 bytes)) (Some parts) → Expected (1 ∷ bytes) parts
sequence_found bytes parts fits enough is =
    let long = length-take-le 8 bytes (grind (arith, enough)) in
    let small : AreBytes (take 8 bytes) = λ i. grind (arith, get_or-take, fits i) in
    let eight = be_bytes_8 (take 8 bytes) (from_be_bytes w64 (take 8 bytes)) long small refl in
    subst (Expected (1 ∷ bytes)) (same_Some (Sequence (from_be_bytes w64 (take 8 bytes)), drop 8 bytes) parts is)
    ((λ i. 1 ∷ sym (take-append-drop 8 bytes) i) ∙ ap (λ front. 1 ∷ front ++ drop 8 bytes) (sym eight), eight_fit (take 8 bytes) small)

expect_found : (bytes : List ℕ) (parts : Expect × List ℕ) → AreBytes bytes → split_expect bytes ≡ Some parts → Expected bytes parts
unfolding split_expect
expect_found [] parts fits is = absurd (none-some parts is)
expect_found (kind ∷ bytes) parts fits is =
    number_cases kind 0 _ _ parts is (λ k is. at k (subst (Expected (0 ∷ bytes)) (same_Some (Absent, bytes) parts is) (refl, tt))) (λ is. elim (if_some ((kind == 1) && nat_le 8 (length bytes)) _ _ parts is) [
      | inl h ↦ let tests = both (kind == 1) (nat_le 8 (length bytes)) h.0 in at (eqb-true kind 1 tests.0) (sequence_found bytes parts (λ i. fits (suc i)) tests.1 h.1)
      | inr h ↦ number_cases kind 2 _ _ parts h.1 (λ k is. at k (subst (Expected (2 ∷ bytes)) (same_Some (Unnumbered, bytes) parts is) (refl, tt))) (λ is. absurd (none-some parts is))
    ])
  where
    at : {known : ℕ} → kind ≡ known → Expected (known ∷ bytes) parts → Expected (kind ∷ bytes) parts
    at same found = ((λ i. same i ∷ bytes) ∙ found.0, found.1)

expect_read : (e : Expect) (rest : List ℕ) → IsExpect e → split_expect (expect_bytes e ++ rest) ≡ Some (e, rest)
unfolding split_expect
expect_read Absent rest fits = refl
expect_read Unnumbered rest fits = refl
expect_read (Sequence n) rest fits =
    let enough : nat_le 8 (length (to_be_bytes w64 n ++ rest)) ≡ true = grind arith in
    ap (λ (b : Bool). if b then Some (Sequence (from_be_bytes w64 (take 8 (to_be_bytes w64 n ++ rest))), rest) else None) enough
    ∙ ap (λ (m : ℕ). Some (Sequence m, rest)) (from_be_bytes-to_be_bytes_8 n fits)

-- ---- versions

pub version_found : (bytes : List ℕ) (v : Version) → version_in bytes ≡ Some v → bytes ≡ version_number v ∷ []
unfolding version_in
version_found [] v is = absurd (none-some v is)
version_found (number ∷ bytes) v is =
    number_cases number 1 (at_end One bytes) _ v is (λ one is. spelled One one is) (λ is.
    number_cases number 2 (at_end Two bytes) _ v is (λ two is. spelled Two two is) (λ is.
    number_cases number 3 (at_end Three bytes) None v is (λ three is. spelled Three three is) (λ is.
    absurd (none-some v is))))
  where
    spelled : (w : Version) → number ≡ version_number w → at_end w bytes ≡ Some v → number ∷ bytes ≡ version_number v ∷ []
    spelled w same is =
        let end = end_found w v bytes is in
        (λ i. same i ∷ end.0 i) ∙ ap (λ x. version_number x ∷ []) end.1

pub version_read : (v : Version) → version_in (version_number v ∷ []) ≡ Some v
unfolding version_in
version_read One = refl
version_read Two = refl
version_read Three = refl

-- ---- digests

digest_found : (bytes digest : List ℕ) → AreBytes bytes → digest_in bytes ≡ Some digest → (bytes ≡ digest) × IsDigest digest
unfolding digest_in
digest_found bytes digest fits is =
    number_cases (length bytes) 32 (Some bytes) None digest is (λ long is.
    let same = same_Some bytes digest is in
    (same, subst IsDigest same (long, fits))) (λ is.
    absurd (none-some digest is))

digest_read : (digest : List ℕ) → IsDigest digest → digest_in digest ≡ Some digest
unfolding digest_in
digest_read digest is = ap (λ (n : ℕ). if n == 32 then Some digest else None) is.0

-- ---- requests

abbrev Found : ℕ → List ℕ → Request → Type 0
Found letter bytes r = (letter ∷ bytes ≡ payload_of r) × HasPayload r

-- a request that ends with a text
text_found : (letter : ℕ) (form : List ℕ → List ℕ → Request) (bytes : List ℕ) (r : Request) → ((name text : List ℕ) → length name < 256 → Found letter (named name ++ text) (form name text))
    → AreBytes bytes → option_map (of_both form) (split_named bytes) ≡ Some r → Found letter bytes r
text_found letter form bytes r spelled fits is =
    let m = map_some (of_both form) (split_named bytes) r is in
    let n = named_found bytes m.0 fits m.1 in
    let s = spelled m.0.0 m.0.1 n.1 in
    subst (λ (q : Request). Found letter bytes q) m.2 ((λ i. letter ∷ n.0 i) ∙ s.0, s.1)

-- a request of a name only
name_found : (letter : ℕ) (form : List ℕ → Request) (bytes : List ℕ) (r : Request) → ((name : List ℕ) → length name < 256 → Found letter (named name) (form name))
    → AreBytes bytes → option_map form (lone_named bytes) ≡ Some r → Found letter bytes r
name_found letter form bytes r spelled fits is =
    let m = map_some form (lone_named bytes) r is in
    let n = lone_named_found bytes m.0 fits m.1 in
    let s = spelled m.0 n.1 in
    subst (λ (q : Request). Found letter bytes q) m.2 ((λ i. letter ∷ n.0 i) ∙ s.0, s.1)

set_if_found : (bytes : List ℕ) (r : Request) → AreBytes bytes → set_if_in bytes ≡ Some r → Found 67 bytes r
unfolding set_if_in
set_if_found bytes r fits is =
    bind_cases (split_named bytes) _ r is (λ parts split more.
    bind_cases (split_expect parts.1) _ r more (λ expected told is.
    let n = named_found bytes parts fits split in
    let e = expect_found parts.1 expected n.2 told in
    subst (λ (q : Request). Found 67 bytes q) (same_Some (SetIf parts.0 expected.0 expected.1) r is) ((λ i. 67 ∷ n.0 i) ∙ (λ i. 67 ∷ named parts.0 ++ e.0 i), (n.1, e.1))))

fetch_unless_found : (bytes : List ℕ) (r : Request) → AreBytes bytes → option_map FetchUnless (digest_in bytes) ≡ Some r → Found 85 bytes r
fetch_unless_found bytes r fits is =
    let m = map_some FetchUnless (digest_in bytes) r is in
    let d = digest_found bytes m.0 fits m.1 in
    subst (λ (q : Request). Found 85 bytes q) m.2 (λ i. 85 ∷ d.0 i, d.1)

speak_found : (bytes : List ℕ) (r : Request) → option_map Speak (version_in bytes) ≡ Some r → Found 86 bytes r
speak_found bytes r is =
    let m = map_some Speak (version_in bytes) r is in
    let v = version_found bytes m.0 m.1 in
    subst (λ (q : Request). Found 86 bytes q) m.2 (λ i. 86 ∷ v i, tt)

fetch_found : (bytes : List ℕ) (r : Request) → at_end Fetch bytes ≡ Some r → Found 70 bytes r
fetch_found bytes r is =
    let a = end_found Fetch r bytes is in
    subst (λ (q : Request). Found 70 bytes q) a.1 (λ i. 70 ∷ a.0 i, tt)

stats_found : (bytes : List ℕ) (r : Request) → at_end Stats bytes ≡ Some r → Found 77 bytes r
stats_found bytes r is =
    let a = end_found Stats r bytes is in
    subst (λ (q : Request). Found 77 bytes q) a.1 (λ i. 77 ∷ a.0 i, tt)

by_letter_found : (letter : ℕ) (bytes : List ℕ) (r : Request) → AreBytes bytes → request_by_letter letter bytes ≡ Some r → Found letter bytes r
unfolding request_by_letter
by_letter_found letter bytes r fits is =
    number_cases letter 83 _ _ r is (λ l is. at l (text_found 83 Set bytes r (λ name text short. (refl, short)) fits is)) (λ is.
    number_cases letter 65 _ _ r is (λ l is. at l (text_found 65 Append bytes r (λ name text short. (refl, short)) fits is)) (λ is.
    number_cases letter 82 _ _ r is (λ l is. at l (name_found 82 Remove bytes r (λ name short. (refl, short)) fits is)) (λ is.
    number_cases letter 71 _ _ r is (λ l is. at l (name_found 71 Get bytes r (λ name short. (refl, short)) fits is)) (λ is.
    number_cases letter 70 _ _ r is (λ l is. at l (fetch_found bytes r is)) (λ is.
    number_cases letter 85 _ _ r is (λ l is. at l (fetch_unless_found bytes r fits is)) (λ is.
    number_cases letter 77 _ _ r is (λ l is. at l (stats_found bytes r is)) (λ is.
    number_cases letter 86 _ _ r is (λ l is. at l (speak_found bytes r is)) (λ is.
    number_cases letter 67 _ _ r is (λ l is. at l (set_if_found bytes r fits is)) (λ is.
    absurd (none-some r is))))))))))
  where
    at : {known : ℕ} → letter ≡ known → Found known bytes r → Found letter bytes r
    at same found = ((λ i. same i ∷ bytes) ∙ found.0, found.1)

pub payload_found : (payload : List ℕ) (r : Request) → AreBytes payload → read_payload payload ≡ Some r → (payload ≡ payload_of r) × HasPayload r
unfolding read_payload
payload_found [] r fits is = absurd (none-some r is)
payload_found (letter ∷ bytes) r fits is = by_letter_found letter bytes r (λ i. fits (suc i)) is

-- ---- and back

pub payload_read : (r : Request) → HasPayload r → read_payload (payload_of r) ≡ Some r
unfolding read_payload request_by_letter set_if_in
payload_read (Set name text) fits = ap (option_map (of_both Set)) (named_read name text)
payload_read (SetIf name expect text) fits =
    ap (λ o. o >>= λ parts. split_expect parts.1 >>= λ expected. Some (SetIf parts.0 expected.0 expected.1)) (named_read name (expect_bytes expect ++ text))
    ∙ ap (λ o. o >>= λ expected. Some (SetIf name expected.0 expected.1)) (expect_read expect text fits.1)
payload_read (Append name text) fits = ap (option_map (of_both Append)) (named_read name text)
payload_read (Remove name) fits = ap (option_map Remove) (lone_named_read name)
payload_read (Get name) fits = ap (option_map Get) (lone_named_read name)
payload_read Fetch fits = refl
payload_read (FetchUnless known) fits = ap (option_map FetchUnless) (digest_read known fits)
payload_read Stats fits = refl
payload_read (Speak version) fits = ap (option_map Speak) (version_read version)

-- ---- what a reader tells

pub found_is : (payload : List ℕ) (o : Option RequestForm) → AreBytes payload → MatchOption o (read_payload payload ≡ None) (λ form. read_payload payload ≡ Some (request form)) → IfSome o (λ form. (payload ≡ payload_of (request form)) × HasPayload (request form))
found_is payload None fits told = tt
found_is payload (Some form) fits told = payload_found payload (request form) fits told

pub only_is : (payload : List ℕ) (o : Option RequestForm) → MatchOption o (read_payload payload ≡ None) (λ form. read_payload payload ≡ Some (request form)) → (wanted : Request) → HasPayload wanted → payload ≡ payload_of wanted → MatchOption o ⊥ (λ form. request form ≡ wanted)
only_is payload None told wanted has is = none-some wanted (sym told ∙ ap read_payload is ∙ payload_read wanted has)
only_is payload (Some form) told wanted has is = same_Some (request form) wanted (sym told ∙ ap read_payload is ∙ payload_read wanted has)
