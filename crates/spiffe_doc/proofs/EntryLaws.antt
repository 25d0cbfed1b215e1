-- An entry is judged to be just what becomes of it.
use Rattle.std.proofs.Common.{◌≡◌, ℕ, List, codes, true, Option, Some, None, Result, Ok, Err, refl, sym, ap, ◌∙◌, inl, inr}
use Rattle.std.specs.Prelude.{option_map, is_some}
use Rattle.std.specs.Option.{ok_or}
use Rattle.std.proofs.lemmas.Bool.{cases_Bool}
use Rattle.serde_json.specs.Data.{Data, null, boolean, number, object, array, string}
use Rattle.serde_json.specs.Find.{as_object}
use Rattle.spiffe_doc.specs.declared.key.PublicKey.{PublicKey}
use Rattle.spiffe_doc.specs.declared.key.PublicKey.TheVariants.{Ec, Rsa}
use Rattle.spiffe_doc.specs.declared.authority.Authority.{Authority}
use Rattle.spiffe_doc.specs.declared.authority.Authority.TheVariants.{X509, Jwt}
use Rattle.spiffe_doc.specs.declared.entry.KeyType.{KeyType}
use Rattle.spiffe_doc.specs.declared.entry.KeyType.TheVariants as types
use Rattle.spiffe_doc.specs.declared.entry.KeyUse.{KeyUse}
use Rattle.spiffe_doc.specs.declared.entry.KeyUse.TheVariants as uses
use Rattle.spiffe_doc.specs.declared.error.DocError.{DocError}
use Rattle.spiffe_doc.specs.declared.error.DocError.TheVariants.{TooLong, NotJson, NotObject, NoKeys, BadSequence, BadHint, BadEntry, BadKey, BadX5c, BadKid, KidTwice, TooMany, Memory}
use Rattle.spiffe_doc.specs.Answer.{◌>>=◌}
use Rattle.spiffe_doc.specs.Authority.{IsAuthority, IsPublicKey}
use Rattle.spiffe_doc.specs.Text.{entry_tree}
use Rattle.spiffe_doc.specs.Entry.{member_text, HasText, HasKey, GivesAuthority, IsObject, HasKnownType, HasKnownUse, HasOtherCurve, IsIgnored, IsKnown, IsMalformed, IsVerdict, HasOneVerdict}
use Rattle.spiffe_doc.specs.Judgement.{key_type, key_use, key_of, certificate, key_id, authority_for, with_key, known_entry, judge}
use Rattle.spiffe_doc.proofs.Members.{certificate-some, certificate-encoded, certificate-none, key_id-some, key_id-text, key_id-none, use_text, use_of, of_use, of_type, known_type, type_known, known_use, use_known}
use Rattle.spiffe_doc.proofs.Keys.{TellsKey, key_of-HasKey, key_of-other_curve, key_of-tells, key_of-no_key}

-- ---- what is judged becomes of it

-- an object of a known type and use, which has another curve or not
is_known : (place : ℕ) (entry : Data) (kind : KeyType) (role : KeyUse) → IsObject entry → key_type entry ≡ Some kind → key_use entry ≡ Some role → (key_of place kind entry ≡ Ok None → ⊥) → IsKnown entry
is_known place entry kind role is_object kty is_use passes = record {
  object = is_object;
  has_type = known_type entry kind kty;
  has_use = known_use entry role is_use;
  no_other_curve = λ other. passes (key_of-other_curve place entry kind kty other);
}

-- an entry of a valid key
keyed_outcome : (place : ℕ) (entry : Data) (role : KeyUse) (key : PublicKey) → IsKnown entry → IsPublicKey key → HasKey entry key → HasText entry (codes "use") (use_text role)
    → IsVerdict place entry (with_key place role entry (Some key))
unfolding authority_for
keyed_outcome place entry uses.X509 key known valid has use_is = go (certificate entry) refl
  where
    go : (o : Option (List ℕ)) → certificate entry ≡ o → IsVerdict place entry (ok_or (option_map (λ der. X509 key der) o) (BadX5c place) >>= (λ authority. Ok (Some authority)))
    go None is = (refl, known, (key, valid, has), use_is, λ some. cc (sym is ∙ certificate-encoded entry some.0 some.1 some.2))
    go (Some der) is = let p = certificate-some entry der is in ((valid, p.0), (use_is, has, p.1))
keyed_outcome place entry uses.Jwt key known valid has use_is = go (key_id entry) refl
  where
    go : (o : Option (List ℕ)) → key_id entry ≡ o → IsVerdict place entry (ok_or (option_map (λ kid. Jwt kid key) o) (BadKid place) >>= (λ authority. Ok (Some authority)))
    go None is = (refl, known, (key, valid, has), use_is, λ some. cc (sym is ∙ key_id-text entry some.0 some.1 some.2))
    go (Some kid) is = let p = key_id-some entry kid is in ((p.0, valid), (use_is, has, p.1))

known_outcome : (place : ℕ) (entry : Data) → IsObject entry → (t : Option KeyType) (u : Option KeyUse) → key_type entry ≡ t → key_use entry ≡ u → IsVerdict place entry (known_entry place entry t u)
known_outcome place entry is_object None u kty is_use = (is_object, inl (λ has. let p = type_known entry has in cc (sym kty ∙ p.1)))
known_outcome place entry is_object (Some kind) None kty is_use = (is_object, inr (inl (λ has. let p = use_known entry has in cc (sym is_use ∙ p.1))))
known_outcome place entry is_object (Some kind) (Some role) kty is_use = go (key_of place kind entry) refl (key_of-tells place entry kind kty)
  where
    go : (r : Result (Option PublicKey) DocError) → key_of place kind entry ≡ r → TellsKey place entry r → IsVerdict place entry (r >>= with_key place role entry)
    go (Err e) is tells =
        rw tells (
          refl,
          is_known place entry kind role is_object kty is_use (λ passed. cc (sym is ∙ passed)),
          λ some. cc (sym is ∙ key_of-HasKey place entry kind some.0 kty some.1 some.2),
        )
    go (Ok None) is other = (is_object, inr (inr other))
    go (Ok (Some key)) is tells =
        keyed_outcome place entry role key (is_known place entry kind role is_object kty is_use (λ passed. cc (sym is ∙ passed))) tells.0 tells.1 (use_of entry role is_use)

pub judge-IsOutcome : (place : ℕ) (entry : Data) → IsVerdict place entry (judge place entry)
unfolding judge
judge-IsOutcome place entry = elim (cases_Bool (is_some (as_object entry))) [
  | inl is_object ↦ rw is_object (known_outcome place entry is_object (key_type entry) (key_use entry) refl refl)
  | inr other ↦ rw other (refl, λ is_object. cc (sym other ∙ is_object))
]

pub outcome_of : (place : ℕ) (entry : Data) (outcome : Result (Option Authority) DocError) → judge place entry ≡ outcome → IsVerdict place entry outcome
outcome_of place entry outcome h = rw (← h) (judge-IsOutcome place entry)

-- ---- what becomes of it is judged

-- what has a member is an object
object_with : (name : List ℕ) (entry : Data) (text : List ℕ) → member_text name entry ≡ Some text → is_some (as_object entry) ≡ true
object_with name null text h = cc h
object_with name (boolean b) text h = cc h
object_with name (number n) text h = cc h
object_with name (string s) text h = cc h
object_with name (array ds) text h = cc h
object_with name (object ms) text h = refl

-- the judgement of an object of this type and use
judge-known : (place : ℕ) (entry : Data) (kind : KeyType) (role : KeyUse) → IsObject entry → key_type entry ≡ Some kind → key_use entry ≡ Some role
    → judge place entry ≡ (key_of place kind entry >>= with_key place role entry)
unfolding judge
judge-known place entry kind role is_object kty is_use = rw (is_object, kty, is_use) refl

judge-keyed : (place : ℕ) (entry : Data) (kind : KeyType) (role : KeyUse) (key : PublicKey) → IsObject entry → key_type entry ≡ Some kind → key_use entry ≡ Some role → IsPublicKey key → HasKey entry key
    → judge place entry ≡ with_key place role entry (Some key)
judge-keyed place entry kind role key is_object kty is_use valid has =
    judge-known place entry kind role is_object kty is_use ∙ ap (λ r. r >>= with_key place role entry) (key_of-HasKey place entry kind key kty valid has)

type_of_key : (entry : Data) (key : PublicKey) → HasKey entry key → HasKnownType entry
type_of_key entry (Ec key) has = inl has.0.0
type_of_key entry (Rsa key) has = inr has.0

pub GivesAuthority-judge : (place : ℕ) (entry : Data) (a : Authority) → GivesAuthority entry a → judge place entry ≡ Ok (Some a)
unfolding authority_for
GivesAuthority-judge place entry (X509 key der) g =
    let kind = type_known entry (type_of_key entry key g.1.1) in
    judge-keyed place entry kind.0 uses.X509 key (object_with (codes "use") entry _ g.1.0) kind.1 (of_use entry uses.X509 g.1.0) g.0.0 g.1.1
    ∙ rw (certificate-encoded entry der g.0.1 g.1.2) refl
GivesAuthority-judge place entry (Jwt kid key) g =
    let kind = type_known entry (type_of_key entry key g.1.1) in
    judge-keyed place entry kind.0 uses.Jwt key (object_with (codes "use") entry _ g.1.0) kind.1 (of_use entry uses.Jwt g.1.0) g.0.1 g.1.1
    ∙ rw (key_id-text entry kid g.0.0 g.1.2) refl

pub IsPassedOver-judge : (place : ℕ) (entry : Data) → IsIgnored entry → judge place entry ≡ Ok None
unfolding judge
IsPassedOver-judge place entry h = elim h.1 [
  | inl untyped ↦ no_types untyped (key_type entry) refl
  | inr rest ↦ elim rest [
    | inl unused ↦ no_uses unused (key_type entry) (key_use entry) refl refl
    | inr other ↦ curves other (key_use entry) refl
  ]
]
  where
    no_types : ¬ (HasKnownType entry) → (t : Option KeyType) → key_type entry ≡ t → judge place entry ≡ Ok None
    no_types untyped None kty = rw (h.0, kty) refl
    no_types untyped (Some kind) kty = absurd (untyped (known_type entry kind kty))

    no_uses : ¬ (HasKnownUse entry) → (t : Option KeyType) (u : Option KeyUse) → key_type entry ≡ t → key_use entry ≡ u → judge place entry ≡ Ok None
    no_uses unused None u kty is_use = rw (h.0, kty) refl
    no_uses unused (Some kind) None kty is_use = rw (h.0, kty, is_use) refl
    no_uses unused (Some kind) (Some role) kty is_use = absurd (unused (known_use entry role is_use))

    curves : HasOtherCurve entry → (u : Option KeyUse) → key_use entry ≡ u → judge place entry ≡ Ok None
    curves other None is_use = rw (h.0, of_type entry types.Ec other.0, is_use) refl
    curves other (Some role) is_use =
        let kty = of_type entry types.Ec other.0 in
        judge-known place entry types.Ec role h.0 kty is_use ∙ ap (λ r. r >>= with_key place role entry) (key_of-other_curve place entry types.Ec kty other)

pub IsAtFault-judge : (place : ℕ) (entry : Data) (e : DocError) → IsMalformed place entry e → judge place entry ≡ Err e
unfolding judge authority_for
IsAtFault-judge place entry (BadEntry at) h = elim (cases_Bool (is_some (as_object entry))) [
  | inl is_object ↦ absurd (h.1 is_object)
  | inr other ↦ rw other (ap (λ i. Err (BadEntry i)) (sym h.0))
]
IsAtFault-judge place entry (BadKey at) h =
    let kind = type_known entry h.1.has_type in
    let role = use_known entry h.1.has_use in
    judge-known place entry kind.0 role.0 h.1.object kind.1 role.1
    ∙ ap (λ r. r >>= with_key place role.0 entry) (key_of-no_key place entry kind.0 kind.1 h.1.no_other_curve h.2)
    ∙ ap (λ i. Err (BadKey i)) (sym h.0)
IsAtFault-judge place entry (BadX5c at) h =
    let kind = type_known entry h.1.has_type in
    judge-keyed place entry kind.0 uses.X509 h.2.0 h.1.object kind.1 (of_use entry uses.X509 h.3) h.2.1 h.2.2
    ∙ rw (certificate-none entry h.4) (ap (λ i. Err (BadX5c i)) (sym h.0))
IsAtFault-judge place entry (BadKid at) h =
    let kind = type_known entry h.1.has_type in
    judge-keyed place entry kind.0 uses.Jwt h.2.0 h.1.object kind.1 (of_use entry uses.Jwt h.3) h.2.1 h.2.2
    ∙ rw (key_id-none entry h.4) (ap (λ i. Err (BadKid i)) (sym h.0))
IsAtFault-judge place entry TooLong h = absurd h
IsAtFault-judge place entry NotJson h = absurd h
IsAtFault-judge place entry NotObject h = absurd h
IsAtFault-judge place entry NoKeys h = absurd h
IsAtFault-judge place entry BadSequence h = absurd h
IsAtFault-judge place entry BadHint h = absurd h
IsAtFault-judge place entry (KidTwice at) h = absurd h
IsAtFault-judge place entry TooMany h = absurd h
IsAtFault-judge place entry Memory h = absurd h

pub of_outcome : (place : ℕ) (entry : Data) (outcome : Result (Option Authority) DocError) → IsVerdict place entry outcome → judge place entry ≡ outcome
of_outcome place entry (Ok (Some authority)) h = GivesAuthority-judge place entry authority h
of_outcome place entry (Ok None) h = IsPassedOver-judge place entry h
of_outcome place entry (Err e) h = IsAtFault-judge place entry e h

pub one_outcome : (place : ℕ) (entry : Data) → HasOneVerdict place entry
one_outcome place entry = (judge place entry, judge-IsOutcome place entry, λ other h. sym (of_outcome place entry other h))

-- an authority's own entry is judged to give it
pub judge-entry_tree : (place : ℕ) (a : Authority) → IsAuthority a → judge place (entry_tree a) ≡ Ok (Some a)
judge-entry_tree place (X509 (Ec key) der) h = GivesAuthority-judge place (entry_tree (X509 (Ec key) der)) (X509 (Ec key) der) (h, (refl, ((refl, refl), refl, refl), refl))
judge-entry_tree place (X509 (Rsa key) der) h = GivesAuthority-judge place (entry_tree (X509 (Rsa key) der)) (X509 (Rsa key) der) (h, (refl, (refl, refl, refl), refl))
judge-entry_tree place (Jwt kid (Ec key)) h = GivesAuthority-judge place (entry_tree (Jwt kid (Ec key))) (Jwt kid (Ec key)) (h, (refl, ((refl, refl), refl, refl), refl))
judge-entry_tree place (Jwt kid (Rsa key)) h = GivesAuthority-judge place (entry_tree (Jwt kid (Rsa key))) (Jwt kid (Rsa key)) (h, (refl, (refl, refl, refl), refl))
