-- What is written of names, bundles and authorities is read again.
use Rattle.std.proofs.Common.{◌≡◌, ◌≤◌, arith, length, ap, ◌∙◌, refl, Result, Ok}
use Rattle.spiffe_doc.specs.Authority.{IsAuthority, BundleValue}
use Rattle.spiffe_doc.specs.declared.authority.Authority.{Authority}
use Rattle.spiffe_doc.specs.Bundle.{IsBundle}
use Rattle.spiffe_doc.specs.Name.{IsName}
use Rattle.spiffe_doc.specs.Text.{entry_text, text_of}
use Rattle.spiffe_doc.proofs.NameLemmas.{IsName-trust_domain}
use Rattle.spiffe_doc.proofs.RoundTrip.{document-text_of, entry-entry_text}
use Rattle.map_core.specs.Name.{Name}
use Rattle.map_core.specs.declared.op.Op.TheVariants as op
use Rattle.map_core.specs.declared.op.Expect.{Expect}
use Rattle.wire.specs.declared.version.Version.{Version}
use Rattle.wire.specs.declared.version.Version.TheVariants.{One, Two, Three}
use Rattle.wire.specs.Fields.{version_number}
use Rattle.wire.specs.declared.judge.Judged.TheVariants.{Ask}
use Rattle.wire.specs.declared.refusal.Refusal.{Refusal}
use Rattle.wire.specs.RequestForm.{Set, SetIf, Append, Remove, Get}
use Rattle.wire.specs.Judge.{◌>>=◌, name_or_refusal, parse_name, bundle_or_refusal, parse_bundle, authority_or_refusal, parse_authority, named_bundle, judged}

pub name_of-name : (name : Name) → IsName name → parse_name name ≡ Ok name
unfolding parse_name
name_of-name name is = ap name_or_refusal (IsName-trust_domain name name refl is)

pub bundle_of-text : (b : BundleValue) → IsBundle b → parse_bundle (text_of b) ≡ Ok b
unfolding parse_bundle
bundle_of-text b is = ap bundle_or_refusal (document-text_of b is)

pub authority_of-text : (a : Authority) → IsAuthority a → length (entry_text a) ≤ 1048576 → parse_authority (entry_text a) ≡ Ok a
unfolding parse_authority
authority_of-text a is fits = ap authority_or_refusal (entry-entry_text a is fits)

pub named_bundle-item : (d : Name) (b : BundleValue) → IsName d → IsBundle b → named_bundle d (text_of b) ≡ Ok (d, b)
unfolding named_bundle
named_bundle-item d b name valid =
    ap (λ (r : Result Name Refusal). r >>= (λ name. parse_bundle (text_of b) >>= (λ bundle. Ok (name, bundle)))) (name_of-name d name)
    ∙ ap (λ (r : Result BundleValue Refusal). r >>= (λ bundle. Ok (d, bundle))) (bundle_of-text b valid)

-- ---- a request of valid parts asks its operation

pub set_asks : (version : Version) (d : Name) (b : BundleValue) → IsName d → IsBundle b → judged version (Set d (text_of b)) ≡ Ok (Ask (op.Set d b))
unfolding judged
set_asks version d b name valid = ap (λ (r : Result (Name × BundleValue) Refusal). r >>= (λ item. Ok (Ask (op.Set item.0 item.1)))) (named_bundle-item d b name valid)

set_if_item : (d : Name) (expect : Expect) (b : BundleValue) → IsName d → IsBundle b
    → (named_bundle d (text_of b) >>= (λ item. Ok (Ask (op.SetIf item.0 expect item.1)))) ≡ Ok (Ask (op.SetIf d expect b))
set_if_item d expect b name valid = ap (λ (r : Result (Name × BundleValue) Refusal). r >>= (λ item. Ok (Ask (op.SetIf item.0 expect item.1)))) (named_bundle-item d b name valid)

pub set_if_asks : (version : Version) (d : Name) (expect : Expect) (b : BundleValue) → 2 ≤ version_number version → IsName d → IsBundle b
    → judged version (SetIf d expect (text_of b)) ≡ Ok (Ask (op.SetIf d expect b))
unfolding judged
set_if_asks One d expect b may name valid = absurd (omega (arith, may))
set_if_asks Two d expect b may name valid = set_if_item d expect b name valid
set_if_asks Three d expect b may name valid = set_if_item d expect b name valid

pub append_asks : (version : Version) (d : Name) (a : Authority) → IsName d → IsAuthority a → length (entry_text a) ≤ 1048576
    → judged version (Append d (entry_text a)) ≡ Ok (Ask (op.Append d a))
unfolding judged
append_asks version d a name is fits =
    ap (λ (r : Result Name Refusal). r >>= (λ name. parse_authority (entry_text a) >>= (λ authority. Ok (Ask (op.Append name authority))))) (name_of-name d name)
    ∙ ap (λ (r : Result Authority Refusal). r >>= (λ authority. Ok (Ask (op.Append d authority)))) (authority_of-text a is fits)

pub remove_asks : (version : Version) (d : Name) → IsName d → judged version (Remove d) ≡ Ok (Ask (op.Remove d))
unfolding judged
remove_asks version d name = ap (λ (r : Result Name Refusal). r >>= (λ n. Ok (Ask (op.Remove n)))) (name_of-name d name)

pub get_asks : (version : Version) (d : Name) → IsName d → judged version (Get d) ≡ Ok (Ask (op.Get d))
unfolding judged
get_asks version d name = ap (λ (r : Result Name Refusal). r >>= (λ n. Ok (Ask (op.Get n)))) (name_of-name d name)
