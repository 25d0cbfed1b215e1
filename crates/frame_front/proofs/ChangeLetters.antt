-- The letters of changes are those of the requests that ask an operation other than a read.
use Rattle.std.proofs.Common.{◌≡◌, ℕ, List, get_or, refl, sym, ap, ◌∙◌, subst, Option, Some, None, Result, Ok, Err}
use Rattle.std.specs.Prelude.{◌<◌, Bool, true, false, not}
use Rattle.map_core.specs.Op.{is_read}
use Rattle.map_core.specs.declared.op.Op.{Op}
use Rattle.wire.specs.declared.version.Version.{Version}
use Rattle.wire.specs.declared.version.Version.TheVariants.{One, Two, Three}
use Rattle.wire.specs.declared.judge.Judged.{Judged}
use Rattle.wire.specs.declared.judge.Judged.TheVariants.{Ask, SetVersion, TellCounts}
use Rattle.wire.specs.declared.refusal.Refusal.{Refusal}
use Rattle.wire.specs.RequestForm.{Request, Set, SetIf, Append, Remove, Get, Fetch, FetchUnless, Stats, Speak, payload_of}
use Rattle.wire.specs.PayloadReading.{read_payload}
use Rattle.wire.specs.Judge.{◌>>=◌, parse_name, parse_authority, named_bundle, judged, judged_if, request_of}
use Rattle.wire.proofs.RequestPayloads.{payload_found}
use Rattle.frame_front.specs.Terms.{is_change}

-- whether a request would change the map
changes : Request → Bool
changes (Set name text) = true
changes (SetIf name expect text) = true
changes (Append name text) = true
changes (Remove name) = true
changes request = false

-- its letter tells
letter_tells : (r : Request) → is_change (get_or (payload_of r) 0 0) ≡ changes r
unfolding changes
letter_tells (Set name text) = refl
letter_tells (SetIf name expect text) = refl
letter_tells (Append name text) = refl
letter_tells (Remove name) = refl
letter_tells (Get name) = refl
letter_tells Fetch = refl
letter_tells (FetchUnless known) = refl
letter_tells Stats = refl
letter_tells (Speak version) = refl

-- what is asked, if anything is, is such an operation
abbrev IsSuch : Bool → Result Judged Refusal → Type 0
IsSuch change (Ok (Ask op)) = change ≡ not (is_read op)
IsSuch change (Ok (SetVersion version)) = Unit {0}
IsSuch change (Ok TellCounts) = Unit {0}
IsSuch change (Err refusal) = Unit {0}

such_then : {A : Type 0} (change : Bool) (r : Result A Refusal) (f : A → Result Judged Refusal) → ((x : A) → IsSuch change (f x)) → IsSuch change (r >>= f)
such_then change (Ok x) f next = next x
such_then change (Err refusal) f next = tt

judged_such : (version : Version) (r : Request) → IsSuch (changes r) (judged version r)
unfolding judged changes
judged_such version (Set name text) = such_then true (named_bundle name text) _ (λ item. refl)
judged_such One (SetIf name expect text) = tt
judged_such Two (SetIf name expect text) = such_then true (named_bundle name text) _ (λ item. refl)
judged_such Three (SetIf name expect text) = such_then true (named_bundle name text) _ (λ item. refl)
judged_such version (Append name text) = such_then true (parse_name name) _ (λ domain. such_then true (parse_authority text) _ (λ authority. refl))
judged_such version (Remove name) = such_then true (parse_name name) _ (λ domain. refl)
judged_such version (Get name) = such_then false (parse_name name) _ (λ domain. refl)
judged_such version Fetch = refl
judged_such One (FetchUnless known) = tt
judged_such Two (FetchUnless known) = tt
judged_such Three (FetchUnless known) = refl
judged_such One Stats = tt
judged_such Two Stats = tt
judged_such Three Stats = tt
judged_such version (Speak wanted) = tt

payload_such : (version : Version) (payload : List ℕ) → ((i : ℕ) → get_or payload i 0 < 256) → IsSuch (is_change (get_or payload 0 0)) (request_of version payload)
unfolding request_of
payload_such version payload bytes = by (read_payload payload) refl
  where
    by : (o : Option Request) → read_payload payload ≡ o → IsSuch (is_change (get_or payload 0 0)) (judged_if version o)
    by None is = tt
    by (Some r) is =
        let found = payload_found payload r bytes is in
        subst (λ change. IsSuch change (judged version r)) (sym (ap (λ p. is_change (get_or p 0 0)) found.0 ∙ letter_tells r)) (judged_such version r)

pub change_letters : (version : Version) (payload : List ℕ) (op : Op) → ((i : ℕ) → get_or payload i 0 < 256) → request_of version payload ≡ Ok (Ask op)
    → is_change (get_or payload 0 0) ≡ not (is_read op)
change_letters version payload op bytes is = subst (IsSuch (is_change (get_or payload 0 0))) is (payload_such version payload bytes)
