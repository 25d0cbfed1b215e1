use Rattle.std.proofs.Common.{rules, ◌≡◌, refl, List, ℕ, [], ◌∷◌, Err, subst}
use Rattle.std.specs.Io.KnownBytes.{Appends}
use Rattle.client.proofs.Requests.{greeting_bytes, not_greeted, other_greeting}
use Rattle.client.proofs.exchange.greet.Goals as goal

abbrev bytes : List ℕ
bytes = 0 ∷ 0 ∷ 0 ∷ 2 ∷ 86 ∷ 3 ∷ []

pub returns-in_err-payload-clause-err : goal.returns-in_err-payload-clause-err
returns-in_err-payload-clause-err g c =
    let error = c.in_err-payload.field-0.0 in
    let is : c.from_residual.result ≡ Err error = search rules in
    rw is (not_greeted error bytes _ _ _ _ refl c.in_err-payload.ensures.err)

pub returns-then-is_version-clause-asks : goal.returns-then-is_version-clause-asks
returns-then-is_version-clause-asks g c = subst (Appends _ _) greeting_bytes c.in_ok-payload.ensures.asks

pub returns-else-is_version-clause-err : goal.returns-else-is_version-clause-err
returns-else-is_version-clause-err g c =
    let told = c.in_ok-payload.ensures.tells in
    other_greeting c.in_ok-payload.payload.now _ _ _ _ (subst (Appends _ _) greeting_bytes c.in_ok-payload.ensures.asks) told.1 told.0 (c.is_version.ensures.no c.if-is_version.false)
