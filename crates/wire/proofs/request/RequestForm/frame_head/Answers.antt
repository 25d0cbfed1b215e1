use Rattle.std.proofs.Common.{◌≡◌, ℕ, ◌<◌, ◌≤◌, List, MatchOption, ◌∷◌, [], ◌++◌, length, ap, ◌∙◌, arith, append-nil, subst}
use Rattle.wire.specs.Frame.{frame, most_payload}
use Rattle.wire.specs.Fields.{expect_bytes, version_number}
use Rattle.wire.specs.RequestForm.{named}
use Rattle.wire.proofs.Heads.{fetch_frame, stats_frame, speak_frame}
use Rattle.wire.proofs.request.RequestForm.frame_head.Goals as goal

pub returns-in-SetIf-clause-head : goal.returns-in-SetIf-clause-head
returns-in-SetIf-clause-head c =
    let same : c.as_slice.result.now ≡ expect_bytes c.in-SetIf.expect = c.as_slice.ensures.value ∙ c.expect_bytes.ensures.value in
    let name = c.in-SetIf.name.now in
    let text = c.in-SetIf.document.now in
    rw c.in-SetIf.is (subst (λ (m : List ℕ). MatchOption c.named_head-in-SetIf.result ((length name < 256) × (length (67 ∷ named name ++ (m ++ text)) ≤ most_payload) → ⊥) (λ head. ((length name < 256) × (length (67 ∷ named name ++ (m ++ text)) ≤ most_payload)) × (head.items ++ text ≡ frame (67 ∷ named name ++ (m ++ text))))) same c.named_head-in-SetIf.ensures.head)

pub returns-in-Fetch-clause-head : goal.returns-in-Fetch-clause-head
returns-in-Fetch-clause-head c = rw c.in-Fetch.is ((omega arith, omega arith), append-nil c.head_of.result.items ∙ c.head_of.ensures ∙ fetch_frame)

pub returns-in-Stats-clause-head : goal.returns-in-Stats-clause-head
returns-in-Stats-clause-head c = rw c.in-Stats.is ((omega arith, omega arith), append-nil c.head_of-in-Stats.result.items ∙ c.head_of-in-Stats.ensures ∙ stats_frame)

pub returns-in-FetchUnless-clause-head : goal.returns-in-FetchUnless-clause-head
returns-in-FetchUnless-clause-head c =
    let long = c.digest_head.ensures.long in
    rw c.in-FetchUnless.is ((omega arith, omega (arith, long)), append-nil c.digest_head.result.items ∙ c.digest_head.ensures.whole)

pub returns-in-Speak-clause-head : goal.returns-in-Speak-clause-head
returns-in-Speak-clause-head c = rw c.in-Speak.is ((omega arith, omega arith), append-nil c.head_of-in-Speak.result.items ∙ c.head_of-in-Speak.ensures ∙ ap (λ n. 0 ∷ 0 ∷ 0 ∷ 2 ∷ 86 ∷ n ∷ []) c.number.ensures ∙ speak_frame (version_number c.in-Speak.version))
