use Rattle.std.proofs.Common.{rules, ◌≡◌, ◌≢◌, List, ℕ, [], ◌∷◌, length, map, Bor, refl, inl, inr, subst, arith, Option, Some, None, option_map, string_bytes}
use Rattle.commands.specs.Ask.{Asks, AsksWords, ServerEnds}
use Rattle.commands.specs.Encode.{of_files}
use Rattle.commands.specs.Streams.{Streams}
use Rattle.client.specs.declared.asking.Asking.{Asking}
use Rattle.commands.specs.declared.fault.Fault.TheVariants.{Server}
use Rattle.commands.specs.declared.fault.ServerFault.TheVariants.{NoConnection}
use Rattle.bundled.specs.Ask.{AsksAll, IsKnown, asking}
use Rattle.bundled.proofs.asking.ask_server.Goals as goal

all_lines : (how : Asking) (words : List (List ℕ)) (status : ℕ) (old new : Streams) (server_old server_new : ServerEnds) → words ≡ [] → Asks of_files how status old new server_old server_new → AsksAll how words status old new server_old server_new
all_lines how [] status old new server_old server_new none asks = asks
all_lines how (word ∷ words) status old new server_old server_new none asks = absurd (cc none)

all_words : (how : Asking) (words : List (List ℕ)) (status : ℕ) (old new : Streams) (server_old server_new : ServerEnds) → words ≢ [] → new.input ≡ old.input
    → AsksWords of_files how words status old.output new.output old.error new.error server_old server_new → AsksAll how words status old new server_old server_new
all_words how [] status old new server_old server_new some same asks = absurd (some refl)
all_words how (word ∷ words) status old new server_old server_new some same asks = (same, asks)

empty : (words : List (Bor (List ℕ))) → length words ≡ 0 → map (λ (word : Bor (List ℕ)). word.now) words ≡ []
empty [] none = refl
empty (word ∷ words) none = absurd (omega (arith, none))

some_words : (words : List (Bor (List ℕ))) → (length words ≡ 0 → ⊥) → map (λ (word : Bor (List ℕ)). word.now) words ≢ []
some_words [] some = absurd (some refl)
some_words (word ∷ words) some = λ none. cc none

pub returns-in_default : goal.returns-in_default
returns-in_default g c = inl (Server NoConnection, inr refl, (c.tell-in_default.ensures.status, refl, refl, c.tell-in_default.ensures.tells))

pub returns-in-Some : goal.returns-in-Some
returns-in-Some g c =
    let known = subst (λ o. IsKnown c.args.wanted.now.unless (option_map string_bytes o)) c.in-Some.is c.in-Ok.ensures.ok in
    let asks = rw c.as_str.ensures.value at c.ask_words_over.ensures in
    inr (Some (string_bytes c.in-Some.digest), known, _, _, (refl, rw c.form_of.ensures at asks))

pub returns-then-is_empty : goal.returns-then-is_empty
returns-then-is_empty g c =
    let items = c.args.wanted.now.words.items in
    let none : length items ≡ 0 = search rules in
    let known = subst (λ o. IsKnown c.args.wanted.now.unless (option_map string_bytes o)) c.in_default-known.is c.in-Ok.ensures.ok in
    inr (None, known, _, _, all_lines (asking c.args.wanted.now) (map (λ (word : Bor (List ℕ)). word.now) items) c.ask_over.result _ _ _ _ (empty items none) (rw c.form_of.ensures at c.ask_over.ensures))

pub returns : goal.returns
returns g c =
    let items = c.args.wanted.now.words.items in
    let some : length items ≡ 0 → ⊥ = search rules in
    let known = subst (λ o. IsKnown c.args.wanted.now.unless (option_map string_bytes o)) c.in_default-known.is c.in-Ok.ensures.ok in
    let asks = rw c.as_slice-words.ensures.value at c.ask_words_over-else-is_empty.ensures in
    inr (None, known, _, _, all_words (asking c.args.wanted.now) (map (λ (word : Bor (List ℕ)). word.now) items) c.ask_words_over-else-is_empty.result _ _ _ _ (some_words items some) refl (rw c.form_of.ensures at asks))
