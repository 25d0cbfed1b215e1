-- A get that is answered to a viewer, and asked again.
use Rattle.std.proofs.Common.{◌≡◌, true, true≢false, Option, Some, None, sym}
use Rattle.std.specs.Prelude.{Result, Ok, Err}
use Rattle.spiffe_doc.specs.Authority.{BundleValue}
use Rattle.map_core.specs.declared.reply.Reply.{Reply}
use Rattle.map_core.specs.declared.reply.Reply.TheVariants.{Found}
use Rattle.map_core.specs.declared.reply.AskError.{AskError}
use Rattle.map_core.specs.Ask.{ShowsGet}
use Rattle.workers.specs.Retrying.{is_transient}

module _ {V : Type 0} (notes : V → BundleValue → V → Type 0) (P Q : Result Reply AskError → Type 0) where
  -- what each answer says, the get says; only a transient result has transient answers
  pub shows_last : (old : V) (result : Result (Option Reply) AskError) (new : V) → ((answer : Result Reply AskError) → (is_transient answer ≡ true → is_transient result ≡ true) → P answer → Q answer)
      → ShowsGet notes P old result new → ShowsGet notes Q old result new
  shows_last old (Ok (Some reply)) new says shows = (says (Ok reply) (λ t. absurd (true≢false (sym t))) shows.0, shows.1)
  shows_last old (Ok None) new says shows = (shows.0, says (Ok (Found shows.0)) (λ t. absurd (true≢false (sym t))) shows.1, shows.2)
  shows_last old (Err e) new says shows = (says (Err e) (λ t. t) shows.0, shows.1)

-- a transient answer is an error, and shows nothing
pub passes : {V : Type 0} (notes : V → BundleValue → V → Type 0) (P : Result Reply AskError → Type 0) (old : V) (result : Result (Option Reply) AskError) (new : V) → is_transient result ≡ true → ShowsGet notes P old result new
    → (answer : Result Reply AskError) × (is_transient answer ≡ true) × P answer × (new ≡ old)
passes notes P old (Ok shown) new t shows = absurd (true≢false (sym t))
passes notes P old (Err e) new t shows = (Err e, t, shows.0, shows.1)
