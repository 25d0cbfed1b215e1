-- A get that is answered to a viewer, by what its answers say.
use Rattle.std.proofs.Common.{Option, Some, None}
use Rattle.std.specs.Prelude.{Result, Ok, Err}
use Rattle.spiffe_doc.specs.Authority.{BundleValue}
use Rattle.map_core.specs.declared.reply.Reply.{Reply}
use Rattle.map_core.specs.declared.reply.Reply.TheVariants.{Found}
use Rattle.map_core.specs.Ask.{ShowsGet}

-- what each answer says, the get says
pub shows_as : {V E : Type 0} (notes : V → BundleValue → V → Type 0) (P Q : Result Reply E → Type 0) (old : V) (result : Result (Option Reply) E) (new : V) → ((answer : Result Reply E) → P answer → Q answer)
    → ShowsGet notes P old result new → ShowsGet notes Q old result new
shows_as notes P Q old (Ok (Some reply)) new says shows = (says (Ok reply) shows.0, shows.1)
shows_as notes P Q old (Ok None) new says shows = (shows.0, says (Ok (Found shows.0)) shows.1, shows.2)
shows_as notes P Q old (Err e) new says shows = (says (Err e) shows.0, shows.1)
