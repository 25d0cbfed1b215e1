use Rattle.std.proofs.Common.{sym, ap, ◌∙◌}
use Rattle.std.specs.Prelude.{option_copied}
use Rattle.spiffe_doc.proofs.MatchingLemmas.{strip-prefix, after-none, after-some}
use Rattle.spiffe_doc.proofs.rest.Rest.literal.Goals as goal

pub returns-in-Some : goal.returns-in-Some
returns-in-Some c =
    after-some c.args.piece.now c.in-Some.text.now _ _ (sym c.self.view_is ∙ ap option_copied c.in-Some.is) (strip-prefix _ _ _ c.strip_prefix.ensures.cases)

pub returns-in-None : goal.returns-in-None
returns-in-None c = after-none c.args.piece.now _ (sym c.self.view_is ∙ ap option_copied c.in-None.is)
