use Rattle.std.proofs.Common.{sym, ap, ◌∙◌}
use Rattle.std.specs.Prelude.{option_copied}
use Rattle.spiffe_doc.proofs.MatchingLemmas.{after_quote-none, after_quote-some}
use Rattle.spiffe_doc.proofs.rest.Rest.after_quote.Goals as goal

pub returns-in-Some : goal.returns-in-Some
returns-in-Some c = after_quote-some c.in-Some.text.now _ _ (sym c.self.view_is ∙ ap option_copied c.in-Some.is) c.behind_quote.ensures

pub returns-in-None : goal.returns-in-None
returns-in-None c = after_quote-none _ (sym c.self.view_is ∙ ap option_copied c.in-None.is)
