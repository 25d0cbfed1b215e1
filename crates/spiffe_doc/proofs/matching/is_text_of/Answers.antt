use Rattle.std.proofs.Common.{ap, ◌∙◌}
use Rattle.spiffe_doc.specs.Text.{entry_text}
use Rattle.spiffe_doc.specs.Private.Matching.{after, is_whole}
use Rattle.spiffe_doc.proofs.MatchingLemmas.{is_whole-strip}
use Rattle.spiffe_doc.proofs.matching.is_text_of.Goals as goal

pub returns : goal.returns
unfolding after
returns c = c.is_whole.ensures ∙ ap is_whole c.after_entry.ensures ∙ is_whole-strip (entry_text c.args.authority.now) c.args.text.now
