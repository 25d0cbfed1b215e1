use Rattle.std.proofs.Common.{cond, Some, sym, ap, ◌∙◌}
use Rattle.std.specs.Cmp.Lexicographic.{texts_ties}
use Rattle.spiffe_doc.specs.Private.EntrySet.{place_of_kid}
use Rattle.spiffe_doc.proofs.entry_set.put_kid.Goals as goal

pub returns-in-Ok : goal.returns-in-Ok
returns-in-Ok g c = λ other.
    c.in-Ok.ensures.updates.0 other
    ∙ ap (λ b. cond b (Some c.args.at) (place_of_kid c.args.kids.now other)) (sym (texts_ties c.args.kid other))
