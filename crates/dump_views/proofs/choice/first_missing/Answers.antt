use Rattle.std.proofs.Common.{◌<◌, [], ap, ◌∙◌, arith}
use Rattle.std.proofs.lemmas.List.{get_or_default}
use Rattle.dump_views.specs.Choice.{is_named, names_of}
use Rattle.dump_views.proofs.choice.first_missing.Goals as goal

pub returns-clause-none : goal.returns-clause-none
returns-clause-none c = λ k d inside.
    let before : k < c.loop-place.place = omega (arith, inside) in
    ap (is_named (names_of c.args.domains.now)) (get_or_default c.args.names.now k d [] inside) ∙ c.loop-place.invariant k before
