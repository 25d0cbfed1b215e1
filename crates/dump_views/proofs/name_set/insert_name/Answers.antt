use Rattle.std.proofs.Common.{◌≡◌, bytes_eq, ◌||◌, Bool, true, false, cond, refl, sym, ap, ◌∙◌}
use Rattle.std.specs.Cmp.Lexicographic.{texts_ties}
use Rattle.dump_views.specs.Private.Names.{has}
use Rattle.dump_views.proofs.name_set.insert_name.Goals as goal

cond_or : (b c : Bool) → cond b true c ≡ (b || c)
cond_or true c = refl
cond_or false c = refl

pub returns : goal.returns
returns c = λ other.
    c.in_ok-insert.ensures.updates.0 other
    ∙ ap (λ b. cond b true (has c.args.names.now other)) (sym (texts_ties c.args.name other))
    ∙ cond_or (bytes_eq c.args.name other) (has c.args.names.now other)
