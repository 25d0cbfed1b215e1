use Rattle.std.proofs.Common.{◌≡◌, bytes_eq, ◌||◌, Bool, true, false, cond, refl, sym, ap, ◌∙◌}
use Rattle.std.specs.Cmp.Lexicographic.{texts_ties}
use Rattle.spiffe_doc.specs.Private.EntrySet.{has}
use Rattle.spiffe_doc.proofs.entry_set.put_text.Goals as goal

cond_or : (b c : Bool) → cond b true c ≡ (b || c)
cond_or true c = refl
cond_or false c = refl

pub returns : goal.returns
returns g c = λ other.
    c.in_ok-insert.ensures.updates.0 other
    ∙ ap (λ b. cond b true (has c.args.set.now other)) (sym (texts_ties c.args.text other))
    ∙ cond_or (bytes_eq c.args.text other) (has c.args.set.now other)
