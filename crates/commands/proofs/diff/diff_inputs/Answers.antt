use Rattle.std.proofs.Common.{◌≡◌, arith, ℕ, List, [], ◌∷◌, drop, length, true, not, ◌==◌, refl, ap, ◌∙◌}
use Rattle.std.proofs.lemmas.Bool.Decides.{nat_tests}
use Rattle.map_core.specs.Name.{Name}
use Rattle.dump_views.specs.Changes.{Change, Added, Removed, Changed}
use Rattle.dump_views.specs.ChangeLines.{line_of, lines_of}
use Rattle.commands.specs.Diff.{is_some_change}
use Rattle.commands.proofs.diff.diff_inputs.Goals as goal

more : (byte : ℕ) (bytes : List ℕ) → not (length (byte ∷ bytes) == 0) ≡ true
more byte bytes = grind (arith, nat_tests)

-- each change has a line
told : (changes : List (Name × Change)) → not (length (lines_of changes) == 0) ≡ is_some_change changes
unfolding line_of
told [] = refl
told ((name, Added bundle) ∷ changes) = more 43 (drop 1 (lines_of ((name, Added bundle) ∷ changes)))
told ((name, Removed) ∷ changes) = more 45 (drop 1 (lines_of ((name, Removed) ∷ changes)))
told ((name, Changed old new) ∷ changes) = more 126 (drop 1 (lines_of ((name, Changed old new) ∷ changes)))

pub returns-in-Ok-write_flushed-clause-writes : goal.returns-in-Ok-write_flushed-clause-writes
returns-in-Ok-write_flushed-clause-writes g c =
    let put = c.in-Ok.ensures.ok in
    let lines : c.as_slice-text.result.now ≡ lines_of put.0 = c.as_slice-text.ensures.value ∙ put.2 in
    let some = ap not (c.is_empty.ensures ∙ ap (λ (t : List ℕ). length t == 0) lines) ∙ told put.0 in
    (c.as_slice-text.result.now, (put.0, put.1, some, lines), c.in-Ok-write_flushed.ensures.ok)

pub returns-clause-writes : goal.returns-clause-writes
returns-clause-writes g c =
    let put = c.in-Ok.ensures.ok in
    let lines : c.as_slice-text.result.now ≡ lines_of put.0 = c.as_slice-text.ensures.value ∙ put.2 in
    rw c.in-Err-write_flushed.ensures.fault (c.as_slice-text.result.now, (put.0, put.1, tt, lines), c.in-Err-write_flushed.ensures.front)
