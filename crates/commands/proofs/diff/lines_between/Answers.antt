use Rattle.std.proofs.Common.{◌≡◌, ℕ, List, [], ◌++◌, Result, Err, refl, ap, subst, ◌∙◌, inr}
use Rattle.commands.specs.declared.fault.Fault.{Fault}
use Rattle.commands.specs.declared.fault.Fault.TheVariants.{Front}
use Rattle.frame_front.specs.Dump.{Domains}
use Rattle.wire.specs.declared.error.FrontError.TheVariants.{Memory, ReadFault, TurnsUsed}
use Rattle.dump_views.specs.Changes.{AreChanges}
use Rattle.dump_views.specs.ChangeLines.{lines_of}
use Rattle.commands.proofs.diff.lines_between.Goals as goal

not_used_up : (memory used : Result (Unit {0}) Fault) → memory ≡ Err (Front Memory) → used ≡ Err (Front TurnsUsed) → memory ≡ used → ⊥
not_used_up memory used is_memory is_used same = cc

not_failed : Front Memory ≡ Front ReadFault → ⊥
not_failed same = cc

-- lines behind nothing
lines_alone : (held old lines : List ℕ) → held ≡ old ++ lines → old ≡ [] → held ≡ lines
lines_alone held old lines is none = is ∙ ap (λ (o : List ℕ). o ++ lines) none

pub returns-in-Ok-put_diff-clause-ok : goal.returns-in-Ok-put_diff-clause-ok
returns-in-Ok-put_diff-clause-ok g c =
    let put = c.in-Ok-put_diff.ensures.ok in
    let changed = subst (λ (olds : Domains). AreChanges olds c.in-Ok-read_domains.domains put.0) c.pairs.ensures
    (subst (λ (news : Domains). AreChanges c.pairs.result.now news put.0) c.pairs-2.ensures put.1) in (
      put.0,
      record {
        olds = c.in-Ok.domains;
        news = c.in-Ok-read_domains.domains;
        old_is_read = c.in-Ok.ensures.ok;
        new_is_read = c.in-Ok-read_domains.ensures.ok;
        changed = changed;
      },
      lines_alone c.put_diff.new.out.items c.new-lines.result.items (lines_of put.0) put.2 c.new-lines.ensures.items,
    )

-- both dumps are read, and there is no memory for the lines
pub returns-clause-err : goal.returns-clause-err
returns-clause-err g c =
    inr (
      c.in-Ok.domains,
      c.in-Ok.ensures.ok,
      record {
        unread = tt;
        reads = (c.in-Ok-read_domains.ensures.reads.0, λ same. absurd (not_used_up _ _ refl refl same));
        failed = λ same. absurd (not_failed same);
      },
    )
