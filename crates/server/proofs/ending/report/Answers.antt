use Rattle.std.proofs.Common.{◌≡◌, ℕ, List, [], ◌++◌, ◌&&◌, Bool, false, Ok, Err, refl, ap, subst, ◌∙◌}
use Rattle.std.specs.Prelude.{min, if◌then◌else◌}
use Rattle.server.specs.declared.lines.ServerLine.TheVariants.{Served, Domains}
use Rattle.workers.specs.declared.ended.Worked.{Worked}
use Rattle.server.specs.Serve.{IsOffered, said_line, write_fault, begun_by, have_all_come, session_lines, faults_by}
use Rattle.wire.specs.Output.{TellsUnlessFailed, end_of}
use Rattle.wire.proofs.OutputLemmas.{told_more}
use Rattle.server.proofs.ReportLemmas.{all_four, not_all}
use Rattle.server.proofs.ending.report.Goals as goal

pub returns-in-Ok : goal.returns-in-Ok
returns-in-Ok g c =
    let worked = c.args.done.worked.items in
    let taken = c.say-served_taken.result in
    let said = c.say-domains_taken.result in
    let line = c.save-saved.ensures.0 in
    let start = end_of g.W.Write.contents c.args.out.now in
    let between = end_of g.W.Write.contents c.say-served_taken.new.out in
    let count : c.count_begun.result ≡ min (begun_by worked) 18446744073709551615 =
    c.count_begun.ensures ∙ ap (λ (ws : List Worked). min (begun_by ws) 18446744073709551615) c.as_slice.ensures.value in
    let tells = subst (λ (ws : List Worked). TellsUnlessFailed c.args.before (end_of g.E.Write.contents c.say-served_taken.new.err) (end_of g.E.Write.contents c.tell_faults-have_come.new.err) (session_lines (faults_by ws)))
    c.as_slice-2.ensures.value c.tell_faults-have_come.ensures.tells in
    let came = c.tell_faults-have_come.ensures.came ∙ ap (λ (ws : List Worked). have_all_come ws) c.as_slice-2.ensures.value in
    record {
      served_taken = taken;
      between = between;
      served = subst (λ (n : ℕ). IsOffered taken (said_line (Served n)) start between) count c.say-served_taken.ensures.offered;
      closed = Ok c.in-Ok.contents;
      closes = c.in-Ok.ensures;
      saved = c.save-saved.result;
      save_line = c.save-saved.ensures.0;
      saves = c.save-saved.ensures.1;
      domains_taken = said;
      domains = subst (λ (n : ℕ). IsOffered said (said_line (Domains n)) between (end_of g.W.Write.contents c.say-domains_taken.new.out)) c.len.ensures c.say-domains_taken.ensures.offered;
      tells = told_more c.args.before _ _ _ (write_fault taken) (session_lines (faults_by worked) ++ (line ++ write_fault said)) c.requires.count c.say-served_taken.ensures.tells
          (told_more c.args.before _ _ _ (session_lines (faults_by worked)) (line ++ write_fault said) c.requires.count tells
          (told_more c.args.before _ _ _ line (write_fault said) c.requires.count c.save-saved.ensures.2 c.say-domains_taken.ensures.tells));
      has_status = c.status_of.ensures
          ∙ ap (λ (b : Bool). if ((taken && b) && c.save-saved.result) && said then 0 else 1) came
          ∙ ap (λ (b : Bool). if b then 0 else 1) (all_four taken (have_all_come worked) c.save-saved.result said);
    }

pub returns-in-Err : goal.returns-in-Err
returns-in-Err g c =
    let worked = c.args.done.worked.items in
    let taken = c.say-served_taken.result in
    let start = end_of g.W.Write.contents c.args.out.now in
    let between = end_of g.W.Write.contents c.say-served_taken.new.out in
    let count : c.count_begun.result ≡ min (begun_by worked) 18446744073709551615 =
    c.count_begun.ensures ∙ ap (λ (ws : List Worked). min (begun_by ws) 18446744073709551615) c.as_slice.ensures.value in
    let tells = subst (λ (ws : List Worked). TellsUnlessFailed c.args.before (end_of g.E.Write.contents c.say-served_taken.new.err) (end_of g.E.Write.contents c.tell_faults-have_come.new.err) (session_lines (faults_by ws)))
    c.as_slice-2.ensures.value c.tell_faults-have_come.ensures.tells in
    record {
      served_taken = taken;
      between = between;
      served = subst (λ (n : ℕ). IsOffered taken (said_line (Served n)) start between) count c.say-served_taken.ensures.offered;
      closed = Err c.in-Err.error;
      closes = c.in-Err.ensures;
      saved = false;
      save_line = [];
      saves = (refl, refl);
      domains_taken = false;
      domains = (refl, refl);
      tells = told_more c.args.before _ _ _ (write_fault taken) _ c.requires.count c.say-served_taken.ensures.tells
          (told_more c.args.before _ _ _ (session_lines (faults_by worked)) _ c.requires.count tells c.tell_unless_failed.ensures);
      has_status = not_all taken (have_all_come worked);
    }
