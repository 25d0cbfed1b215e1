use Rattle.std.proofs.Common.{◌≡◌, ◌<◌, length, arith, sym, ◌∙◌}
use Rattle.std.proofs.lemmas.Bool.Decides.{nat_tests}
use Rattle.dump_views.specs.Pem.{base64_of, line}
use Rattle.dump_views.proofs.FrontLemmas.{front_more, front_through}
use Rattle.dump_views.proofs.LineLemmas.{line_more, no_more}
use Rattle.dump_views.proofs.pem.put_lines.Goals as goal

pub loop-rest-preserved : goal.loop-rest-preserved
loop-rest-preserved c =
    let told = c.in_ok-put_line.ensures.ok in
    let some : 0 < length c.loop-rest.rest.now = grind (arith, nat_tests) in
    rw told (record {
      begun = front_through _ _ _ c.loop-rest.invariant.begun (front_more c.loop-rest.out.items (line (base64_of c.split_at.result.0.now)));
      so_far = line_more c.loop-rest.out.items c.loop-rest.rest.now c.split_at.result.0.now c.split_at.result.1.now c.min.result some c.min.ensures c.split_at.ensures.front c.split_at.ensures.back ∙ c.loop-rest.invariant.so_far;
    })

pub returns-clause-ok : goal.returns-clause-ok
returns-clause-ok c =
    let none : length c.loop-rest.rest.now ≡ 0 = grind (arith, nat_tests) in
    sym (no_more c.loop-rest.out.items c.loop-rest.rest.now none) ∙ c.loop-rest.invariant.so_far
