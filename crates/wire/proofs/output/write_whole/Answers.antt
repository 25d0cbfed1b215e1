use Rattle.std.proofs.Common.{◌≡◌, ◌++◌, ◌<◌, take, drop, sym, ap, ◌∙◌, append_assoc, arith}
use Rattle.std.proofs.lemmas.List.{take-append-drop}
use Rattle.std.proofs.KnownBytes.{Appends-trans}
use Rattle.wire.proofs.output.write_whole.Goals as goal

pub loop-rest-preserved : goal.loop-rest-preserved
loop-rest-preserved g c =
    let so_far = c.loop-rest.invariant in
    let rest = c.loop-rest.rest.now in
    let taken = c.in-Ok.taken in
    let some : 0 < taken = omega arith in
    let part : so_far.0 ++ rest ≡ (so_far.0 ++ take taken rest) ++ c.split_at.result.1.now =
    ap (λ r. so_far.0 ++ r) (sym (take-append-drop taken rest)) ∙ sym (append_assoc so_far.0 (take taken rest) (drop taken rest))
    ∙ ap (λ r. (so_far.0 ++ take taken rest) ++ r) (sym c.split_at.ensures.back) in (
      so_far.0 ++ take taken rest,
      so_far.1 ∙ part,
      Appends-trans _ _ _ so_far.0 (take taken rest) so_far.2 c.in-Ok.ensures.bytes,
      c.in-Ok.ensures.quiet some ∙ so_far.3,
    )
