use Rattle.std.proofs.Common.{◌+◌, length, sym, ap, ◌∙◌, arith}
use Rattle.std.specs.List.{slice_split}
use Rattle.spiffe_doc.specs.Id.{is_slash, is_segment, first_bad}
use Rattle.spiffe_doc.proofs.IdLemmas.{first_bad-stops, first_bad-next, first_bad-last, after_shorter}
use Rattle.spiffe_doc.proofs.id.first_bad.Goals as goal

pub returns-then-not-is_segment : goal.returns-then-not-is_segment
returns-then-not-is_segment c =
    let bad = ap is_segment (sym c.before_slash.ensures) ∙ sym c.is_segment.ensures ∙ c.if-not-is_segment.true in
    sym (c.segments.invariant.0 ∙ first_bad-stops c.segments.place c.segments.rest.now bad)

pub returns-in_default : goal.returns-in_default
returns-in_default c =
    let good = ap is_segment (sym c.before_slash.ensures) ∙ sym c.is_segment.ensures ∙ c.if-not-is_segment.false in
    sym (c.segments.invariant.0 ∙ first_bad-last c.segments.place c.segments.rest.now good c.in_default.ensures)

pub segments-preserved : goal.segments-preserved
segments-preserved c =
    let good = ap is_segment (sym c.before_slash.ensures) ∙ sym c.is_segment.ensures ∙ c.if-not-is_segment.false in
    let slash = c.in-Some.ensures.0 in
    let after = c.in-Some.ensures.1 in
    let shorter = after_shorter c.segments.rest.now slash in
    let len = ap length after in (
      c.segments.invariant.0 ∙ first_bad-next c.segments.place c.segments.rest.now good slash ∙ ap (λ bytes. first_bad (c.segments.place + 1) (slice_split is_slash bytes)) (sym after),
      omega (arith, len, shorter, c.segments.invariant.1),
    )
