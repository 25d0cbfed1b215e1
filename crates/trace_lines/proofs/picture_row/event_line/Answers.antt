use Rattle.std.proofs.Common.{◌≡◌, ℕ, List, ◌+◌, ◌*◌, ◌/◌, ◌++◌, arith, ap, sym, ◌∙◌, append_assoc}
use Rattle.std.specs.Prelude.{codes}
use Rattle.std.specs.List.{flat_map, range_with_len}
use Rattle.trace_lines.specs.Picture.{tick}
use Rattle.trace_lines.proofs.Pictures.{flat_more, events_are}
use Rattle.trace_lines.proofs.picture_row.event_line.Goals as goal

pub loop-tick-preserved : goal.loop-tick-preserved
loop-tick-preserved c =
    let so = c.loop-tick.invariant in
    let text : ℕ → List ℕ = λ k. tick (c.args.from + 10 * k) in (
      c.put_tick.ensures.items ∙ ap (λ t. t ++ text c.loop-tick.tick) so.0
          ∙ append_assoc (codes "event    ") (flat_map text (range_with_len 0 c.loop-tick.tick)) (text c.loop-tick.tick)
          ∙ ap (λ t. codes "event    " ++ t) (sym (flat_more text c.loop-tick.tick)),
      omega (arith, c.put_tick.ensures.few, so.1),
    )

pub returns : goal.returns
returns c =
    let so = c.loop-tick.invariant in
    let text : ℕ → List ℕ = λ k. tick (c.args.from + 10 * k) in
    let e : c.loop-tick.tick ≡ (c.args.width + 9) / 10 = omega (arith, c.loop-tick-test.false, c.loop-tick.auto.tick-end) in
    so.0 ∙ ap (λ n. codes "event    " ++ flat_map text (range_with_len 0 n)) e ∙ events_are c.args.from c.args.width
