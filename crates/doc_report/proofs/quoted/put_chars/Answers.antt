use Rattle.std.proofs.Common.{◌≡◌, ◌≤◌, ◌++◌, length, ap, ◌∙◌, arith}
use Rattle.std.specs.Prelude.{chars, flat_map}
use Rattle.std.proofs.lemmas.Iterator.{YieldsList-from_chars}
use Rattle.std.proofs.lemmas.Iterator.Consumers.{YieldsList-turn, YieldsList-end}
use Rattle.std.proofs.lemmas.List.{length_push}
use Rattle.doc_report.specs.Quoted.{char_text}
use Rattle.doc_report.proofs.Pieces.{one_more_text, not_within, is_within, whole_front}
use Rattle.doc_report.proofs.quoted.put_chars.Goals as goal

pub returns-then-shown-eq-MAX_SHOWN : goal.returns-then-shown-eq-MAX_SHOWN
returns-then-shown-eq-MAX_SHOWN c =
    let t = YieldsList-turn (YieldsList-from_chars c.args.text.now c.utf8.text cc) c.loop-c.yielded _ c.loop-c.yielded_by _ _ c.in-Some.c c.in-Some.is c.next.ensures.steps in
    (rw (c.if-shown-eq-MAX_SHOWN.true) at c.loop-c.invariant.put, not_within _ _ (omega (arith, t.0, c.loop-c.invariant.counted)))

pub loop-c-preserved : goal.loop-c-preserved
loop-c-preserved c =
    let t = YieldsList-turn (YieldsList-from_chars c.args.text.now c.utf8.text cc) c.loop-c.yielded _ c.loop-c.yielded_by _ _ c.in-Some.c c.in-Some.is c.next.ensures.steps in
    let counted : c.loop-c.shown ≡ length c.loop-c.yielded = c.loop-c.invariant.counted in
    let here = rw (← counted) at t.1 in
    record {
      counted = omega (arith, length_push c.loop-c.yielded c.in-Some.c);
      few = omega (arith, c.loop-c.invariant.few, c.if-shown-eq-MAX_SHOWN.false);
      put = one_more_text char_text _ _ _ (chars c.args.text.now) c.loop-c.shown c.in-Some.c (omega (arith, t.0)) here c.loop-c.invariant.put c.in_ok-put_char.ensures;
    }

pub returns : goal.returns
returns c =
    let t = YieldsList-end (YieldsList-from_chars c.args.text.now c.utf8.text cc) c.loop-c.yielded _ c.loop-c.yielded_by _ _ c.in-None.is c.next.ensures.steps in
    let all : c.loop-c.shown ≡ length (chars c.args.text.now) = c.loop-c.invariant.counted ∙ t.1 in
    let few : c.loop-c.shown ≤ 64 = c.loop-c.invariant.few in
    (c.loop-c.invariant.put ∙ ap (λ cs. c.args.out.now.items ++ flat_map char_text cs) (whole_front _ _ 64 all few), is_within _ _ (omega arith))
