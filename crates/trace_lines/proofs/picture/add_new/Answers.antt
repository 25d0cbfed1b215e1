use Rattle.std.proofs.Common.{[], ◌∷◌, ◌++◌, arith, sym, ◌∙◌, length-append}
use Rattle.std.proofs.lemmas.List.{take_all}
use Rattle.trace_lines.proofs.Pictures.{take_front}
use Rattle.trace_lines.proofs.picture.add_new.Goals as goal

pub returns-then-len-lt-CALLERS : goal.returns-then-len-lt-CALLERS
returns-then-len-lt-CALLERS c =
    c.push.ensures.items ∙ sym (take_all 16 (c.args.callers.now.items ++ c.args.caller ∷ []) (omega (arith, length-append c.args.callers.now.items (c.args.caller ∷ []), c.len.ensures.value, c.if-len-lt-CALLERS.true)))

pub returns-else-len-lt-CALLERS : goal.returns-else-len-lt-CALLERS
returns-else-len-lt-CALLERS c = sym (take_front 16 c.args.callers.now.items c.args.caller (omega (arith, c.len.ensures.value, c.len.ensures.fits, c.if-len-lt-CALLERS.false)))
