use Rattle.std.proofs.Common.{◌≡◌, ◌++◌, [], refl, ◌∙◌}
use Rattle.std.proofs.KnownBytes.{Appends-trans}
use Rattle.wire.proofs.OutputLemmas.{WritesFront-then, on_ok}
use Rattle.frame_front.proofs.GatheredLemmas.{Takes-whole}
use Rattle.frame_front.proofs.pending.put.Goals as goal

pub returns-clause-ok : goal.returns-clause-ok
returns-clause-ok g c =
    let bytes = c.args.first.now ++ c.args.others.now in
    let ready = rw (c.as_slice.ensures, c.if-put_fitting.ensures.same refl) at c.in_ok-write_whole.ensures.ok in
    let none : c.put_fitting-2.new.ready.items ≡ [] = c.if-put_fitting-2.ensures.same refl ∙ c.clear.ensures.items in
    on_ok c.write_both.result (λ wrote. Takes-whole _ _ c.args.ready.now.items bytes _ (Appends-trans _ _ _ c.args.ready.now.items bytes ready wrote) none) c.write_both.ensures.ok

pub returns-clause-front : goal.returns-clause-front
returns-clause-front g c =
    let bytes = c.args.first.now ++ c.args.others.now in
    let ready = rw (c.as_slice.ensures, c.if-put_fitting.ensures.same refl) at c.in_ok-write_whole.ensures.ok in
    WritesFront-then _ _ _ c.args.ready.now.items bytes ready c.write_both.ensures.front
