use Rattle.std.proofs.Common.{◌≡◌, ◌++◌, Err, arith, rules, length, take, drop, sym, ap, ◌∙◌, subst, length-take-le}
use Rattle.std.proofs.lemmas.List.{take_at}
use Rattle.std.proofs.lemmas.Result.{err_from_is_err_and}
use Rattle.std.proofs.KnownBytes.{Consumes-trans}
use Rattle.std.specs.Io.KnownBytes.{Consumes}
use Rattle.wire.specs.Frame.{frame}
use Rattle.client.proofs.ReadingLemmas.{frame_whole, NoFrame-payload}
use Rattle.client.proofs.reading.read_frame.Goals as goal

pub returns-in_err-fill-2-clause-err : goal.returns-in_err-fill-2-clause-err
returns-in_err-fill-2-clause-err g c =
    let field = c.fill.new.buffer in
    let cut = c.in_err-fill-2.ensures.err in
    let failed = err_from_is_err_and c.from_residual-in_err-fill-2.result c.from_residual-in_err-fill-2.ensures.1 in
    let is_fault : c.from_residual-in_err-fill-2.result ≡ Err c.in_err-fill-2.field-0.0 = failed.1 ∙ ap Err failed.2 in
    rw is_fault (
      field ++ cut.read,
      Consumes-trans _ _ _ field cut.read c.in_ok-fill.ensures.ok.consumes cut.consumes,
      NoFrame-payload _ _ field cut.read c.length_field-size.result c.in_ok-fill.ensures.len c.length_field-size.ensures.value (omega arith) (omega arith)
          (rw (length-take-le c.length_field-size.result c.args.buffer.now (omega arith)) at cut.says),
    )

pub returns-clause-ok : goal.returns-clause-ok
returns-clause-ok g c =
    let field = c.fill.new.buffer in
    let payload = c.fill-2.new.buffer in
    let size = c.length_field-size.result in
    let long : length payload ≡ size = search rules in
    let front : take size (payload ++ drop size c.args.buffer.now) ≡ payload = take_at payload (drop size c.args.buffer.now) size long in
    let whole = frame_whole field payload size c.in_ok-fill.ensures.len c.length_field-size.ensures.bytes long in (
      ap length front ∙ long,
      (omega (arith, ap length front), omega (arith, ap length front)),
      subst (Consumes _ _) (whole ∙ ap frame (sym front)) (Consumes-trans _ _ _ field payload c.in_ok-fill.ensures.ok.consumes c.in_ok-fill-2.ensures.ok.consumes),
    )
