use Rattle.std.proofs.Common.{rules, ◌≡◌, refl, ◌∙◌, Err}
use Rattle.wire.specs.Counted.{end_in}
use Rattle.wire.specs.declared.error.FrontError.TheVariants.{WriteFault}
use Rattle.wire.specs.declared.stream.StreamError.TheVariants.{Front}
use Rattle.wire.proofs.Streams.{begins, goes_on, cut_off, not_sent}
use Rattle.wire.proofs.stream.encode_kept.Goals as goal

pub loop-writer-init : goal.loop-writer-init
loop-writer-init g c = (begins (g.T.TextSource.gives c.args.texts.now) c.args.encoder.now (g.W.Write.contents (end_in c.args.writer.now)) c.args.out.now.items c.requires.empty, refl)

pub loop-writer-preserved : goal.loop-writer-preserved
loop-writer-preserved g c =
    let next = rw c.in-Ok-true.field-0-test at c.in-Ok-true.ensures in
    let sent = c.in_ok-send_much-in-Ok-true.ensures.ok in (
      goes_on (g.T.TextSource.gives c.args.texts.now) c.args.encoder.now c.loop-writer.encoder (g.W.Write.contents (end_in c.args.writer.now)) (g.W.Write.contents (end_in c.loop-writer.writer)) c.loop-writer.out.items c.loop-writer.invariant.0
          c.encode_next.new.self next.0 c.encode_next.new.out.items c.send_much.new.out.items sent.0 (g.W.Write.contents (end_in c.send_much.new.writer)) next.2 next.1 sent.1 sent.2,
      c.in_ok-send_much-in-Ok-true.ensures.quiet ∙ c.loop-writer.invariant.1,
    )

pub returns-in_err-send_much-in-Ok-true-clause-encodes : goal.returns-in_err-send_much-in-Ok-true-clause-encodes
returns-in_err-send_much-in-Ok-true-clause-encodes g c =
    let next = rw c.in-Ok-true.field-0-test at c.in-Ok-true.ensures in
    let is : c.from_residual.result ≡ Err (Front WriteFault) = search rules in
    rw is (cut_off (g.T.TextSource.gives c.args.texts.now) c.args.encoder.now c.loop-writer.encoder (g.W.Write.contents (end_in c.args.writer.now)) (g.W.Write.contents (end_in c.loop-writer.writer)) c.loop-writer.out.items c.loop-writer.invariant.0
    c.encode_next.new.self next.0 c.encode_next.new.out.items (g.W.Write.contents (end_in c.send_much.new.writer)) next.2 next.1 c.in_err-send_much-in-Ok-true.ensures.front)

pub returns-in_err-send_out-in-Ok-false-clause-encodes : goal.returns-in_err-send_out-in-Ok-false-clause-encodes
returns-in_err-send_out-in-Ok-false-clause-encodes g c =
    let next = rw c.in-Ok-false.field-0-test at c.in-Ok-false.ensures in
    let is : c.from_residual-in_err-send_out-in-Ok-false.result ≡ Err (Front WriteFault) = search rules in
    rw is (not_sent (g.T.TextSource.gives c.args.texts.now) c.args.encoder.now c.loop-writer.encoder (g.W.Write.contents (end_in c.args.writer.now)) (g.W.Write.contents (end_in c.loop-writer.writer)) c.loop-writer.out.items c.loop-writer.invariant.0
    c.encode_next.new.self next.0 c.encode_next.new.out.items (g.W.Write.contents (end_in c.send_out.new.writer)) next.2.3 next.1 c.in_err-send_out-in-Ok-false.ensures.front)

pub returns-in_err-send_out-in-Err-clause-encodes : goal.returns-in_err-send_out-in-Err-clause-encodes
returns-in_err-send_out-in-Err-clause-encodes g c =
    let next = c.in-Err.ensures in
    let is : c.from_residual-in_err-send_out-in-Err.result ≡ Err (Front WriteFault) = search rules in
    rw is (not_sent (g.T.TextSource.gives c.args.texts.now) c.args.encoder.now c.loop-writer.encoder (g.W.Write.contents (end_in c.args.writer.now)) (g.W.Write.contents (end_in c.loop-writer.writer)) c.loop-writer.out.items c.loop-writer.invariant.0
    c.encode_next.new.self next.0 c.encode_next.new.out.items (g.W.Write.contents (end_in c.send_out-in-Err.new.writer)) next.2.2 next.1 c.in_err-send_out-in-Err.ensures.front)
