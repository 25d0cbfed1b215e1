use Rattle.std.proofs.Common.{◌<◌, length, rules, ◌≡◌, ℕ, List, ◌++◌, Err, sym, ap, subst, ◌∙◌}
use Rattle.std.specs.Io.KnownBytes.{Appends, Consumes}
use Rattle.wire.specs.Counted.{end_in}
use Rattle.wire.specs.Output.{WritesFront}
use Rattle.wire.specs.Private.Decoders.{DecodesKept}
use Rattle.wire.proofs.Decodes.{nothing, not_fed, not_sent, goes_on_stream, stopped}
use Rattle.wire.proofs.decode.decode_stream.Goals as goal

pub returns-in_default-clause-decodes : goal.returns-in_default-clause-decodes
returns-in_default-clause-decodes g c = nothing (g.R.Read.remaining (end_in c.args.reader.now)) (g.W.Write.contents (end_in c.args.writer.now))

pub returns-in-Err-feed-clause-decodes : goal.returns-in-Err-feed-clause-decodes
returns-in-Err-feed-clause-decodes g c =
    let left = g.R.Read.remaining (end_in c.args.reader.now) in
    let mid = g.R.Read.remaining (end_in c.loop-turn.reader) in
    let new = g.R.Read.remaining (end_in c.read.new.self) in
    let held = g.W.Write.contents (end_in c.args.writer.now) in
    let sent = g.W.Write.contents (end_in c.loop-turn.writer) in
    let came = subst (Consumes mid new) (sym c.split_at.ensures.front) c.in-Ok-read.ensures.bytes.0 in
    not_fed left mid new held sent c.loop-turn.decoder c.loop-turn.frames c.loop-turn._turn c.loop-turn.invariant.0 c.split_at.result.0.now came

pub returns-in-Err-write_flushed-clause-decodes : goal.returns-in-Err-write_flushed-clause-decodes
returns-in-Err-write_flushed-clause-decodes g c =
    let left = g.R.Read.remaining (end_in c.args.reader.now) in
    let mid = g.R.Read.remaining (end_in c.loop-turn.reader) in
    let new = g.R.Read.remaining (end_in c.read.new.self) in
    let held = g.W.Write.contents (end_in c.args.writer.now) in
    let sent = g.W.Write.contents (end_in c.loop-turn.writer) in
    let cut = g.W.Write.contents (end_in c.write_flushed.new.writer) in
    let came = subst (Consumes mid new) (sym c.split_at.ensures.front) c.in-Ok-read.ensures.bytes.0 in
    let took = c.decode_kept-ended.ensures in
    let fed : c.feed.new.self ≡ c.loop-turn.decoder ++ c.split_at.result.0.now = search rules in
    let decodes = subst (λ (k : List ℕ). DecodesKept c.decode_kept-ended.result k c.loop-turn.frames c.decode_kept-ended.new.decoder c.decode_kept-ended.new.frames took.0) fed took.2 in
    let bytes = c.as_slice.ensures.value ∙ took.1 ∙ ap (λ o. o ++ took.0) c.loop-turn.invariant.3 in
    not_sent left mid new held sent c.loop-turn.decoder c.loop-turn.frames c.loop-turn._turn c.loop-turn.invariant.0 c.split_at.result.0.now came c.decode_kept-ended.result c.decode_kept-ended.new.decoder c.decode_kept-ended.new.frames took.0 decodes cut (subst (WritesFront sent cut) bytes c.write_flushed.ensures.front)

pub returns-in_err-ended-clause-decodes : goal.returns-in_err-ended-clause-decodes
returns-in_err-ended-clause-decodes g c =
    let left = g.R.Read.remaining (end_in c.args.reader.now) in
    let mid = g.R.Read.remaining (end_in c.loop-turn.reader) in
    let new = g.R.Read.remaining (end_in c.read.new.self) in
    let held = g.W.Write.contents (end_in c.args.writer.now) in
    let sent = g.W.Write.contents (end_in c.loop-turn.writer) in
    let whole = g.W.Write.contents (end_in c.write_flushed.new.writer) in
    let came = subst (Consumes mid new) (sym c.split_at.ensures.front) c.in-Ok-read.ensures.bytes.0 in
    let took = c.decode_kept-ended.ensures in
    let fed : c.feed.new.self ≡ c.loop-turn.decoder ++ c.split_at.result.0.now = search rules in
    let decodes = subst (λ (k : List ℕ). DecodesKept c.decode_kept-ended.result k c.loop-turn.frames c.decode_kept-ended.new.decoder c.decode_kept-ended.new.frames took.0) fed took.2 in
    let bytes = c.as_slice.ensures.value ∙ took.1 ∙ ap (λ o. o ++ took.0) c.loop-turn.invariant.3 in
    let appends : Appends sent whole c.as_slice.result.now = search rules in
    let error = c.in_err-ended.field-0.0 in
    let is : c.from_residual.result ≡ Err error = search rules in
    rw is (stopped left mid new held sent c.loop-turn.decoder c.loop-turn.frames c.loop-turn._turn c.loop-turn.invariant.0 c.split_at.result.0.now came c.decode_kept-ended.result c.decode_kept-ended.new.decoder c.decode_kept-ended.new.frames took.0 decodes whole (subst (Appends sent whole) bytes appends) error c.in_err-ended.was)

pub loop-turn-preserved : goal.loop-turn-preserved
loop-turn-preserved g c =
    let left = g.R.Read.remaining (end_in c.args.reader.now) in
    let mid = g.R.Read.remaining (end_in c.loop-turn.reader) in
    let new = g.R.Read.remaining (end_in c.read.new.self) in
    let held = g.W.Write.contents (end_in c.args.writer.now) in
    let sent = g.W.Write.contents (end_in c.loop-turn.writer) in
    let whole = g.W.Write.contents (end_in c.write_flushed.new.writer) in
    let came = subst (Consumes mid new) (sym c.split_at.ensures.front) c.in-Ok-read.ensures.bytes.0 in
    let took = c.decode_kept-ended.ensures in
    let fed : c.feed.new.self ≡ c.loop-turn.decoder ++ c.split_at.result.0.now = search rules in
    let decodes = subst (λ (k : List ℕ). DecodesKept c.decode_kept-ended.result k c.loop-turn.frames c.decode_kept-ended.new.decoder c.decode_kept-ended.new.frames took.0) fed took.2 in
    let bytes = c.as_slice.ensures.value ∙ took.1 ∙ ap (λ o. o ++ took.0) c.loop-turn.invariant.3 in
    let appends : Appends sent whole c.as_slice.result.now = search rules in
    let some : 0 < length c.split_at.result.0.now = search rules in
    (goes_on_stream left mid new held sent c.loop-turn.decoder c.loop-turn.frames c.loop-turn._turn c.loop-turn.invariant.0 c.split_at.result.0.now came c.decode_kept-ended.result c.decode_kept-ended.new.decoder c.decode_kept-ended.new.frames took.0 decodes whole (subst (Appends sent whole) bytes appends) c.in_ok-ended.was some, search rules, search rules, search rules)
