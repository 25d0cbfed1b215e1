use Rattle.std.proofs.Common.{rules, ◌≡◌, ◌<◌, length, Err}
use Rattle.wire.specs.Counted.{end_in}
use Rattle.wire.proofs.Streams.{nothing, finished, not_kept, reads_on, ends_early, none_came, some_came}
use Rattle.wire.proofs.stream.encode_stream.Goals as goal

pub returns-in_default-clause-encodes : goal.returns-in_default-clause-encodes
returns-in_default-clause-encodes g c = nothing (g.T.TextSource.gives c.args.texts.now) (g.R.Read.remaining (end_in c.args.reader.now)) (g.W.Write.contents (end_in c.args.writer.now))

pub returns-then-count-eq0-clause-encodes : goal.returns-then-count-eq0-clause-encodes
returns-then-count-eq0-clause-encodes g c =
    let left = g.R.Read.remaining (end_in c.args.reader.now) in
    let mid = g.R.Read.remaining (end_in c.loop-turn.reader) in
    let new = g.R.Read.remaining (end_in c.read.new.self) in
    let held = g.W.Write.contents (end_in c.args.writer.now) in
    let sent = g.W.Write.contents (end_in c.loop-turn.writer) in
    let whole = g.W.Write.contents (end_in c.encode_last.new.writer) in
    let none : c.in-Ok-read.count ≡ 0 = search rules in
    let room : 0 < length c.read.new.buf = search rules in
    finished (g.T.TextSource.gives c.args.texts.now) left mid new held sent c.loop-turn.encoder c.loop-turn._turn c.loop-turn.invariant.0 c.encode_last.result whole c.encode_last.ensures.encodes (none_came mid new c.read.new.buf c.in-Ok-read.count none c.in-Ok-read.ensures.bytes.0) (c.in-Ok-read.ensures.bytes.1 none room)

pub returns-in-Err-feed-clause-encodes : goal.returns-in-Err-feed-clause-encodes
returns-in-Err-feed-clause-encodes g c =
    let left = g.R.Read.remaining (end_in c.args.reader.now) in
    let mid = g.R.Read.remaining (end_in c.loop-turn.reader) in
    let new = g.R.Read.remaining (end_in c.read.new.self) in
    let held = g.W.Write.contents (end_in c.args.writer.now) in
    let sent = g.W.Write.contents (end_in c.loop-turn.writer) in
    let came = some_came mid new c.read.new.buf c.split_at.result.0.now c.in-Ok-read.count c.split_at.ensures.front c.in-Ok-read.ensures.bytes.0 in
    not_kept (g.T.TextSource.gives c.args.texts.now) left mid new held sent c.loop-turn.encoder c.loop-turn._turn c.loop-turn.invariant.0 c.split_at.result.0.now came

pub returns-in_err-encode_kept-clause-encodes : goal.returns-in_err-encode_kept-clause-encodes
returns-in_err-encode_kept-clause-encodes g c =
    let left = g.R.Read.remaining (end_in c.args.reader.now) in
    let mid = g.R.Read.remaining (end_in c.loop-turn.reader) in
    let new = g.R.Read.remaining (end_in c.read.new.self) in
    let held = g.W.Write.contents (end_in c.args.writer.now) in
    let sent = g.W.Write.contents (end_in c.loop-turn.writer) in
    let whole = g.W.Write.contents (end_in c.encode_kept.new.writer) in
    let came = some_came mid new c.read.new.buf c.split_at.result.0.now c.in-Ok-read.count c.split_at.ensures.front c.in-Ok-read.ensures.bytes.0 in
    let error = c.in_err-encode_kept.field-0.0 in
    let is : c.from_residual.result ≡ Err error = search rules in
    rw is (ends_early (g.T.TextSource.gives c.args.texts.now) left mid new held sent c.loop-turn.encoder c.loop-turn._turn c.loop-turn.invariant.0 c.split_at.result.0.now c.feed.new.self c.encode_kept.new.encoder whole c.in_default-feed.ensures.ok c.in_default-feed.ensures.lines came error c.in_err-encode_kept.ensures.encodes)

pub loop-turn-preserved : goal.loop-turn-preserved
loop-turn-preserved g c =
    let left = g.R.Read.remaining (end_in c.args.reader.now) in
    let mid = g.R.Read.remaining (end_in c.loop-turn.reader) in
    let new = g.R.Read.remaining (end_in c.read.new.self) in
    let held = g.W.Write.contents (end_in c.args.writer.now) in
    let sent = g.W.Write.contents (end_in c.loop-turn.writer) in
    let whole = g.W.Write.contents (end_in c.encode_kept.new.writer) in
    let came = some_came mid new c.read.new.buf c.split_at.result.0.now c.in-Ok-read.count c.split_at.ensures.front c.in-Ok-read.ensures.bytes.0 in
    let some : 0 < length c.split_at.result.0.now = search rules in
    (reads_on (g.T.TextSource.gives c.args.texts.now) left mid new held sent c.loop-turn.encoder c.loop-turn._turn c.loop-turn.invariant.0 c.split_at.result.0.now c.feed.new.self c.encode_kept.new.encoder whole c.in_default-feed.ensures.ok c.in_default-feed.ensures.lines came c.in_ok-encode_kept.ensures.encodes some, search rules, search rules, search rules)
