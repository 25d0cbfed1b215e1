use Rattle.std.proofs.Common.{rules, ◌≡◌, ◌++◌, List, [], ℕ, refl, ap, ◌∙◌, Err, inl}
use Rattle.std.proofs.KnownBytes.{Appends-nil, Consumes-nil}
use Rattle.wire.specs.Counted.{end_in}
use Rattle.wire.specs.declared.error.FrontError.TheVariants.{Memory}
use Rattle.client.specs.Asking.{ends, greeting}
use Rattle.client.specs.Private.Steps.{fault_of}
use Rattle.client.specs.declared.fault.AskFault.TheVariants.{Front}
use Rattle.client.proofs.ManyLines.{begins, goes_on, breaks_off, not_read, reads_on, stopped, last_stopped, last_asked, last_broken, greeted_first}
use Rattle.client.proofs.server_streams.ServerStreams.ask_stream.Goals as goal

pub returns-in_err-room-clause-asks : goal.returns-in_err-room-clause-asks
returns-in_err-room-clause-asks g c =
    let is : c.from_residual.result ≡ Err (Front Memory) = search rules in
    rw is (inl ([], greeting, [], refl, (Appends-nil _, Consumes-nil _, refl, refl), (refl, refl)))

pub returns-in_err-encoder-clause-asks : goal.returns-in_err-encoder-clause-asks
returns-in_err-encoder-clause-asks g c =
    let is : c.from_residual-in_err-encoder.result ≡ Err (Front Memory) = search rules in
    rw is (inl ([], greeting, [], refl, (Appends-nil _, Consumes-nil _, refl, refl), (refl, refl)))

pub loop-turn-init : goal.loop-turn-init
loop-turn-init g c =
    let at = ends (g.L.Read.remaining (end_in c.args.lines.now)) (g.R.Read.remaining (end_in c.greet.new.server.from)) (g.W.Write.contents (end_in c.greet.new.server.to)) (g.O.Write.contents (end_in c.args.out.now)) in
    (rw c.in_ok-encoder.ensures (begins (g.T.TextSource.gives c.args.texts.now) c.args.how at), c.new-request.ensures.items, refl, search rules)

pub returns-in_err-encode_next-clause-asks : goal.returns-in_err-encode_next-clause-asks
returns-in_err-encode_next-clause-asks g c =
    let gives = g.T.TextSource.gives c.args.texts.now in
    let error = c.in_err-encode_next.field-0.0 in
    let is : c.from_residual-in_err-encode_next.result ≡ Err (fault_of error) = search rules in
    let old = ends (g.L.Read.remaining (end_in c.args.lines.now)) (g.R.Read.remaining (end_in c.args.self.now.from)) (g.W.Write.contents (end_in c.args.self.now.to)) (g.O.Write.contents (end_in c.args.out.now)) in
    rw is (greeted_first gives c.args.how old _ _ (Err (fault_of error)) (stopped gives c.args.how _ (g.L.Read.remaining (end_in c.loop-turn.lines)) _ _ _ c.loop-turn.encoder c.loop-turn.refused c.loop-turn._turn c.loop-turn.invariant.0 error c.in_err-encode_next.ensures.2.0) (c.in_ok-greet.ensures.asks, c.in_ok-greet.ensures.tells, refl, refl))

pub returns-in_err-one-clause-asks : goal.returns-in_err-one-clause-asks
returns-in_err-one-clause-asks g c =
    let gives = g.T.TextSource.gives c.args.texts.now in
    let next = rw c.if-branch.true at c.in_ok-encode_next.ensures in
    let request : c.as_slice.result.now ≡ next.0 = c.as_slice.ensures.value ∙ next.1 ∙ ap (λ (o : List ℕ). o ++ next.0) c.loop-turn.invariant.1 in
    let fault = c.in_err-one.field-0.0 in
    let is : c.from_residual-in_err-one.result ≡ Err fault = search rules in
    let old = ends (g.L.Read.remaining (end_in c.args.lines.now)) (g.R.Read.remaining (end_in c.args.self.now.from)) (g.W.Write.contents (end_in c.args.self.now.to)) (g.O.Write.contents (end_in c.args.out.now)) in
    rw is (greeted_first gives c.args.how old _ _ (Err fault) (breaks_off gives c.args.how _ (g.L.Read.remaining (end_in c.loop-turn.lines)) _ _ _ c.loop-turn.encoder c.loop-turn.refused c.loop-turn._turn c.loop-turn.invariant.0 c.encode_next.new.self next.0 next.2 fault _ _ _ (rw request at c.in_err-one.ensures.err)) (c.in_ok-greet.ensures.asks, c.in_ok-greet.ensures.tells, refl, refl))

pub returns-in_err-read_more-clause-asks : goal.returns-in_err-read_more-clause-asks
returns-in_err-read_more-clause-asks g c =
    let gives = g.T.TextSource.gives c.args.texts.now in
    let next = rw c.if-branch.false at c.in_ok-encode_next.ensures in
    let fault = c.in_err-read_more.field-0.0 in
    let is : c.from_residual-in_err-read_more.result ≡ Err fault = search rules in
    let old = ends (g.L.Read.remaining (end_in c.args.lines.now)) (g.R.Read.remaining (end_in c.args.self.now.from)) (g.W.Write.contents (end_in c.args.self.now.to)) (g.O.Write.contents (end_in c.args.out.now)) in
    rw is (greeted_first gives c.args.how old _ _ (Err fault) (not_read gives c.args.how _ (g.L.Read.remaining (end_in c.loop-turn.lines)) _ _ _ c.loop-turn.encoder c.loop-turn.refused c.loop-turn._turn c.loop-turn.invariant.0 fault c.read_more.new.encoder _ next.2.0 c.in_err-read_more.ensures.reads) (c.in_ok-greet.ensures.asks, c.in_ok-greet.ensures.tells, refl, refl))

pub returns-in_err-finish-clause-asks : goal.returns-in_err-finish-clause-asks
returns-in_err-finish-clause-asks g c =
    let gives = g.T.TextSource.gives c.args.texts.now in
    let next = rw c.if-branch.false at c.in_ok-encode_next.ensures in
    let reads = rw c.if-not-branch.true at c.in_ok-read_more.ensures.reads in
    let same : c.read_more.new.encoder ≡ c.loop-turn.encoder = reads.0 ∙ next.2.2 in
    let error = c.in_err-finish.field-0.0 in
    let is : c.from_residual-in_err-finish.result ≡ Err (fault_of error) = search rules in
    let old = ends (g.L.Read.remaining (end_in c.args.lines.now)) (g.R.Read.remaining (end_in c.args.self.now.from)) (g.W.Write.contents (end_in c.args.self.now.to)) (g.O.Write.contents (end_in c.args.out.now)) in
    rw is (greeted_first gives c.args.how old _ _ (Err (fault_of error)) (last_stopped gives c.args.how _ (g.L.Read.remaining (end_in c.loop-turn.lines)) _ _ _ c.loop-turn.encoder c.loop-turn.refused c.loop-turn._turn c.loop-turn.invariant.0 _ reads.1 reads.2 error c.in_err-finish.ensures.0 (rw same at c.in_err-finish.ensures.2)) (c.in_ok-greet.ensures.asks, c.in_ok-greet.ensures.tells, refl, refl))

pub returns-in_err-last-clause-asks : goal.returns-in_err-last-clause-asks
returns-in_err-last-clause-asks g c =
    let gives = g.T.TextSource.gives c.args.texts.now in
    let next = rw c.if-branch.false at c.in_ok-encode_next.ensures in
    let reads = rw c.if-not-branch.true at c.in_ok-read_more.ensures.reads in
    let same : c.read_more.new.encoder ≡ c.loop-turn.encoder = reads.0 ∙ next.2.2 in
    let none : c.encode_next.new.out.items ≡ [] = next.1 ∙ ap (λ (w : List ℕ). c.loop-turn.request.items ++ w) next.2.3 ∙ ap (λ (o : List ℕ). o ++ []) c.loop-turn.invariant.1 in
    let last = c.in_ok-finish.ensures in
    let request : c.as_slice-then-not-branch.result.now ≡ last.0 = c.as_slice-then-not-branch.ensures.value ∙ last.1 ∙ ap (λ (o : List ℕ). o ++ last.0) none in
    let fault = c.in_err-last.field-0.0 in
    let is : c.from_residual-in_err-last.result ≡ Err fault = search rules in
    let old = ends (g.L.Read.remaining (end_in c.args.lines.now)) (g.R.Read.remaining (end_in c.args.self.now.from)) (g.W.Write.contents (end_in c.args.self.now.to)) (g.O.Write.contents (end_in c.args.out.now)) in
    rw is (greeted_first gives c.args.how old _ _ (Err fault) (last_broken gives c.args.how _ (g.L.Read.remaining (end_in c.loop-turn.lines)) _ _ _ c.loop-turn.encoder c.loop-turn.refused c.loop-turn._turn c.loop-turn.invariant.0 _ reads.1 reads.2 last.0 (rw same at last.2) _ _ _ fault (rw request at c.in_err-last.ensures.err)) (c.in_ok-greet.ensures.asks, c.in_ok-greet.ensures.tells, refl, refl))

pub returns-then-not-branch-clause-asks : goal.returns-then-not-branch-clause-asks
returns-then-not-branch-clause-asks g c =
    let gives = g.T.TextSource.gives c.args.texts.now in
    let next = rw c.if-branch.false at c.in_ok-encode_next.ensures in
    let reads = rw c.if-not-branch.true at c.in_ok-read_more.ensures.reads in
    let same : c.read_more.new.encoder ≡ c.loop-turn.encoder = reads.0 ∙ next.2.2 in
    let none : c.encode_next.new.out.items ≡ [] = next.1 ∙ ap (λ (w : List ℕ). c.loop-turn.request.items ++ w) next.2.3 ∙ ap (λ (o : List ℕ). o ++ []) c.loop-turn.invariant.1 in
    let last = c.in_ok-finish.ensures in
    let request : c.as_slice-then-not-branch.result.now ≡ last.0 = c.as_slice-then-not-branch.ensures.value ∙ last.1 ∙ ap (λ (o : List ℕ). o ++ last.0) none in
    (_, (c.in_ok-greet.ensures.asks, c.in_ok-greet.ensures.tells, refl, refl), last_asked gives c.args.how _ (g.L.Read.remaining (end_in c.loop-turn.lines)) _ _ _ c.loop-turn.encoder c.loop-turn.refused c.loop-turn._turn c.loop-turn.invariant.0 _ reads.1 reads.2 last.0 (rw same at last.2) _ _ _ c.in_ok-last.last next.2.0 (rw request at c.in_ok-last.ensures.ok))

pub loop-turn-preserved-then-branch : goal.loop-turn-preserved-then-branch
loop-turn-preserved-then-branch g c =
    let gives = g.T.TextSource.gives c.args.texts.now in
    let next = rw c.if-branch.true at c.in_ok-encode_next.ensures in
    let request : c.as_slice.result.now ≡ next.0 = c.as_slice.ensures.value ∙ next.1 ∙ ap (λ (o : List ℕ). o ++ next.0) c.loop-turn.invariant.1 in (
      goes_on gives c.args.how _ (g.L.Read.remaining (end_in c.loop-turn.lines)) _ _ _ c.loop-turn.encoder c.loop-turn.refused c.loop-turn._turn c.loop-turn.invariant.0 c.encode_next.new.self next.0 next.2 _ _ _ c.in_ok-one.one (rw request at c.in_ok-one.ensures.ok),
      search rules,
      search rules,
      search rules,
    )

pub loop-turn-preserved : goal.loop-turn-preserved
loop-turn-preserved g c =
    let gives = g.T.TextSource.gives c.args.texts.now in
    let next = rw c.if-branch.false at c.in_ok-encode_next.ensures in
    let reads = rw c.if-not-branch.false at c.in_ok-read_more.ensures.reads in (
      reads_on gives c.args.how _ (g.L.Read.remaining (end_in c.loop-turn.lines)) _ _ _ c.loop-turn.encoder c.loop-turn.refused c.loop-turn._turn c.loop-turn.invariant.0 c.read_more.new.encoder _ (rw next.2.2 at reads),
      next.1 ∙ ap (λ (w : List ℕ). c.loop-turn.request.items ++ w) next.2.3 ∙ ap (λ (o : List ℕ). o ++ []) c.loop-turn.invariant.1,
      search rules,
      search rules,
    )
