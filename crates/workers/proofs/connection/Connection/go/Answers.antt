use Rattle.std.proofs.Common.{◌≡◌, ◌+◌, ◌≤◌, ◌++◌, ◌∙◌, ℕ, List, [], length, ap, arith, refl, inl, inr, subst, append-nil, Ok, Err}
use Rattle.frame_front.specs.Live.{StopsAt, reply_limit}
use Rattle.wire.specs.declared.error.FrontError.TheVariants.{WriteFault}
use Rattle.workers.specs.Connection.{counted}
use Rattle.workers.specs.declared.turn_end.TurnEnd.TheVariants.{Waits, Over}
use Rattle.workers.specs.Private.Goes.{Round}
use Rattle.workers.specs.Private.Limited.{IsSentAs}
use Rattle.workers.proofs.TurnLemmas.{goes_on, in_share, none_lost, round_ends, round_read, round_sent, stops_for, turn_ends, turn_is_over, view_of}
use Rattle.workers.proofs.connection.Connection.go.Goals as goal

pub returns-in-Ok-false : goal.returns-in-Ok-false
returns-in-Ok-false g c =
    let before = rw (← c.self.view_is) at c.loop-rounds.invariant in
    let inside = c.self.inside in
    let view = view_of g.E.Stream.may g.E.Stream.left g.E.Stream.held in
    let old = view inside.live inside.answered inside.end inside.has_ended inside.has_lost inside.is_closing in
    let new = view c.write_replies.new.live c.saturating_add-self-inside.result c.write_replies.new.self inside.has_ended inside.has_lost inside.is_closing in
    let wrote = c.write_replies.ensures in
    let answered = c.answer-answered.ensures in
    let count : new.answered ≡ counted (old.answered + c.answer-answered.result.frames) = omega (arith, c.saturating_add-self-inside.ensures) in
    let goes_yet = rw (← c.self.view_is) at (c.has_had_share.ensures.no c.if-has_had_share.false) in
    let share = in_share c.loop-rounds.left before.0 c.answer-answered.result.bytes c.args.self.now old before.2 before.5 goes_yet (omega (arith, answered.judged)) in
    let round =
    round_sent g.A.Ask.answers c.answer-answered.result wrote.sends.0 c.answer-answered.new.self old new c.loop-rounds.ask c.answer-answered.new.ask answered.answers answered.share
    wrote.sends.1 wrote.sends.2 wrote.sends.3 wrote.left wrote.turns count (wrote.may, refl) refl in
    let blocked = subst (λ b. IsSentAs (Ok b) old.may new.live.ready) c.in-Ok-false.field-0-test c.in-Ok-false.ensures.until in
    turn_ends g.A.Ask.answers c.args.most c.loop-rounds.rounds before.0 c.answer-answered.result.bytes c.loop-rounds.has_left Waits c.args.self.now old new c.args.ask.now c.loop-rounds.ask c.answer-answered.new.ask c.loop-rounds-test.true share before.1 before.2
    ([], round.0, refl, inl refl, inl (blocked.0, ap (λ m. m.write_waits) wrote.may ∙ blocked.1))

pub returns-in-Err : goal.returns-in-Err
returns-in-Err g c =
    let before = rw (← c.self.view_is) at c.loop-rounds.invariant in
    let inside = c.self.inside in
    let view = view_of g.E.Stream.may g.E.Stream.left g.E.Stream.held in
    let old = view inside.live inside.answered inside.end inside.has_ended inside.has_lost inside.is_closing in
    let new = view c.write_replies.new.live c.saturating_add-self-inside.result c.write_replies.new.self inside.has_ended inside.has_lost inside.is_closing in
    let wrote = c.write_replies.ensures in
    let answered = c.answer-answered.ensures in
    let count : new.answered ≡ counted (old.answered + c.answer-answered.result.frames) = omega (arith, c.saturating_add-self-inside.ensures) in
    let goes_yet = rw (← c.self.view_is) at (c.has_had_share.ensures.no c.if-has_had_share.false) in
    let share = in_share c.loop-rounds.left before.0 c.answer-answered.result.bytes c.args.self.now old before.2 before.5 goes_yet (omega (arith, answered.judged)) in
    let round =
    round_sent g.A.Ask.answers c.answer-answered.result wrote.sends.0 c.answer-answered.new.self old new c.loop-rounds.ask c.answer-answered.new.ask answered.answers answered.share
    wrote.sends.1 wrote.sends.2 wrote.sends.3 wrote.left wrote.turns count (wrote.may, refl) refl in
    turn_ends g.A.Ask.answers c.args.most c.loop-rounds.rounds before.0 c.answer-answered.result.bytes c.loop-rounds.has_left (Over (Err WriteFault)) c.args.self.now old new c.args.ask.now c.loop-rounds.ask c.answer-answered.new.ask c.loop-rounds-test.true share before.1 before.2
    ([], round.0, refl, inl refl, (c.in-Err.ensures.until.0, ap (λ m. m.write_fails) wrote.may ∙ c.in-Err.ensures.until.1))

pub loop-rounds-preserved-in-Ok-Write : goal.loop-rounds-preserved-in-Ok-Write
loop-rounds-preserved-in-Ok-Write g c =
    let before = rw (← c.self.view_is) at c.loop-rounds.invariant in
    let inside = c.self.inside in
    let view = view_of g.E.Stream.may g.E.Stream.left g.E.Stream.held in
    let old = view inside.live inside.answered inside.end inside.has_ended inside.has_lost inside.is_closing in
    let new = view c.write_replies.new.live c.saturating_add-self-inside.result c.write_replies.new.self inside.has_ended inside.has_lost inside.is_closing in
    let wrote = c.write_replies.ensures in
    let answered = c.answer-answered.ensures in
    let count : new.answered ≡ counted (old.answered + c.answer-answered.result.frames) = omega (arith, c.saturating_add-self-inside.ensures) in
    let goes_yet = rw (← c.self.view_is) at (c.has_had_share.ensures.no c.if-has_had_share.false) in
    let share = in_share c.loop-rounds.left before.0 c.answer-answered.result.bytes c.args.self.now old before.2 before.5 goes_yet (omega (arith, answered.judged)) in
    let round =
    round_sent g.A.Ask.answers c.answer-answered.result wrote.sends.0 c.answer-answered.new.self old new c.loop-rounds.ask c.answer-answered.new.ask answered.answers answered.share
    wrote.sends.1 wrote.sends.2 wrote.sends.3 wrote.left wrote.turns count (wrote.may, refl) refl in
    let sent = subst (λ b. IsSentAs (Ok b) old.may new.live.ready) c.in-Ok-true.field-0-test c.in-Ok-true.ensures.until in
    let all : c.answer-answered.new.self.ready ≡ wrote.sends.0 = wrote.sends.1.0 ∙ (ap (λ (l : List ℕ). wrote.sends.0 ++ l) sent ∙ append-nil wrote.sends.0) in
    let write = rw c.in-Ok-Write.is at c.in-Ok-Write.field-0-is in
    let many : reply_limit ≤ length wrote.sends.0 = subst (λ (l : List ℕ). reply_limit ≤ length l) all (rw (c.in-Ok-Write.is, write) at answered.answers.stops) in
    let goes =
    goes_on g.A.Ask.answers c.loop-rounds.rounds before.0 c.answer-answered.result.bytes c.loop-rounds.has_left [] c.args.self.now old new c.args.ask.now c.loop-rounds.ask c.answer-answered.new.ask before.1 round.0 before.2 in
    (before.0 + c.answer-answered.result.bytes, inr (goes.0, goes.1 (1, omega arith, omega (arith, round.1, many)), λ e. goes.2 (inr (e, round.2))), before.2, omega (arith, c.loop-rounds-test.true), λ e. ap (λ m. m.leaves_room) wrote.may ∙ before.4 e, omega (arith, c.saturating_sub-left.ensures, before.5), λ unended. omega (arith, share.0 unended, share.1))

pub loop-rounds-preserved : goal.loop-rounds-preserved
loop-rounds-preserved g c =
    let before = rw (← c.self.view_is) at c.loop-rounds.invariant in
    let inside = c.self.inside in
    let view = view_of g.E.Stream.may g.E.Stream.left g.E.Stream.held in
    let old = view inside.live inside.answered inside.end inside.has_ended inside.has_lost inside.is_closing in
    let new = view c.write_replies.new.live c.saturating_add-self-inside.result c.write_replies.new.self inside.has_ended inside.has_lost inside.is_closing in
    let wrote = c.write_replies.ensures in
    let answered = c.answer-answered.ensures in
    let count : new.answered ≡ counted (old.answered + c.answer-answered.result.frames) = omega (arith, c.saturating_add-self-inside.ensures) in
    let goes_yet = rw (← c.self.view_is) at (c.has_had_share.ensures.no c.if-has_had_share.false) in
    let share = in_share c.loop-rounds.left before.0 (c.answer-answered.result.bytes + 0) c.args.self.now old before.2 before.5 goes_yet (omega (arith, answered.judged)) in
    let round =
    round_sent g.A.Ask.answers c.answer-answered.result wrote.sends.0 c.answer-answered.new.self old new c.loop-rounds.ask c.answer-answered.new.ask answered.answers answered.share
    wrote.sends.1 wrote.sends.2 wrote.sends.3 wrote.left wrote.turns count (wrote.may, refl) refl in
    let has_read = round_read g.A.Ask.answers c.loop-rounds.has_left c.answer-answered.result.bytes c.read.result old new c.read.new.self c.loop-rounds.ask c.answer-answered.new.ask round.0 c.read.ensures refl in
    let goes_round = subst (λ r. Round g.A.Ask.answers c.loop-rounds.has_left (c.answer-answered.result.bytes + 0) r old c.read.new.self c.loop-rounds.ask c.answer-answered.new.ask) c.in-Ok.is
    (round_ends g.A.Ask.answers c.loop-rounds.has_left (c.answer-answered.result.bytes + 0) c.read.result old new c.read.new.self c.loop-rounds.ask c.answer-answered.new.ask c.read.ensures has_read refl wrote.turns) in
    let goes =
    goes_on g.A.Ask.answers c.loop-rounds.rounds before.0 (c.answer-answered.result.bytes + 0) c.loop-rounds.has_left [] c.args.self.now old c.read.new.self c.args.ask.now c.loop-rounds.ask c.answer-answered.new.ask before.1 goes_round.0 before.2 in
    (before.0 + (c.answer-answered.result.bytes + 0), inr (goes.0, goes.1 goes_round.2, λ e. goes.2 (goes_round.4 e)), goes_round.1 ∙ before.2, omega (arith, c.loop-rounds-test.true), goes_round.3, omega (arith, c.saturating_sub-left.ensures, before.5), λ unended. omega (arith, share.0 unended, share.1))

pub returns-in-Err-read : goal.returns-in-Err-read
returns-in-Err-read g c =
    let before = rw (← c.self.view_is) at c.loop-rounds.invariant in
    let inside = c.self.inside in
    let view = view_of g.E.Stream.may g.E.Stream.left g.E.Stream.held in
    let old = view inside.live inside.answered inside.end inside.has_ended inside.has_lost inside.is_closing in
    let new = view c.write_replies.new.live c.saturating_add-self-inside.result c.write_replies.new.self inside.has_ended inside.has_lost inside.is_closing in
    let wrote = c.write_replies.ensures in
    let answered = c.answer-answered.ensures in
    let count : new.answered ≡ counted (old.answered + c.answer-answered.result.frames) = omega (arith, c.saturating_add-self-inside.ensures) in
    let goes_yet = rw (← c.self.view_is) at (c.has_had_share.ensures.no c.if-has_had_share.false) in
    let share = in_share c.loop-rounds.left before.0 (c.answer-answered.result.bytes + 0) c.args.self.now old before.2 before.5 goes_yet (omega (arith, answered.judged)) in
    let round =
    round_sent g.A.Ask.answers c.answer-answered.result wrote.sends.0 c.answer-answered.new.self old new c.loop-rounds.ask c.answer-answered.new.ask answered.answers answered.share
    wrote.sends.1 wrote.sends.2 wrote.sends.3 wrote.left wrote.turns count (wrote.may, refl) refl in
    let has_read = round_read g.A.Ask.answers c.loop-rounds.has_left c.answer-answered.result.bytes c.read.result old new c.read.new.self c.loop-rounds.ask c.answer-answered.new.ask round.0 c.read.ensures refl in
    let goes_round = subst (λ r. Round g.A.Ask.answers c.loop-rounds.has_left (c.answer-answered.result.bytes + 0) r old c.read.new.self c.loop-rounds.ask c.answer-answered.new.ask) c.in-Err-read.is
    (round_ends g.A.Ask.answers c.loop-rounds.has_left (c.answer-answered.result.bytes + 0) c.read.result old new c.read.new.self c.loop-rounds.ask c.answer-answered.new.ask c.read.ensures has_read refl wrote.turns) in
    turn_ends g.A.Ask.answers c.args.most c.loop-rounds.rounds before.0 (c.answer-answered.result.bytes + 0) c.loop-rounds.has_left c.in-Err-read.after c.args.self.now old c.read.new.self c.args.ask.now c.loop-rounds.ask c.answer-answered.new.ask c.loop-rounds-test.true share before.1 before.2
    goes_round

pub returns-in-Err-next : goal.returns-in-Err-next
returns-in-Err-next g c =
    let before = rw (← c.self.view_is) at c.loop-rounds.invariant in
    let inside = c.self.inside in
    let view = view_of g.E.Stream.may g.E.Stream.left g.E.Stream.held in
    let old = view inside.live inside.answered inside.end inside.has_ended inside.has_lost inside.is_closing in
    let new = view c.write_replies.new.live c.saturating_add-self-inside.result c.write_replies.new.self inside.has_ended inside.has_lost inside.is_closing in
    let wrote = c.write_replies.ensures in
    let answered = c.answer-answered.ensures in
    let count : new.answered ≡ counted (old.answered + c.answer-answered.result.frames) = omega (arith, c.saturating_add-self-inside.ensures) in
    let goes_yet = rw (← c.self.view_is) at (c.has_had_share.ensures.no c.if-has_had_share.false) in
    let share = in_share c.loop-rounds.left before.0 c.answer-answered.result.bytes c.args.self.now old before.2 before.5 goes_yet (omega (arith, answered.judged)) in
    let round =
    round_sent g.A.Ask.answers c.answer-answered.result wrote.sends.0 c.answer-answered.new.self old new c.loop-rounds.ask c.answer-answered.new.ask answered.answers answered.share
    wrote.sends.1 wrote.sends.2 wrote.sends.3 wrote.left wrote.turns count (wrote.may, refl) refl in
    let sent = subst (λ b. IsSentAs (Ok b) old.may new.live.ready) c.in-Ok-true.field-0-test c.in-Ok-true.ensures.until in
    let stops = subst (λ r. StopsAt r c.answer-answered.new.self) c.in-Err-next.is answered.answers.stops in
    turn_ends g.A.Ask.answers c.args.most c.loop-rounds.rounds before.0 c.answer-answered.result.bytes c.loop-rounds.has_left (Over (Err c.in-Err-next.error)) c.args.self.now old new c.args.ask.now c.loop-rounds.ask c.answer-answered.new.ask c.loop-rounds-test.true share before.1 before.2
    ([], round.0, none_lost c.in-Err-next.error, inl refl, stops_for c.in-Err-next.error wrote.sends.0 c.answer-answered.new.self new stops wrote.sends.1 sent)

pub returns : goal.returns
returns g c =
    let inv = c.loop-rounds.invariant in
    turn_is_over g.A.Ask.answers c.args.most c.loop-rounds.rounds inv.0 c.loop-rounds.has_left c.args.self.now c.loop-rounds.self c.args.ask.now c.loop-rounds.ask
    (omega (arith, c.requires, inv.3, c.loop-rounds-test.false)) inv.3 inv.1 inv.2 inv.6 (inl (omega (arith, inv.3, c.loop-rounds-test.false)))

pub returns-then-has_had_share : goal.returns-then-has_had_share
returns-then-has_had_share g c =
    let inv = c.loop-rounds.invariant in
    let full = c.has_had_share.ensures.yes c.if-has_had_share.true in
    turn_is_over g.A.Ask.answers c.args.most c.loop-rounds.rounds inv.0 c.loop-rounds.has_left c.args.self.now c.loop-rounds.self c.args.ask.now c.loop-rounds.ask
    (omega (arith, inv.5, full.1)) inv.3 inv.1 inv.2 inv.6 (inr (omega (arith, inv.5, full.1), full.0))
