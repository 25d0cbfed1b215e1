use Rattle.std.proofs.Common.{rules, ◌≡◌, Ok, Err, subst}
use Rattle.wire.specs.Frame.{frame}
use Rattle.client.specs.Private.Answers.{IsWholeAnswer, IsCountOfAll}
use Rattle.client.specs.Private.Reads.{ReadsWhole}
use Rattle.client.proofs.ClientLemmas.{frame_breaks}
use Rattle.client.proofs.ListingLemmas.{all_breaks, is_all}
use Rattle.client.proofs.ReadingLemmas.{stops_at, stops_behind}
use Rattle.client.proofs.client.read_own.Goals as goal

pub returns-in_err-payload : goal.returns-in_err-payload
returns-in_err-payload g c =
    let none = c.in_err-payload.ensures.err in
    let why = c.in_err-payload.field-0.0 in
    let is : c.from_residual.result ≡ Err why = search rules in
    rw is (record { read = none.read; consumes = none.consumes; says = frame_breaks c.args.op.now why none.read _ none.says; counted = none.counted })

pub returns-in_err-reply : goal.returns-in_err-reply
returns-in_err-reply g c =
    let why = c.in_err-reply.field-0.0 in
    let is : c.from_residual-in_err-reply.result ≡ Err why = search rules in
    rw is (stops_at _ why _ _ _ c.in_ok-payload.ensures.ok.1 c.in_err-reply.ensures.why (c.in_err-reply.ensures.err _))

pub returns-in-Reply : goal.returns-in-Reply
returns-in-Reply g c =
    let told : IsWholeAnswer c.args.op.now c.in_ok-payload.payload.now (Ok c.in-Reply.reply) = rw c.in-Reply.is at c.in_ok-reply.ensures.ok in
    (told.may, told.valid, subst (ReadsWhole _ _) told.is c.in_ok-payload.ensures.ok.1)

pub returns-in-Error : goal.returns-in-Error
returns-in-Error g c =
    let told : IsWholeAnswer c.args.op.now c.in_ok-payload.payload.now (Err c.in-Error.error) = rw c.in-Error.is at c.in_ok-reply.ensures.ok in
    (told.may, told.valid, subst (ReadsWhole _ _) told.is c.in_ok-payload.ensures.ok.1)

pub returns-in_err-items-in-Count : goal.returns-in_err-items-in-Count
returns-in_err-items-in-Count g c =
    let payload = c.in_ok-payload.payload.now in
    let begins : IsCountOfAll c.args.op.now payload c.in-Count.count = rw c.in-Count.is at c.in_ok-reply.ensures.ok in
    let read = c.in_ok-payload.ensures.ok in
    let cut = c.in_err-items-in-Count.ensures.err in
    let why = c.in_err-items-in-Count.field-0.0 in
    let is : c.from_residual-in_err-items-in-Count.result ≡ Err why = search rules in
    rw is (stops_behind _ _ _ (frame payload) read.1 _ _ why cut (all_breaks c.args.op.now payload read.0 c.in-Count.count begins why cut.read _ cut.says))

pub returns-in_ok-items-in-Count : goal.returns-in_ok-items-in-Count
returns-in_ok-items-in-Count g c =
    let payload = c.in_ok-payload.payload.now in
    let begins : IsCountOfAll c.args.op.now payload c.in-Count.count = rw c.in-Count.is at c.in_ok-reply.ensures.ok in
    let read = c.in_ok-payload.ensures.ok in
    rw c.from_pairs.ensures (is_all c.args.op.now payload read.0 c.in-Count.count begins c.in_ok-items-in-Count.items.items _ _ _ c.in_ok-items-in-Count.ensures.valid read.1 c.in_ok-items-in-Count.ensures.ok)
