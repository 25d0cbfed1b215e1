use Rattle.std.proofs.Common.{rules, ◌≡◌, Err}
use Rattle.client.specs.declared.client_error.ClientError.TheVariants.{WriteFault}
use Rattle.client.proofs.Requests.{not_sent, not_read}
use Rattle.client.proofs.exchange.ask_once.Goals as goal

pub returns-in_err-send-clause-err : goal.returns-in_err-send-clause-err
returns-in_err-send-clause-err g c =
    let is : c.from_residual.result ≡ Err WriteFault = search rules in
    rw is (not_sent c.args.request.now _ _ _ c.in_err-send.ensures.front)

pub returns-in_err-payload-clause-err : goal.returns-in_err-payload-clause-err
returns-in_err-payload-clause-err g c =
    let error = c.in_err-payload.field-0.0 in
    let is : c.from_residual-in_err-payload.result ≡ Err error = search rules in
    let cut = c.in_err-payload.ensures.err in
    rw is (not_read error c.args.request.now cut.read _ _ _ _ c.in_ok-send.ensures.ok cut.consumes cut.says)
