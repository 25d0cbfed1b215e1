use Rattle.std.proofs.Common.{◌≡◌, Ok}
use Rattle.std.proofs.lemmas.Fmt.{parse-decimal}
use Rattle.snapshots.proofs.names.number_of.Goals as goal

pub returns-in-Ok : goal.returns-in-Ok
returns-in-Ok c = λ number small is.
    let reads : c.parse.result ≡ Ok number = parse-decimal 64 number c.args.digits.now c.parse.result small small is c.parse.ensures.value.0 in
    (cc)

pub returns-in-Err : goal.returns-in-Err
returns-in-Err c = λ number small is.
    let reads : c.parse.result ≡ Ok number = parse-decimal 64 number c.args.digits.now c.parse.result small small is c.parse.ensures.value.0 in
    (cc)
