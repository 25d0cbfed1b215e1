use Rattle.wire.proofs.RequestPayloads.{found_is, only_is}
use Rattle.wire.proofs.request.payload.request_of_payload.Goals as goal

pub returns-clause-found : goal.returns-clause-found
returns-clause-found c = found_is c.args.payload.now c.read_payload.result (λ i. (c.type_inv.payload i).fits) c.read_payload.ensures

pub returns-clause-only : goal.returns-clause-only
returns-clause-only c = only_is c.args.payload.now c.read_payload.result c.read_payload.ensures
