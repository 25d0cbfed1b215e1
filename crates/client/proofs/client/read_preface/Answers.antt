use Rattle.std.proofs.Common.{rules, ◌≡◌, Err, Some, refl, sym, inl, ◌∙◌}
use Rattle.client.specs.Request.{version_for}
use Rattle.client.proofs.ClientLemmas.{version_breaks, other_version}
use Rattle.client.proofs.ReadingLemmas.{stops_at}
use Rattle.client.proofs.client.read_preface.Goals as goal

pub returns-in_err-payload-clause-err : goal.returns-in_err-payload-clause-err
returns-in_err-payload-clause-err g c =
    let none = c.in_err-payload.ensures.err in
    let why = c.in_err-payload.field-0.0 in
    let is : c.from_residual.result ≡ Err why = search rules in
    let needed : version_for c.args.op.now ≡ Some c.in-Some.version = sym c.version_for.ensures ∙ c.in-Some.is in
    rw is (record {
      read = none.read;
      consumes = none.consumes;
      says = version_breaks c.args.op.now c.in-Some.version needed why none.read _ none.says;
      counted = none.counted;
    })

pub returns-else-is_version-clause-err : goal.returns-else-is_version-clause-err
returns-else-is_version-clause-err g c =
    let read = c.in_ok-payload.ensures.ok in
    let needed : version_for c.args.op.now ≡ Some c.in-Some.version = sym c.version_for.ensures ∙ c.in-Some.is in
    stops_at _ _ _ _ _ read.1 (inl refl) (other_version c.args.op.now c.in-Some.version needed c.in_ok-payload.payload.now read.0 (c.is_version.ensures.no c.if-is_version.false))
