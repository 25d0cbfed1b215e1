use Rattle.std.proofs.Common.{◌≡◌, false, sym, ap, ◌∙◌}
use Rattle.spiffe_doc.proofs.NameLemmas.{trust_domain-IsName}
use Rattle.dump_views.specs.Private.Names.{has}
use Rattle.dump_views.specs.Private.Reading.{member_of}
use Rattle.dump_views.proofs.Members.{bad_value}
use Rattle.dump_views.proofs.member.read_member.Goals as goal

pub returns-in-Err-read_value-clause-err : goal.returns-in-Err-read_value-clause-err
returns-in-Err-read_value-clause-err c =
    let name = c.in-Ok.ensures.ok in
    let same = (trust_domain-IsName c.args.member.now.0.now c.in-Ok.domain name.0).0 in
    let new : has c.args.names.now c.args.member.now.0.now ≡ false = ap (has c.args.names.now) (sym same) ∙ sym c.contains.ensures ∙ c.if-contains.false in
    rw c.bad_member-in-Err-read_value.ensures
    (bad_value c.args.place _ (member_of c.args.member.now) c.in-Err-read_value.fault name.1 new c.in-Err-read_value.ensures.err)
