use Rattle.std.proofs.Common.{take, arith, length-take-le, get_or-take, rules}
use Rattle.std.proofs.lemmas.Nat.{be_bytes_4}
use Rattle.wire.proofs.frame.length_field.Goals as goal

pub returns-clause-bytes : goal.returns-clause-bytes
returns-clause-bytes c =
    let bytes = c.args.bytes.now in
    be_bytes_4 (take 4 bytes) _ (length-take-le 4 bytes c.requires) (λ i. grind (arith, get_or-take, c.type_inv.bytes i)) (search (rules, get_or-take))
