use Rattle.std.proofs.Common.{◌≡◌, suc, ◌+◌, slice_index, refl, sym, ap, ◌∙◌, arith}
use Rattle.spiffe_doc.specs.Private.Prefix.{prefix_number}
use Rattle.spiffe_doc.proofs.NameOrder.{prefix-more, prefix-room}
use Rattle.spiffe_doc.proofs.name.prefix_of.Goals as goal

pub loop-place-init : goal.loop-place-init
loop-place-init c = refl

pub overflow_mul-number : goal.overflow_mul-number
overflow_mul-number c =
    let room = prefix-room c.loop-place.place c.args.bytes.now (λ i. omega (arith, c.type_inv.bytes i)) c.loop-place-test.true in
    omega (arith, room, c.loop-place.invariant)

pub overflow_add-number : goal.overflow_add-number
overflow_add-number c =
    let room = prefix-room c.loop-place.place c.args.bytes.now (λ i. omega (arith, c.type_inv.bytes i)) c.loop-place-test.true in
    omega (arith, room, c.loop-place.invariant, c.from.ensures, c.unwrap_or-byte.type_inv)

pub loop-place-preserved : goal.loop-place-preserved
loop-place-preserved c =
    let byte : c.from.result ≡ slice_index c.args.bytes.now c.loop-place.place = rw (c.from.ensures, c.unwrap_or-byte.ensures, c.copied.ensures) (c.get.ensures.lookup.4 (omega arith) 0) in
    let next : suc c.loop-place.place ≡ c.loop-place.place + 1 = omega arith in
    let more = prefix-more c.loop-place.place c.args.bytes.now in
    rw (c.loop-place.invariant, byte) (sym more ∙ ap (λ k. prefix_number k c.args.bytes.now) next)

pub returns : goal.returns
returns c =
    let all : c.loop-place.place ≡ 8 = omega (arith, c.loop-place-test.false, c.loop-place.auto.place-end) in
    c.loop-place.invariant ∙ ap (λ k. prefix_number k c.args.bytes.now) all
