use Rattle.std.proofs.Common.{◌≡◌, ◌%◌, ◌-◌, length, [], ◌∷◌, Some, arith}
use Rattle.std.proofs.lemmas.Bool.Decides.{Decides-eqb}
use Rattle.std.proofs.lemmas.Slice.Eq.{strip_suffix_is}
use Rattle.spiffe_doc.proofs.symbols.without_padding.Goals as goal

pub returns-in-Some : goal.returns-in-Some
returns-in-Some c =
    let found = c.in-Some.ensures.cases in
    let two : (4 - length c.in-Some.symbols.now % 4) % 4 ≡ 2 = omega (arith, found.2, c.if-text-ne0.false) in
    rw two (strip_suffix_is Decides-eqb c.args.text.now (61 ∷ 61 ∷ []) (Some c.in-Some.symbols) found)

pub returns-in-Some-strip_suffix : goal.returns-in-Some-strip_suffix
returns-in-Some-strip_suffix c =
    let found = c.in-Some-strip_suffix.ensures.cases in
    let one : (4 - length c.in-Some-strip_suffix.symbols.now % 4) % 4 ≡ 1 = omega (arith, found.2, c.if-text-ne0.false) in
    rw one (strip_suffix_is Decides-eqb c.args.text.now (61 ∷ []) (Some c.in-Some-strip_suffix.symbols) found)
