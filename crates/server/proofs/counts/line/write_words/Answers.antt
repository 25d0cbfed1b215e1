use Rattle.std.proofs.Common.{◌≡◌, ℕ, suc, ◌+◌, ◌<◌, List, [], take, length, get_or, sym, subst, arith}
use Rattle.std.specs.Io.KnownBytes.{Appends}
use Rattle.std.proofs.KnownBytes.{Appends-trans}
use Rattle.server.specs.Counts.{names, word, words}
use Rattle.server.proofs.CountWords.{words_next}
use Rattle.server.proofs.counts.line.write_words.Goals as goal

pub loop-place-preserved : goal.loop-place-preserved
loop-place-preserved g c =
    let place = c.loop-place.place in
    let numbers = c.args.numbers.now in
    let start = g.W.Write.contents c.args.line.now in
    let mid = g.W.Write.contents c.loop-place.line in
    let end = g.W.Write.contents c.write_word.new.line in
    let below : place < length names = omega (arith, c.loop-place-test.true) in
    let other : place < length numbers = omega (arith, c.loop-place-test.true) in
    let next : place + 1 ≡ suc place = omega arith in
    let all = Appends-trans start mid end (words (take place names) (take place numbers)) (word (get_or names place []) (get_or numbers place 0)) c.loop-place.invariant c.in_ok-write_word.ensures in
    let longer = subst (λ (bytes : List ℕ). Appends start end bytes) (sym (words_next names numbers place below other)) all in
    subst (λ (n : ℕ). Appends start end (words (take n names) (take n numbers))) (sym next) longer
