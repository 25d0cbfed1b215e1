use Rattle.std.proofs.Common.{◌<◌, ◌+◌, ℕ, List, [], length, map, get_or, Bor, Some, None, refl, ap, subst, ◌∙◌, arith, Err}
use Rattle.wire.specs.Counted.{end_in}
use Rattle.commands.proofs.Checked.{inside_map, next_name, given_as, unread, no_memory, goes_on, fails}
use Rattle.commands.proofs.check.check_files.Goals as goal

abbrev name_of : Bor (List ℕ) → List ℕ
name_of file = file.now

abbrev blank : Bor (List ℕ)
blank = record { ref_ptr = (0, 0); now = [] }

pub returns-in-Err-Unreadable-clause-checks : goal.returns-in-Err-Unreadable-clause-checks
returns-in-Err-Unreadable-clause-checks g c =
    let gives = g.T.TextSource.gives c.args.texts.now in
    let files = c.args.files.now in
    let place = c.loop-place.place in
    let inside : place < length files = omega arith in
    let name = (get_or files place blank).now in
    let none : gives name None = subst (λ (n : List ℕ). gives n None) c.as_bytes.ensures.value (c.in-Err-Unreadable.ensures.unreadable (ap Err c.in-Err-Unreadable.field-0-is)) in
    unread gives (map name_of files) place c.loop-place.findings (g.W.Write.contents (end_in c.args.out.now)) (g.W.Write.contents (end_in c.loop-place.out)) c.loop-place.invariant.0
    (place + 1) name (inside_map name_of files place inside) refl (next_name name_of files place blank inside) none

pub returns-in-Err-Memory-clause-checks : goal.returns-in-Err-Memory-clause-checks
returns-in-Err-Memory-clause-checks g c =
    no_memory (g.T.TextSource.gives c.args.texts.now) (map name_of c.args.files.now) c.loop-place.place c.loop-place.findings (g.W.Write.contents (end_in c.args.out.now)) (g.W.Write.contents (end_in c.loop-place.out)) c.loop-place.invariant.0

pub returns-in-Err-clause-checks : goal.returns-in-Err-clause-checks
returns-in-Err-clause-checks g c =
    let gives = g.T.TextSource.gives c.args.texts.now in
    let files = c.args.files.now in
    let place = c.loop-place.place in
    let inside : place < length files = omega arith in
    let name = (get_or files place blank).now in
    let text = c.as_slice.result.now in
    let given : gives name (Some text) = given_as gives name c.as_bytes.result.now c.in-Ok.text.items text c.as_bytes.ensures.value c.as_slice.ensures.value c.in-Ok.ensures.ok in
    fails gives (map name_of files) place c.loop-place.findings (g.W.Write.contents (end_in c.args.out.now)) (g.W.Write.contents (end_in c.loop-place.out)) c.loop-place.invariant.0
    (record { name = name; text = text }) given (next_name name_of files place blank inside) c.in-Err.fault (g.W.Write.contents (end_in c.check_document.new.out)) c.in-Err.ensures.checks

pub loop-place-preserved : goal.loop-place-preserved
loop-place-preserved g c =
    let gives = g.T.TextSource.gives c.args.texts.now in
    let files = c.args.files.now in
    let place = c.loop-place.place in
    let inside : place < length files = omega arith in
    let name = (get_or files place blank).now in
    let text = c.as_slice.result.now in
    let given : gives name (Some text) = given_as gives name c.as_bytes.result.now c.in-Ok.text.items text c.as_bytes.ensures.value c.as_slice.ensures.value c.in-Ok.ensures.ok in (
      goes_on gives (map name_of files) place c.loop-place.findings (g.W.Write.contents (end_in c.args.out.now)) (g.W.Write.contents (end_in c.loop-place.out)) c.loop-place.invariant.0
          (record { name = name; text = text }) given (next_name name_of files place blank inside) c.in-Ok-check_document.found c.and-findings.result (g.W.Write.contents (end_in c.check_document.new.out))
          c.in-Ok-check_document.ensures.checks c.and-findings.ensures,
      c.in-Ok-check_document.ensures.quiet ∙ c.loop-place.invariant.1,
    )
