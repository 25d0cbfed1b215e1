use Rattle.std.proofs.Common.{◌≡◌, ◌<◌, length, map, ◌∙◌, ap, inl, inr, arith}
use Rattle.std.proofs.lemmas.Result.{err_from_is_err_and}
use Rattle.std.proofs.lemmas.List.{length-map}
use Rattle.spiffe_doc.specs.Private.Borrowed.{tree_data}
use Rattle.spiffe_doc.specs.Private.EntrySet.{take_in}
use Rattle.spiffe_doc.specs.Private.Fronts.{listed}
use Rattle.spiffe_doc.proofs.EntryLists.{read_none, read_one_more, read_to_fault, read_all, outcome-tree, elements-list_data}
use Rattle.spiffe_doc.proofs.document.front_of.Goals as goal

pub loop-place-init : goal.loop-place-init
loop-place-init g c = record { read = rw c.in_ok-set.ensures.none (read_none _); whole = c.in_ok-set.ensures.whole }

pub returns-in_err-take_entry-clause-exact : goal.returns-in_err-take_entry-clause-exact
returns-in_err-take_entry-clause-exact g c =
    let p = err_from_is_err_and c.from_residual-in_err-take_entry.result c.from_residual-in_err-take_entry.ensures.1 in
    let inside : c.loop-place.place < length c.args.entries.now.items = omega arith in
    let same = outcome-tree c.args.entries.now.items c.loop-place.place c.entry-item.result inside (rw (c.deref-entry-items.ensures.value) at c.entry-item.is) in
    let fits : c.loop-place.place < length (map tree_data c.args.entries.now.items) = rw length-map inside in
    rw (p.1, p.2, elements-list_data) (elim c.in_err-take_entry.ensures.exact [
      | inl memory ↦ inl memory
      | inr fault ↦ inr (read_to_fault (map tree_data c.args.entries.now.items) c.loop-place.place (listed c.loop-place.set.front) _ c.loop-place.invariant.read fits (ap (take_in c.loop-place.place (listed c.loop-place.set.front)) same ∙ fault))
    ])

pub loop-place-preserved : goal.loop-place-preserved
loop-place-preserved g c =
    let inside : c.loop-place.place < length c.args.entries.now.items = omega arith in
    let same = outcome-tree c.args.entries.now.items c.loop-place.place c.entry-item.result inside (rw (c.deref-entry-items.ensures.value) at c.entry-item.is) in
    record {
      whole = c.in_ok-take_entry.ensures.whole;
      read = read_one_more (map tree_data c.args.entries.now.items) c.loop-place.place (listed c.loop-place.set.front) _ c.loop-place.invariant.read (ap (take_in c.loop-place.place (listed c.loop-place.set.front)) same ∙ c.in_ok-take_entry.ensures.exact);
    }

pub returns-clause-exact : goal.returns-clause-exact
returns-clause-exact g c =
    let all : c.loop-place.place ≡ length (map tree_data c.args.entries.now.items) = rw length-map (omega arith) in
    rw elements-list_data (read_all (map tree_data c.args.entries.now.items) (listed c.loop-place.set.front) (rw all at c.loop-place.invariant.read))
