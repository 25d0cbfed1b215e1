use Rattle.std.proofs.Common.{Ok, sym, ap, ◌∙◌}
use Rattle.spiffe_doc.specs.Private.EntrySet.{with_new}
use Rattle.spiffe_doc.specs.Private.Fronts.{listed}
use Rattle.spiffe_doc.proofs.AuthorityLists.{admitted_one_more}
use Rattle.spiffe_doc.proofs.entry_set.EntrySet.admit.Goals as goal

pub returns-in_ok-add-clause-whole : goal.returns-in_ok-add-clause-whole
returns-in_ok-add-clause-whole g c =
    let before = listed c.args.self.now.front in
    let ok = c.in_ok-admits.ensures ∙ ap (λ new. Ok (with_new new before c.args.entry.now)) c.if-branch.true ∙ ap Ok (sym c.in_ok-add.ensures.added) in
    record {
      valid = admitted_one_more c.args.place before (listed c.add.new.self.front) c.args.entry.now c.requires.whole.valid c.requires.valid ok;
      indexed = c.in_ok-add.ensures.indexed;
      front = c.in_ok-add.ensures.whole;
    }
