use Rattle.std.proofs.Common.{◌++◌, ap, sym, ◌∙◌, subst, append_assoc}
use Rattle.wire.specs.Output.{WritesFront}
use Rattle.frame_front.specs.Private.Pending.{domains_left, reply_left}
use Rattle.wire.proofs.OutputLemmas.{WritesFront-longer}
use Rattle.frame_front.proofs.GatheredLemmas.{Takes-all, Takes-then, Takes-cut, Takes-unsent}
use Rattle.frame_front.proofs.pending.PendingReply.write.Goals as goal

pub returns-in_err-put-clause-front : goal.returns-in_err-put-clause-front
returns-in_err-put-clause-front g c =
    let old = c.args.self.now in
    let ready = c.args.ready.now.items in
    let bytes = old.head.items ++ c.text.result.now in
    let whole = append_assoc old.head.items c.text.result.now (domains_left old) ∙ ap (λ b. old.head.items ++ b) (sym c.text.ensures.left) in
    subst (WritesFront _ _) (append_assoc ready bytes (domains_left old) ∙ ap (λ t. ready ++ t) whole)
    (WritesFront-longer _ _ (ready ++ bytes) (domains_left old) (rw c.as_slice.ensures.value at c.in_err-put.ensures.front))

pub returns-in_err-put_domains-clause-front : goal.returns-in_err-put_domains-clause-front
returns-in_err-put_domains-clause-front g c =
    let old = c.args.self.now in
    let bytes = old.head.items ++ c.text.result.now in
    let whole = append_assoc old.head.items c.text.result.now (domains_left old) ∙ ap (λ b. old.head.items ++ b) (sym c.text.ensures.left) in
    Takes-cut _ _ c.args.ready.now.items bytes c.put.new.ready.items (rw c.as_slice.ensures.value at c.in_ok-put.ensures.ok) (domains_left old) (reply_left old) whole _ c.in_err-put_domains.ensures.front

pub returns-in_err-write_flushed-clause-front : goal.returns-in_err-write_flushed-clause-front
returns-in_err-write_flushed-clause-front g c =
    let old = c.args.self.now in
    let bytes = old.head.items ++ c.text.result.now in
    let whole = append_assoc old.head.items c.text.result.now (domains_left old) ∙ ap (λ b. old.head.items ++ b) (sym c.text.ensures.left) in
    let takes = Takes-then _ _ c.args.ready.now.items bytes c.put.new.ready.items (rw c.as_slice.ensures.value at c.in_ok-put.ensures.ok) (domains_left old) (reply_left old) whole _ c.put_domains.new.ready.items c.in_ok-put_domains.ensures.ok in
    Takes-unsent _ _ c.args.ready.now.items (reply_left old) c.put_domains.new.ready.items takes _ (rw c.as_slice-2.ensures at c.in_err-write_flushed.ensures.front)

pub returns-clause-ok : goal.returns-clause-ok
returns-clause-ok g c =
    let old = c.args.self.now in
    let bytes = old.head.items ++ c.text.result.now in
    let whole = append_assoc old.head.items c.text.result.now (domains_left old) ∙ ap (λ b. old.head.items ++ b) (sym c.text.ensures.left) in
    let takes = Takes-then _ _ c.args.ready.now.items bytes c.put.new.ready.items (rw c.as_slice.ensures.value at c.in_ok-put.ensures.ok) (domains_left old) (reply_left old) whole _ c.put_domains.new.ready.items c.in_ok-put_domains.ensures.ok in
    Takes-all _ _ c.args.ready.now.items (reply_left old) c.put_domains.new.ready.items takes _ (rw c.as_slice-2.ensures at c.in_ok-write_flushed.ensures.ok)

pub returns-clause-front : goal.returns-clause-front
returns-clause-front g c =
    let old = c.args.self.now in
    let bytes = old.head.items ++ c.text.result.now in
    let whole = append_assoc old.head.items c.text.result.now (domains_left old) ∙ ap (λ b. old.head.items ++ b) (sym c.text.ensures.left) in
    let takes = Takes-then _ _ c.args.ready.now.items bytes c.put.new.ready.items (rw c.as_slice.ensures.value at c.in_ok-put.ensures.ok) (domains_left old) (reply_left old) whole _ c.put_domains.new.ready.items c.in_ok-put_domains.ensures.ok in
    Takes-unsent _ _ c.args.ready.now.items (reply_left old) c.put_domains.new.ready.items takes _ (rw c.as_slice-2.ensures at c.in_ok-write_flushed.ensures.front)
