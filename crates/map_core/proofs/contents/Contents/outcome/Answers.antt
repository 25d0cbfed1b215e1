-- Each operation on one name gives the outcome of its row.
use Rattle.std.proofs.Common.{sym, ap, ◌∙◌}
use Rattle.spiffe_doc.specs.Authority.{BundleValue}
use Rattle.map_core.specs.declared.op.Op.{Op}
use Rattle.map_core.specs.Op.{domain_of}
use Rattle.map_core.specs.PlainMap.{ask}
use Rattle.map_core.specs.Table.{On_name, meaning, set, set_if, append, remove, fetched}
use Rattle.map_core.proofs.Asks.{row_reply, row_left, IfOk-row_reply, IfOk-row_left, fetched_reply, fetched_left, is_on_all, kept_left}
use Rattle.map_core.proofs.contents.Contents.outcome.Goals as goal

pub returns-in_ok-copy-in-Set-clause-reply : goal.returns-in_ok-copy-in-Set-clause-reply
unfolding meaning
returns-in_ok-copy-in-Set-clause-reply c = row_reply c.args.self.now c.args.op.now c.in-Set.domain (set c.in_ok-copy-in-Set.field-0) c.set.result _ (ap meaning c.in-Set.is ∙ ap (λ (b : BundleValue). On_name c.in-Set.domain (set b)) (sym c.in_ok-copy-in-Set.ensures)) c.at.ensures c.set.ensures

pub returns-in_ok-copy-in-Set-clause-left : goal.returns-in_ok-copy-in-Set-clause-left
unfolding meaning
returns-in_ok-copy-in-Set-clause-left c = row_left c.args.self.now c.args.op.now c.in-Set.domain (set c.in_ok-copy-in-Set.field-0) c.set.result _ (ap domain_of c.in-Set.is) (ap meaning c.in-Set.is ∙ ap (λ (b : BundleValue). On_name c.in-Set.domain (set b)) (sym c.in_ok-copy-in-Set.ensures)) c.at.ensures c.set.ensures

pub returns-in_ok-copy-in-SetIf-clause-reply : goal.returns-in_ok-copy-in-SetIf-clause-reply
unfolding meaning
returns-in_ok-copy-in-SetIf-clause-reply c = row_reply c.args.self.now c.args.op.now c.in-SetIf.domain (set_if c.in-SetIf.expect c.in_ok-copy-in-SetIf.field-0) c.set_if.result _ (ap meaning c.in-SetIf.is ∙ ap (λ (b : BundleValue). On_name c.in-SetIf.domain (set_if c.in-SetIf.expect b)) (sym c.in_ok-copy-in-SetIf.ensures)) c.at-in-SetIf.ensures c.set_if.ensures

pub returns-in_ok-copy-in-SetIf-clause-left : goal.returns-in_ok-copy-in-SetIf-clause-left
unfolding meaning
returns-in_ok-copy-in-SetIf-clause-left c = row_left c.args.self.now c.args.op.now c.in-SetIf.domain (set_if c.in-SetIf.expect c.in_ok-copy-in-SetIf.field-0) c.set_if.result _ (ap domain_of c.in-SetIf.is) (ap meaning c.in-SetIf.is ∙ ap (λ (b : BundleValue). On_name c.in-SetIf.domain (set_if c.in-SetIf.expect b)) (sym c.in_ok-copy-in-SetIf.ensures)) c.at-in-SetIf.ensures c.set_if.ensures

pub returns-in-Append-clause-reply : goal.returns-in-Append-clause-reply
unfolding meaning
returns-in-Append-clause-reply c = IfOk-row_reply c.args.self.now c.args.op.now c.in-Append.domain (append c.in-Append.authority) c.append.result _ (ap meaning c.in-Append.is) c.at-in-Append.ensures c.append.ensures

pub returns-in-Append-clause-left : goal.returns-in-Append-clause-left
unfolding meaning
returns-in-Append-clause-left c = IfOk-row_left c.args.self.now c.args.op.now c.in-Append.domain (append c.in-Append.authority) c.append.result _ (ap domain_of c.in-Append.is) (ap meaning c.in-Append.is) c.at-in-Append.ensures c.append.ensures

pub returns-in-Remove-clause-reply : goal.returns-in-Remove-clause-reply
unfolding meaning
returns-in-Remove-clause-reply c = row_reply c.args.self.now c.args.op.now c.in-Remove.domain remove c.remove.result _ (ap meaning c.in-Remove.is) c.at-in-Remove.ensures c.remove.ensures

pub returns-in-Remove-clause-left : goal.returns-in-Remove-clause-left
unfolding meaning
returns-in-Remove-clause-left c = row_left c.args.self.now c.args.op.now c.in-Remove.domain remove c.remove.result _ (ap domain_of c.in-Remove.is) (ap meaning c.in-Remove.is) c.at-in-Remove.ensures c.remove.ensures

pub returns-in_ok-get-in-Get-clause-reply : goal.returns-in_ok-get-in-Get-clause-reply
returns-in_ok-get-in-Get-clause-reply c = c.in_ok-get-in-Get.ensures ∙ ap (λ (x : Op). (ask c.args.self.now x).reply) (sym c.in-Get.is)

pub returns-in_ok-get-in-Get-clause-left : goal.returns-in_ok-get-in-Get-clause-left
returns-in_ok-get-in-Get-clause-left c = kept_left c.args.self.now c.args.op.now c.in-Get.domain _ c.in-Get.is

pub returns-in_ok-snapshot-in-FetchAll-clause-reply : goal.returns-in_ok-snapshot-in-FetchAll-clause-reply
returns-in_ok-snapshot-in-FetchAll-clause-reply c =
    c.into_reply.ensures
    ∙ (λ i. fetched (c.known.ensures i) (c.in_ok-snapshot-in-FetchAll.ensures i))
    ∙ sym (fetched_reply c.args.self.now c.args.op.now (is_on_all c.args.op.now c.in-FetchAll.is))

pub returns-in_ok-snapshot-in-FetchAll-clause-left : goal.returns-in_ok-snapshot-in-FetchAll-clause-left
returns-in_ok-snapshot-in-FetchAll-clause-left c = fetched_left c.args.self.now c.args.op.now _ (is_on_all c.args.op.now c.in-FetchAll.is)
