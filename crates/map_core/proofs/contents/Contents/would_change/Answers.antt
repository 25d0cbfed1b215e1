use Rattle.std.proofs.Common.{◌≡◌, Bool, Ok, ap, ◌∙◌}
use Rattle.map_core.specs.Op.{domain_of}
use Rattle.map_core.specs.Reply.{is_change}
use Rattle.map_core.specs.Table.{meaning, remove}
use Rattle.map_core.specs.PlainMap.{ask}
use Rattle.map_core.proofs.Asks.{row_reply, get_changes_nothing, fetched_changes_nothing}
use Rattle.map_core.proofs.contents.Contents.would_change.Goals as goal

pub returns-in-Remove : goal.returns-in-Remove
unfolding meaning
returns-in-Remove c =
    let told : c.into_is_change.result ≡ is_change (ask c.args.self.now c.args.op.now).reply =
    c.into_is_change.ensures ∙ ap is_change (row_reply c.args.self.now c.args.op.now c.in-Remove.domain remove c.remove.result _ (ap meaning c.in-Remove.is) c.at.ensures c.remove.ensures) in
    record { told = told; always = λ h. ap (λ (b : Bool). Ok b) told }

pub returns-in-Get : goal.returns-in-Get
returns-in-Get c =
    let told = get_changes_nothing c.args.self.now c.args.op.now c.in-Get.field-0 c.in-Get.is in
    record { told = told; always = λ h. ap (λ (b : Bool). Ok b) told }

pub returns-in-FetchAll : goal.returns-in-FetchAll
returns-in-FetchAll c =
    let told = fetched_changes_nothing c.args.self.now c.args.op.now (ap domain_of c.in-FetchAll.is) in
    record { told = told; always = λ h. ap (λ (b : Bool). Ok b) told }

pub returns-in-FetchUnless : goal.returns-in-FetchUnless
returns-in-FetchUnless c =
    let told = fetched_changes_nothing c.args.self.now c.args.op.now (ap domain_of c.in-FetchUnless.is) in
    record { told = told; always = λ h. ap (λ (b : Bool). Ok b) told }
