use Rattle.std.proofs.Common.{rules, ◌≡◌, ◌≢◌, [], length, Err}
use Rattle.std.proofs.lemmas.List.{nil_from_length}
use Rattle.client.proofs.OneLine.{asks_nothing, others_broken, asks_all, not_flushed}
use Rattle.client.proofs.line.ask_line.Goals as goal

pub returns-then-is_empty-clause-ok : goal.returns-then-is_empty-clause-ok
returns-then-is_empty-clause-ok g c =
    let none : length c.args.request.now ≡ 0 = search rules in
    asks_nothing c.args.how c.args.request.now _ _ _ (nil_from_length c.args.request.now none)

pub returns-in_err-show_others-clause-err : goal.returns-in_err-show_others-clause-err
returns-in_err-show_others-clause-err g c =
    let fault = c.in_err-show_others.field-0.0 in
    let is : c.from_residual-in_err-show_others.result ≡ Err fault = search rules in
    let some : c.args.request.now ≢ [] = search rules in
    let told = c.in_ok-first.ensures.ok in
    rw (is, c.show_others.ensures.same_to) (others_broken c.args.how c.args.request.now told.reply _ _ _ _ told.until some c.in_ok-first.first.refused c.in_ok-first.first.bundles _ _ told.first fault _ _ c.in_err-show_others.ensures.err)

pub returns-in-Ok-clause-ok : goal.returns-in-Ok-clause-ok
returns-in-Ok-clause-ok g c =
    let some : c.args.request.now ≢ [] = search rules in
    let told = c.in_ok-first.ensures.ok in
    rw c.show_others.ensures.same_to (asks_all c.args.how c.args.request.now told.reply _ _ _ _ told.until some c.in_ok-first.first.refused c.in_ok-first.first.bundles _ _ told.first
    _ _ c.in_ok-show_others.ensures.ok _ c.in-Ok.ensures.bytes)

pub returns-in-Err-clause-err : goal.returns-in-Err-clause-err
returns-in-Err-clause-err g c =
    let some : c.args.request.now ≢ [] = search rules in
    let told = c.in_ok-first.ensures.ok in
    rw c.show_others.ensures.same_to (not_flushed c.args.how c.args.request.now told.reply _ _ _ _ told.until some c.in_ok-first.first.refused c.in_ok-first.first.bundles _ _ told.first
    _ _ c.in_ok-show_others.ensures.ok _ c.in-Err.ensures.bytes)
