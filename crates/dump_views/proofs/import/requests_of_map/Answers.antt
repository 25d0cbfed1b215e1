use Rattle.std.proofs.Common.{sym}
use Rattle.std.proofs.lemmas.Result.{IfOk-weaker, IfErr-weaker}
use Rattle.json.specs.Value.{value_view, members_view}
use Rattle.dump_views.proofs.Maps.{numbers_in, listed_is, fault_of_map}
use Rattle.dump_views.proofs.import.requests_of_map.Goals as goal

pub requests_of_members-requires : goal.requests_of_members-requires
requests_of_members-requires c =
    let found = rw c.in-Some.is at c.domain_members.ensures in
    numbers_in (value_view c.in_ok-tree.tree) (members_view c.in-Some.members.now.items) c.in_ok-tree.ensures.1 (sym found)

pub returns-clause-ok : goal.returns-clause-ok
returns-clause-ok c =
    let found = rw c.in-Some.is at c.domain_members.ensures in
    let lists = listed_is c.args.file.now (value_view c.in_ok-tree.tree) (members_view c.in-Some.members.now.items) c.in_ok-tree.ensures.0 (sym found) in
    IfOk-weaker c.requests_of_members.result _ _ (λ stream is. (is.0, (_, lists, is.1), is.2)) c.requests_of_members.ensures.ok

pub returns-clause-err : goal.returns-clause-err
returns-clause-err c =
    let found = rw c.in-Some.is at c.domain_members.ensures in
    let lists = listed_is c.args.file.now (value_view c.in_ok-tree.tree) (members_view c.in-Some.members.now.items) c.in_ok-tree.ensures.0 (sym found) in
    IfErr-weaker c.requests_of_members.result _ _ (λ error bad. fault_of_map c.args.file.now _ error lists bad) c.requests_of_members.ensures.err
