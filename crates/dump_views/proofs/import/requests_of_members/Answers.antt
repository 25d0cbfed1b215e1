use Rattle.std.proofs.Common.{◌<◌, ◌≤◌, length, refl}
use Rattle.std.proofs.lemmas.Result.{err_from_is_err_and}
use Rattle.json.specs.Value.{members_view}
use Rattle.dump_views.specs.Import.{member_list}
use Rattle.dump_views.specs.Private.Reading.{member_of}
use Rattle.dump_views.proofs.Members.{numbers_at, HasRead-none, HasRead-then, HasRead-whole, bad_member, entry_at, length-members}
use Rattle.dump_views.proofs.import.requests_of_members.Goals as goal

pub read_member-requires : goal.read_member-requires
read_member-requires c =
    let is = c.deref-member-items.ensures.value in
    let at = rw is at c.member-item.is in
    let inside = rw is at c.loop-place-test.true in
    rw at (numbers_at c.args.members.now.items c.loop-place.place c.member-item.result c.requires inside)

pub loop-place-init : goal.loop-place-init
loop-place-init c = HasRead-none _ _ _ (λ name. rw c.new-names.ensures.empty refl) c.new-stream.ensures.items

pub loop-place-preserved : goal.loop-place-preserved
loop-place-preserved c =
    let ms = c.args.members.now.items in
    let is = c.deref-member-items.ensures.value in
    let at = rw is at c.member-item.is in
    let inside = rw is at c.loop-place-test.true in
    let listed : c.loop-place.place < length (member_list (members_view ms)) = rw length-members inside in
    HasRead-then (member_list (members_view ms)) c.loop-place.place c.loop-place.names c.loop-place.stream.items c.loop-place.invariant
    (member_of c.member-item.result) listed (entry_at ms c.loop-place.place c.member-item.result inside at) _ _ (c.in_ok-domain.domain, c.in_ok-domain.bundle)
    c.in_ok-domain.ensures.ok.0 c.in_ok-domain.ensures.ok.1 c.in_ok-insert_name.ensures c.in_ok-put_request.ensures.ok

pub returns-clause-ok : goal.returns-clause-ok
returns-clause-ok c =
    let ms = c.args.members.now.items in
    let is = c.deref-member-items.ensures.value in
    let past = rw is at c.loop-place-test.false in
    let all : length (member_list (members_view ms)) ≤ c.loop-place.place = rw length-members past in
    HasRead-whole (member_list (members_view ms)) c.loop-place.place c.loop-place.names c.loop-place.stream.items c.loop-place.invariant all

pub returns-in_err-domain-clause-err : goal.returns-in_err-domain-clause-err
returns-in_err-domain-clause-err c =
    let ms = c.args.members.now.items in
    let is = c.deref-member-items.ensures.value in
    let at = rw is at c.member-item.is in
    let inside = rw is at c.loop-place-test.true in
    let listed : c.loop-place.place < length (member_list (members_view ms)) = rw length-members inside in
    let bad = bad_member (member_list (members_view ms)) c.loop-place.place c.loop-place.names c.loop-place.stream.items c.loop-place.invariant
    (member_of c.member-item.result) listed (entry_at ms c.loop-place.place c.member-item.result inside at) in
    let p = err_from_is_err_and c.from_residual.result c.from_residual.ensures.1 in
    rw (p.1, p.2) (bad _ c.in_err-domain.ensures.err)
