use Rattle.json.specs.Value.{members_view}
use Rattle.dump_views.specs.Import.{member_list}
use Rattle.dump_views.proofs.Members.{HasRead}
use Rattle.dump_views.proofs.import.requests_of_members.Given as goal

abbrev pub invariant-loop-place : goal.invariant-loop-place
invariant-loop-place l = HasRead (member_list (members_view l.members.items)) l.place l.names l.stream.items
