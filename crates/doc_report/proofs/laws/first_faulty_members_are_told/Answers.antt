use Rattle.doc_report.proofs.FaultyMembers.{faulty_member-LacksMember}
use Rattle.doc_report.proofs.laws.first_faulty_members_are_told.Goals as goal

pub returns : goal.returns
returns c = faulty_member-LacksMember
