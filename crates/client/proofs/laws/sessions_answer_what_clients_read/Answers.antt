use Rattle.client.proofs.RequestLaws.{session_answers}
use Rattle.client.proofs.laws.sessions_answer_what_clients_read.Goals as goal

pub returns : goal.returns
returns c = session_answers
