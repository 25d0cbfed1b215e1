use Rattle.client.proofs.MapAnswers.{map_answers}
use Rattle.client.proofs.laws.maps_answer_as_clients_take.Goals as goal

pub returns : goal.returns
returns c = map_answers
