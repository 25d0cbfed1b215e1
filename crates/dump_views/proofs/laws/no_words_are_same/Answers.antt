use Rattle.dump_views.proofs.WordLaws.{no_words_are_same}
use Rattle.dump_views.proofs.laws.no_words_are_same.Goals as goal

pub returns : goal.returns
returns c = no_words_are_same
