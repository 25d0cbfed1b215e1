use Rattle.frame_front.proofs.ChangeLetters.{change_letters}
use Rattle.frame_front.proofs.laws.letters_tell_changes.Goals as goal

pub returns : goal.returns
returns c = change_letters
