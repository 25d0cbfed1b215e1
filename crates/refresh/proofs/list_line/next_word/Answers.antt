use Rattle.std.proofs.Common.{sym}
use Rattle.refresh.proofs.ListWords.{next_word, next_comment, next_none}
use Rattle.refresh.proofs.list_line.next_word.Goals as goal
use Rattle.refresh.proofs.list_line.next_word.Goals.{in_default-via-in-Some+else-not-is_comment, in_default-via-in_default}

pub returns-in-Some : goal.returns-in-Some
returns-in-Some c = next_word c.args.words.now c.next.new.self c.in-Some.word c.in-Some.ensures.steps (sym c.if-not-is_comment.ensures)

pub returns-in_default : goal.returns-in_default
returns-in_default c = elim c.in_default.branch [
  | in_default-via-in-Some+else-not-is_comment w ↦ next_comment c.args.words.now c.next.new.self w.in-Some.word w.in-Some.ensures.steps (sym w.if-not-is_comment.ensures)
  | in_default-via-in_default w ↦ next_none c.args.words.now c.next.new.self w.in_default.ensures.steps
]
