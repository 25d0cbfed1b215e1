-- What is read leaves the map as it was.
use Rattle.std.proofs.Common.{◌≡◌, ℕ, List, Bool, true, false, Option, Some, Result, Ok, Err, refl, sym, ap, ◌∙◌}
use Rattle.map_core.specs.declared.op.Op.{Op}
use Rattle.map_core.specs.declared.op.Op.TheVariants.{Set, SetIf, Append, Remove, Get, FetchAll, FetchUnless}
use Rattle.map_core.specs.declared.reply.Reply.{Reply}
use Rattle.map_core.specs.declared.reply.AskError.{AskError}
use Rattle.map_core.specs.PlainMap.{PlainMap, ask}
use Rattle.map_core.specs.Ask.{AnswersPlainly, PlainAnswer}
use Rattle.workers.specs.Gate.{AnsweredBehind}
use Rattle.map_core.specs.Op.{is_read}
use Rattle.workers.specs.ReadOnly.{ReadAnswer}
use Rattle.map_core.proofs.Asks.{kept_left}
use Rattle.map_core.specs.Table.{meaning}

fetch_all_leaves : (m : PlainMap) → (ask m FetchAll).map ≡ m
unfolding ask meaning
fetch_all_leaves m = refl

fetch_unless_leaves : (m : PlainMap) (known : List ℕ) → (ask m (FetchUnless known)).map ≡ m
unfolding ask meaning
fetch_unless_leaves m known = refl

pub reads_change_nothing : (m : PlainMap) (op : Op) → is_read op ≡ true → (ask m op).map ≡ m
reads_change_nothing m (Get d) read = sym (kept_left m (Get d) d (ask m (Get d)).reply refl)
reads_change_nothing m FetchAll read = fetch_all_leaves m
reads_change_nothing m (FetchUnless known) read = fetch_unless_leaves m known
reads_change_nothing m (Set d b) read = cc
reads_change_nothing m (SetIf d e b) read = cc
reads_change_nothing m (Append d a) read = cc
reads_change_nothing m (Remove d) read = cc

module _ {S : Type 0} (answers : S → Op → Result Reply AskError → S → Type 0) (shows : S → Option PlainMap)
    (plainly : AnswersPlainly answers shows) where
  -- a read that was answered
  after_read : (m : PlainMap) (op : Op) (answer : Result Reply AskError) (shown : Option PlainMap) → is_read op ≡ true → PlainAnswer m op answer shown → shown ≡ Some m
  after_read m op (Ok reply) shown read answered = answered.1 ∙ ap Some (reads_change_nothing m op read)
  after_read m op (Err e) shown read answered = answered

  behind : (old new : S) (op : Op) (answer : Result Reply AskError) (m : PlainMap) (is_open : Bool) → is_read op ≡ is_open → shows old ≡ Some m
      → AnsweredBehind answers is_open old op answer new → shows new ≡ Some m
  behind old new op answer m true read shown answered = after_read m op answer (shows new) read (plainly old op answer new m shown answered)
  behind old new op answer m false read shown shut = ap shows shut.1 ∙ shown

  pub shown_as_before : (old new : S) (op : Op) (answer : Result Reply AskError) (m : PlainMap) → shows old ≡ Some m → ReadAnswer answers old op answer new → shows new ≡ Some m
  shown_as_before old new op answer m shown answered = behind old new op answer m (is_read op) refl shown answered
