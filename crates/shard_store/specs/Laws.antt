-- Laws of what passes have seen.
use Rattle.std.specs.Prelude.{◌≡◌, ℕ, false, if◌then◌else◌, List, [], ◌∷◌, ◌++◌, Some, Result, Ok, Err, nat_eq}
use Rattle.std.specs.List.{filter}
use Rattle.map_core.specs.declared.op.Op.{Op}
use Rattle.map_core.specs.declared.reply.Reply.{Reply}
use Rattle.map_core.specs.declared.reply.AskError.{AskError}
use Rattle.map_core.specs.Reply.{is_change}
use Rattle.map_core.specs.PlainMap.{ask, shard_of}
use Rattle.shard_store.specs.declared.change.Change.{Change}
use Rattle.shard_store.specs.declared.change.Seen.{Seen}
use Rattle.shard_store.specs.Changes.{after, change_of, HasNumber, Extends, own_number}
use Rattle.shard_store.specs.Pass.{StoreView}
use Rattle.shard_store.specs.Promise.{IsLater, IsAlone, StoreAnswer}

-- the changes that bear the number
abbrev pub changes_of : ℕ → List Change → List Change
changes_of k log = filter (λ c. nat_eq c.number k) log

-- A list that extends what a pass has seen holds, under each number of the pass, just the changes that it had seen.
abbrev pub KeepsOwnChanges : Type 0
KeepsOwnChanges = (list : List Change) (s : Seen) (k : ℕ) → Extends list s → HasNumber s.ranges k → changes_of k list ≡ changes_of k s.log

-- A pass that is alone has seen all changes.
abbrev pub AloneHasSeenAll : Type 0
AloneHasSeenAll = (list : List Change) (s : Seen) → IsAlone s → Extends list s → list ≡ s.log

-- What was seen later is later than all that was seen before.
abbrev pub LaterIsLater : Type 0
LaterIsLater = (s t u : Seen) → IsLater t s → IsLater u t → IsLater u s

-- The change of an operation leaves the map that the operation leaves.
abbrev pub ChangesAsAsked : Type 0
ChangesAsAsked = (n i : ℕ) (op : Op) (list : List Change) (k : ℕ) → shard_of n op ≡ Some i → after (list ++ change_of op list k ∷ []) ≡ (ask (after list) op).map

-- the answer tells of no change: an error does not, nor do some replies
abbrev pub TellsNoChange : Result Reply AskError → Type 0
TellsNoChange (Ok reply) = is_change reply ≡ false
TellsNoChange (Err e) = Unit {0}

-- After such an answer the pass has seen what it had, and besides that only changes of others.
abbrev pub UnchangedIsLater : Type 0
UnchangedIsLater = (store : StoreView) (op : Op) (s t : Seen) (answer : Result Reply AskError)
    → StoreAnswer store op s answer t → TellsNoChange answer → IsLater t s

-- What a pass is answered after it has seen more is also an answer to what it had seen before. So asking something
-- that changes nothing, and then the operation, is answered as the operation by itself.
abbrev pub AnswersContinue : Type 0
AnswersContinue = (store : StoreView) (op : Op) (s t u : Seen) (answer : Result Reply AskError)
    → IsLater t s → StoreAnswer store op t answer u → StoreAnswer store op s answer u

-- the change that the reply tells of, if any, which was made after the list under the number
abbrev pub change_reported : Reply → Op → List Change → ℕ → List Change
change_reported reply op list number = if is_change reply then change_of op list number ∷ [] else []

-- Two replies to a pass, one after the other, are replies of one history: the second is given after a list that
-- begins with the first one's list and the change that the first reply told of, and else has only changes of others.
abbrev pub RepliesFollow : Type 0
RepliesFollow = (store : StoreView) (first second : Op) (s t u : Seen) (one two : Reply)
    → StoreAnswer store first s (Ok one) t → StoreAnswer store second t (Ok two) u
    → (earlier : List Change) × (later : List Change) × Extends earlier s × (one ≡ (ask (after earlier) first).reply)
    × Extends later (record s { log = earlier ++ change_reported one first earlier (own_number s.ranges) }) × (two ≡ (ask (after later) second).reply)
