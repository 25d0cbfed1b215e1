-- Linearizability (Herlihy and Wing, 1990): each operation of a concurrent run takes effect at one moment between its invocation and
-- its response, as if no other were under way.
use Rattle.std.specs.Prelude.{◌≡◌, ℕ, ◌+◌, ◌<◌, ◌≤◌, Bool, List, [], ◌∷◌, filter, Option, IfSome, IsPermutation}

-- an operation as its caller saw it. Events are the moments of a run, counted from 0
pub record Operation (Op Reply : Type 0) : Type 0 where
  -- tells it from the others of the run
  pub id : ℕ
  pub op : Op
  pub invoked : ℕ
  -- none while it is under way
  pub responded : Option ℕ
  -- none if it has none, since it is under way or has failed
  pub reply : Option Reply
  pub took_effect : Bool

-- From this event on, each operation in turn has a linearization point: an event of the run, inside the operation's interval and later
-- than the point before.
abbrev pub HavePoints : {Op Reply : Type 0} → ℕ → ℕ → List (Operation Op Reply) → Type 0
HavePoints events from [] = Unit {0}
HavePoints events from (o ∷ os) =
    (point : ℕ) × (from ≤ point) × ((o.invoked ≤ point) × (point < events) × IfSome o.responded (λ last. point ≤ last)) × HavePoints events (point + 1) os

-- A sequential specification, applied to the operations in turn from this state on, gives each reply.
abbrev pub GiveReplies : {S Op Reply : Type 0} → (S → Op → Reply × S) → S → List (Operation Op Reply) → Type 0
GiveReplies apply s [] = Unit {0}
GiveReplies apply s (o ∷ os) =
    let (reply, next) = apply s o.op in
    IfSome o.reply (λ given. given ≡ reply) × GiveReplies apply next os

-- The order is a linearization of the operations of a run of so many events: it has each one that took effect, once, and no other.
pub record IsLinearization {S Op Reply : Type 0} (apply : S → Op → Reply × S) (start : S) (events : ℕ) (operations order : List (Operation Op Reply)) : Type 0 where
  pub each_once : IsPermutation (filter (λ o. o.took_effect) operations) order
  pub points : HavePoints events 0 order
  pub replies : GiveReplies apply start order
