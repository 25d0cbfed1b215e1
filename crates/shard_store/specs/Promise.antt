-- What a call says of the changes that its pass has seen, before it and after it.
use Rattle.std.specs.Prelude.{◌≡◌, ℕ, ◌+◌, ◌^◌, ◌<◌, ◌≤◌, true, false, List, [], ◌∷◌, ◌++◌, length, Some, None, Result, Ok, Err, MatchOption}
use Rattle.map_core.specs.declared.op.Op.{Op}
use Rattle.map_core.specs.declared.reply.Reply.{Reply}
use Rattle.map_core.specs.declared.reply.AskError.{AskError}
use Rattle.map_core.specs.declared.reply.AskError.TheVariants.{Memory, Worn, Moved, Held, GateShut}
use Rattle.map_core.specs.Reply.{is_change}
use Rattle.map_core.specs.PlainMap.{ask, shard_of}
use Rattle.shard_store.specs.declared.change.Change.{Change}
use Rattle.shard_store.specs.declared.change.Seen.{Seen}
use Rattle.shard_store.specs.Changes.{after, change_of, count, HasNumber, Extends, own_number}
use Rattle.shard_store.specs.Pass.{StoreView, PassView, HeldPassView, IsOf}

-- t has seen all that s had and besides only changes of others, and has its numbers
abbrev pub IsLater : Seen → Seen → Type 0
IsLater t s = Extends t.log s × (t.ranges ≡ s.ranges)

-- no other pass has a number
abbrev pub IsAlone : Seen → Type 0
IsAlone s = (k : ℕ) → k < 4294967296 → HasNumber s.ranges k

-- The reply is the plain map's after a list that extends what was seen. If it tells of a change, the log is that
-- list and the operation's change, under the pass's own number; else the log extends the list.
abbrev pub IsReply : Op → Seen → Reply → Seen → Type 0
IsReply op s reply t = (list : List Change) × Extends list s × (reply ≡ (ask (after list) op).reply) × (t.ranges ≡ s.ranges)
    × (is_change reply ≡ true → t.log ≡ list ++ change_of op list (own_number s.ranges) ∷ [])
    × (is_change reply ≡ false → Extends t.log (record { log = list; ranges = s.ranges }))

-- the shard, of n, is the operation's home; of a fetch-all, one of the n
abbrev pub Concerns : ℕ → Op → ℕ → Type 0
Concerns n op shard = MatchOption (shard_of n op) (shard < n) (λ home. shard ≡ home)

-- The shard, of n, was changed while it was read: it has the second revision at the end.
abbrev pub HasMoved : ℕ → Seen → Seen → ℕ → ℕ → ℕ → Type 0
HasMoved n s t shard first second = (count n s.log shard ≤ first) × (first < second) × (second ≡ count n t.log shard)

-- the operation would change the map after these changes, and its shard, of n, has no revision left
abbrev pub IsWorn : ℕ → Op → List Change → ℕ → Type 0
IsWorn n op log shard = (shard_of n op ≡ Some shard) × (count n log shard ≡ 2 ^ 62) × (is_change (ask (after log) op).reply ≡ true)

-- What a refusal by one shard says, of n. It adds no change of the pass.
abbrev pub IsRefusedAt : ℕ → Op → Seen → Seen → AskError → Type 0
IsRefusedAt n op s t Memory = IsLater t s
IsRefusedAt n op s t (Worn shard) = IsLater t s × IsWorn n op t.log shard
IsRefusedAt n op s t (Held shard revision) = IsLater t s × (¬ IsAlone s) × Concerns n op shard × (revision ≡ count n t.log shard)
IsRefusedAt n op s t (Moved shard first second) = ⊥
IsRefusedAt n op s t GateShut = ⊥

-- What a refusal by the store says. It adds no change of the pass. Moved comes only to a fetch-all, and each of its
-- rounds saw a change of others.
abbrev pub IsRefused : StoreView → Op → Seen → Seen → AskError → Type 0
IsRefused store op s t Memory = IsRefusedAt store.id.slots op s t Memory
IsRefused store op s t (Worn shard) = IsRefusedAt store.id.slots op s t (Worn shard)
IsRefused store op s t (Held shard revision) = IsRefusedAt store.id.slots op s t (Held shard revision)
IsRefused store op s t (Moved shard first second) = IsLater t s × (¬ IsAlone s) × (shard_of store.id.slots op ≡ None) × (shard < store.id.slots)
    × HasMoved store.id.slots s t shard first second × (length s.log + store.rounds ≤ length t.log)
IsRefused store op s t GateShut = ⊥

-- What the store answers to a pass that had seen s, and has seen t then.
abbrev pub StoreAnswer : StoreView → Op → Seen → Result Reply AskError → Seen → Type 0
StoreAnswer store op s (Ok reply) t = IsReply op s reply t
StoreAnswer store op s (Err e) t = IsRefused store op s t e

-- The shard is held and has the revision that the log says; or another pass held it or changed it meanwhile, and the
-- pass comes back, with the revision that its log says.
abbrev pub HoldAnswer : StoreView → ℕ → Seen → Result HeldPassView (PassView × AskError) → Type 0
HoldAnswer store shard s (Ok h) = (h.store ≡ store.id) × IsLater h.seen s × (h.shard ≡ shard)
HoldAnswer store shard s (Err r) = IsOf r.0 store × IsLater r.0.seen s × (¬ IsAlone s) × (r.1 ≡ Held shard (count store.id.slots r.0.seen.log shard))
