-- The laws of the machine, for every list of events.
use Rattle.std.specs.Prelude.{◌≡◌, ℕ, ◌<◌, ◌≤◌, not, Bool, true, false, cond, List, [], ◌∷◌, ◌++◌, map, filter, length, Some, None, Ok, IsPermutation}
use Rattle.std.specs.FinMap as finite
use Rattle.map_core.specs.declared.op.Op.{Op}
use Rattle.map_core.specs.declared.op.Op.TheVariants.{FetchAll, FetchUnless}
use Rattle.map_core.specs.declared.reply.Reply.{Reply}
use Rattle.map_core.specs.Op.{known_of}
use Rattle.map_core.specs.Table.{fetched}
use Rattle.map_core.specs.PlainMap.{PlainMap, ask, bundles}
use Rattle.step_core.specs.declared.trace.OpRecord.{OpRecord}
use Rattle.step_core.specs.declared.event.Event.{Event}
use Rattle.step_core.specs.declared.event.Event.TheVariants.{Begin, Step}
use Rattle.step_core.specs.World.{World, next, fresh_world, world_from}
use Rattle.step_core.specs.Shard.{ShardVersion, reading}
use Rattle.step_core.specs.Phase.{Collecting, Confirming, is_idle}
use Rattle.step_core.specs.Run.{run_of, order_of}
use Rattle.step_core.specs.Trace.{records_of}
use Rattle.step_core.specs.Linearization.{Operation, HavePoints, GiveReplies}
use Rattle.step_core.specs.Records.{operations, all_operations, apply, IsLinearized}

-- The order by points holds each operation that took effect, once, and no other; and each has a linearization point, in this order.
abbrev pub HasPlaces : Type 0
HasPlaces =
    (n rounds : ℕ) (events : List Event) → 0 < n →
    let run = run_of n rounds events in
    let records = records_of run in
    let order = operations records (order_of run) in
    IsPermutation (filter (λ o. o.took_effect) (all_operations records)) order × HavePoints (length events) 0 order

abbrev pub is_fetch_all : Op → Bool
is_fetch_all FetchAll = true
is_fetch_all (FetchUnless known) = true
is_fetch_all op = false

-- the operation, with its reply if it is of this kind
abbrev pub only : (Op → Bool) → Operation Op Reply → Operation Op Reply
only kind o = record { id = o.id; op = o.op; invoked = o.invoked; responded = o.responded; reply = cond (kind o.op) o.reply None; took_effect = o.took_effect }

-- The plain map, asked in the order by points, gives each operation of this kind its reply.
abbrev pub AreAnswered : (Op → Bool) → Type 0
AreAnswered kind =
    (n rounds : ℕ) (events : List Event) → 0 < n → let run = run_of n rounds events in
    GiveReplies apply finite.empty (map (only kind) (operations (records_of run) (order_of run)))

-- Each operation on one name is answered as the plain map does in this order.
abbrev pub NamesAreAnswered : Type 0
NamesAreAnswered = AreAnswered (λ op. not (is_fetch_all op))

-- So is each fetch-all.
abbrev pub FetchesAreAnswered : Type 0
FetchesAreAnswered = AreAnswered is_fetch_all

-- the map after these operations, in this order
abbrev pub map_after : (ℕ → OpRecord) → PlainMap → List ℕ → PlainMap
map_after records m [] = m
map_after records m (r ∷ rs) = map_after records (ask m (records r).op).map rs

-- A fetch-all that is answered shows all bundles of the map as it is at its place in the order, or says that they have the digest that
-- it knows.
abbrev pub ShowsOneMoment : Type 0
ShowsOneMoment =
    (n rounds : ℕ) (events : List Event) → 0 < n →
    let run = run_of n rounds events in
    (q : ℕ) (reply : Reply) → q < run.count → is_fetch_all (run.records q).op ≡ true → (run.records q).reply ≡ Some (Ok reply)
    → (before after : List ℕ) × (order_of run ≡ before ++ q ∷ after) × (reply ≡ fetched (known_of (run.records q).op) (bundles (map_after run.records finite.empty before)))

-- The order by points is a linearization of the run.
abbrev pub HasOneOrder : Type 0
HasOneOrder = (n rounds : ℕ) (events : List Event) → 0 < n → let run = run_of n rounds events in IsLinearized (length events) (records_of run) (order_of run)

-- The run of a list of events is a run of the machine.
abbrev pub RunsMachine : Type 0
RunsMachine = (n rounds : ℕ) (events : List Event) → (run_of n rounds events).world ≡ world_from n rounds fresh_world events

-- A shard whose revision is the same at two moments has held the same part at every moment between them; and no revision goes back.
abbrev pub HoldsBetween : Type 0
HoldsBetween =
    (n rounds : ℕ) (start : World) (before after : List Event) (shard : ℕ) →
    let middle = world_from n rounds start before in
    let later = world_from n rounds middle after in
    ((start.shards shard).revision ≤ (later.shards shard).revision)
    × ((start.shards shard).revision ≡ (later.shards shard).revision → (middle.shards shard).part ≡ (start.shards shard).part)

-- No event of the list, from this world on, begins an operation of the caller: it may ask to begin one, but it is not idle then.
abbrev pub BeginsNothing : ℕ → ℕ → World → ℕ → List Event → Type 0
BeginsNothing n rounds w c [] = Unit {0}
BeginsNothing n rounds w c (Begin other op ∷ events) = (other ≡ c → is_idle (w.phases c) ≡ false) × BeginsNothing n rounds (next n rounds w (Begin other op)) c events
BeginsNothing n rounds w c (event ∷ events) = BeginsNothing n rounds (next n rounds w event) c events

-- Where a caller reads a shard, and later in that round of the same operation comes to confirm it and finds the revision that it read, the
-- shard has held the part that was read at every moment between, whatever the events are, those that do not fit among them.
abbrev pub ConfirmedStood : Type 0
ConfirmedStood =
    (n rounds : ℕ) (start : World) (c round : ℕ) (readings all : List ShardVersion) (before after : List Event) →
    let shard = length readings in
    let read = next n rounds start (Step c) in
    let middle = world_from n rounds read before in
    let later = world_from n rounds middle after in
    start.phases c ≡ Collecting round readings → BeginsNothing n rounds read c (before ++ after) → later.phases c ≡ Confirming round all shard
    → (reading all shard).revision ≡ (later.shards shard).revision → (middle.shards shard).part ≡ (reading all shard).part
