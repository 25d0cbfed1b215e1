-- What a pass remembers of its last fetch-all: it stays true while the pass sees more, and is the answer while no revision has
-- grown.
use Rattle.std.proofs.Common.{◌≡◌, ℕ, ◌+◌, ◌<◌, ◌≤◌, List, [], ◌∷◌, ◌++◌, Option, Some, length, get_or, sym, refl, ap, ◌∙◌, subst, append_assoc, length-append, arith}
use Rattle.std.proofs.lemmas.List.{append-nil}
use Rattle.std.specs.Prelude.{MatchResult, Result, Ok, Err}
use Rattle.std.specs.declared.sync.Arc.{Arc}
use Rattle.map_core.specs.declared.op.Op.{Op}
use Rattle.map_core.specs.declared.op.Op.TheVariants.{FetchAll}
use Rattle.map_core.specs.declared.reply.Reply.{Reply}
use Rattle.map_core.specs.declared.reply.AskError.{AskError}
use Rattle.map_core.specs.declared.reply.AskError.TheVariants.{Memory, Worn, Moved, Held, GateShut}
use Rattle.map_core.specs.PlainMap.{PlainMap, bundles, home}
use Rattle.map_core.proofs.Maps.{home-lt}
use Rattle.shard_store.specs.declared.change.Change.{Change}
use Rattle.shard_store.specs.declared.change.Seen.{Seen}
use Rattle.shard_store.specs.declared.last_all.LastAll.{LastAll}
use Rattle.shard_store.specs.Changes.{after, count}
use Rattle.shard_store.specs.Pass.{StoreView}
use Rattle.shard_store.specs.Promise.{IsLater, IsReply, IsRefusedAt, IsRefused}
use Rattle.shard_store.specs.Private.Readings.{AreConfirmed, AreRevisions, IsSnapshot}
use Rattle.shard_store.specs.Private.LastAll.{IsDigestOf, WasAll, IsLastAll, IsFetched}
use Rattle.shard_store.proofs.Changes.{count_append, counts_one}
use Rattle.shard_store.proofs.LastReads.{Begins, begins_answered, refused_at_later}
use Rattle.shard_store.proofs.Promise.{alone_later, extends_then, later_then}
use Rattle.shard_store.proofs.Readings.{all_answered, moved_since}

same_all : (r q : LastAll) → Some r ≡ Some q → r ≡ q
same_all r q e = cc

-- it stays so
pub all_longer : (n : ℕ) (log more : List Change) (remembered : Option LastAll) → Begins log more → IsLastAll n log remembered → IsLastAll n more remembered
all_longer n log more remembered b told last e = let was = told last e in
    (was.0, was.1 ++ b.0, b.1 ∙ (ap (λ (x : List Change). x ++ b.0) was.2 ∙ append_assoc was.0 was.1 b.0), was.3, was.4, was.5)

pub all_later : (n : ℕ) (s t : Seen) (remembered : Option LastAll) → IsLater t s → IsLastAll n s.log remembered → IsLastAll n t.log remembered
all_later n s t remembered l told = all_longer n s.log t.log remembered (l.0.0, l.0.1) told

-- also after an answer of one shard
pub all_answered_at : (n : ℕ) (op : Op) (s t : Seen) (answer : Result Reply AskError) (remembered : Option LastAll) → MatchResult answer (λ reply. IsReply op s reply t) (IsRefusedAt n op s t) → IsLastAll n s.log remembered → IsLastAll n t.log remembered
all_answered_at n op s t (Ok reply) remembered a told = all_longer n s.log t.log remembered (begins_answered op s t reply a) told
all_answered_at n op s t (Err e) remembered a told = all_later n s t remembered (refused_at_later n op s t e a) told

-- each change is at home in some shard: if no shard has a new change, no change is new
no_change : (n : ℕ) (new : List Change) → 0 < n → ((k : ℕ) → k < n → count n new k ≡ 0) → new ≡ []
no_change n [] some none = refl
no_change n (c ∷ cs) some none = let here = home n c.name in
    let total : count n (c ∷ cs) here ≡ count n (c ∷ []) here + count n cs here = count_append n (c ∷ []) cs here in
    let one : count n (c ∷ []) here ≡ 1 = counts_one n here c refl in
    let zero : count n (c ∷ cs) here ≡ 0 = none here (home-lt n c.name some) in
    let never : ⊥ = omega arith in absurd never

-- no revision has grown, so the map is the one that was shown
pub still_all : (n : ℕ) (log : List Change) (last : LastAll) → 0 < n → WasAll n log last → AreConfirmed n log last.revisions.items → last.all ≡ bundles (after log)
still_all n log last some was still = let seen = was.0 in let new = was.1 in
    let none : new ≡ [] = no_change n new some (λ k inside.
    let total : count n log k ≡ count n seen k + count n new k = ap (λ (x : List Change). count n x k) was.2 ∙ count_append n seen new k in
    let before : count n seen k ≡ get_or last.revisions.items k 0 = was.3.1 k inside in
    let size : length last.revisions.items ≡ n = was.3.0 in
    let most : count n log k ≤ get_or last.revisions.items k 0 = still k (omega arith) in
    omega arith) in
    was.4 ∙ ap (λ (x : List Change). bundles (after x)) (sym (was.2 ∙ (ap (λ (x : List Change). seen ++ x) none ∙ append-nil seen)))

-- what was fetched may be answered, and remembered
pub fetched : {Z : Type 0} (n : ℕ) (s t : Seen) (vs : List (Arc PlainMap Z)) (last : LastAll) (x : IsSnapshot n s t last.revisions.items vs) → last.all ≡ bundles (after x.0) → IsDigestOf last.all last.digest → IsFetched n s t last
fetched {Z} n s t vs last x is found = (all_answered s t x.0 last.all x.1 x.2 x.3 is, (x.0, x.2.0, x.2.1, x.6, is, found))

-- it is still so once a reply was given by it
pub was_all : (n : ℕ) (log : List Change) (old new : LastAll) → new.revisions.items ≡ old.revisions.items → new.all ≡ old.all → IsDigestOf old.all new.digest → WasAll n log old → WasAll n log new
was_all n log old new revisions all found was =
    (was.0, was.1, was.2, subst (AreRevisions n was.0) (sym revisions) was.3, all ∙ was.4, subst (λ items. IsDigestOf items new.digest) (sym all) found)

-- it may be remembered as it is
pub kept_all : (n : ℕ) (log : List Change) (remembered : Option LastAll) (last : LastAll) → remembered ≡ Some last → WasAll n log last → IsLastAll n log remembered
kept_all n log remembered last is was r e = subst (λ (x : LastAll). WasAll n log x) (same_all last r (sym is ∙ e)) was

-- if it is not answered in the end, more was seen, and nothing else has happened
pub fetched_later : (n : ℕ) (s t : Seen) (last : LastAll) → IsFetched n s t last → IsLater t s
fetched_later n s t last f = let a = f.0 in (extends_then s a.0 t.log a.1 (a.5 refl), a.3)

-- what is refused since more was seen is refused since then
pub refused_all_since : (store : StoreView) (s t u : Seen) (e : AskError) → IsLater t s → IsRefused store FetchAll t u e → IsRefused store FetchAll s u e
refused_all_since store s t u Memory l r = later_then s t u l r
refused_all_since store s t u (Worn i) l r = (later_then s t u l r.0, r.1)
refused_all_since store s t u (Held i k) l r = (later_then s t u l r.0, (λ alone. r.1 (alone_later s t l alone)), r.2, r.3)
refused_all_since store s t u (Moved i k m) l r =
    let more : length t.log ≡ length s.log + length l.0.0 = ap (λ (x : List Change). length x) l.0.1 ∙ length-append s.log l.0.0 in
    let rounds : length t.log + store.rounds ≤ length u.log = r.5 in
    (later_then s t u l r.0, (λ alone. r.1 (alone_later s t l alone)), r.2, r.3, moved_since store.id.slots i k m s t u l r.4, omega arith)
refused_all_since store s t u GateShut l r = absurd r
