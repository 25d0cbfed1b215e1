-- What a store's call says, by what its shards said.
use Rattle.std.proofs.Common.{◌≡◌, ℕ, ◌<◌, true≢false, List, Option, None, refl, sym, ap, ◌∙◌, subst}
use Rattle.std.specs.Prelude.{MatchOption, MatchResult, Result, Ok, Err}
use Rattle.spiffe_doc.specs.Authority.{BundleValue}
use Rattle.map_core.specs.declared.op.Op.{Op}
use Rattle.map_core.specs.declared.op.Op.TheVariants.{FetchAll}
use Rattle.map_core.specs.declared.reply.Reply.{Reply}
use Rattle.map_core.specs.declared.reply.AskError.{AskError}
use Rattle.map_core.specs.declared.reply.AskError.TheVariants.{Memory, Worn, Moved, Held, GateShut}
use Rattle.map_core.specs.Reply.{is_change}
use Rattle.map_core.specs.declared.reply.Reply.TheVariants.{All}
use Rattle.map_core.specs.Name.{Name}
use Rattle.map_core.specs.Op.{known_of}
use Rattle.map_core.specs.Table.{fetched}
use Rattle.map_core.specs.PlainMap.{bundles, shard_of}
use Rattle.map_core.proofs.MapLaws.{fetch_reply}
use Rattle.map_core.proofs.Asks.{fetch_all, fetched_quiet}
use Rattle.shard_store.specs.declared.change.Seen.{Seen}
use Rattle.shard_store.specs.Changes.{after}
use Rattle.shard_store.specs.Pass.{StoreView}
use Rattle.shard_store.specs.Promise.{Concerns, IsReply, IsRefused, StoreAnswer}
use Rattle.shard_store.specs.Private.Seat.{ShardAnswer}
use Rattle.shard_store.proofs.Promise.{refused_at, at_each, fetch_has_no_home}
use Rattle.shard_store.proofs.Changes.{not_some}

by_shard : (r : Result Reply AskError) (store : StoreView) (op : Op) (s t : Seen) → ShardAnswer store.id.slots op s r t → StoreAnswer store op s r t
by_shard (Ok reply) store op s t a = a
by_shard (Err e) store op s t a = refused_at store op s t e a

same_items : (xs ys : List (Name × BundleValue)) → All xs ≡ All ys → xs ≡ ys
same_items xs ys e = cc

-- what may be answered to a fetch-all may be answered to an operation that is for no shard, by the digest that it knows
pub any_fetch : (n : ℕ) (op : Op) (s t : Seen) (all : List (Name × BundleValue)) (reply : Reply) → shard_of n op ≡ None → reply ≡ fetched (known_of op) all → IsReply FetchAll s (All all) t → IsReply op s reply t
any_fetch n op s t all reply none is a = (
  a.0,
  a.1,
  is ∙ ap (fetched (known_of op)) (same_items all (bundles (after a.0)) (a.2 ∙ fetch_all (after a.0))) ∙ sym (fetch_reply n (after a.0) op none),
  a.3,
  (λ write. absurd (true≢false (sym write ∙ ap is_change is ∙ fetched_quiet (known_of op) all))),
  λ _. a.5 refl,
)

-- and is refused as one
inside_each : (n i : ℕ) → Concerns n FetchAll i → i < n
inside_each n i inside = subst (λ (o : Option ℕ). MatchOption o (i < n) (λ home. i ≡ home)) (fetch_has_no_home n) inside

pub any_refused : (store : StoreView) (op : Op) (s t : Seen) (e : AskError) → shard_of store.id.slots op ≡ None → IsRefused store FetchAll s t e → IsRefused store op s t e
any_refused store op s t Memory none r = r
any_refused store op s t (Worn i) none r = absurd (not_some i (sym (fetch_has_no_home store.id.slots) ∙ r.1.0))
any_refused store op s t (Held i k) none r = (r.0, r.1, at_each store.id.slots i op none (inside_each store.id.slots i r.2), r.3)
any_refused store op s t (Moved i k m) none r = (r.0, r.1, none, r.3, r.4, r.5)
any_refused store op s t GateShut none r = absurd r

-- the answer of one shard, by another name of what was seen
pub shard_answers : (r : Result Reply AskError) (store : StoreView) (op : Op) (s s' t : Seen) → s ≡ s' → ShardAnswer store.id.slots op s r t → StoreAnswer store op s' r t
shard_answers r store op s s' t e a = by_shard r store op s' t (subst (λ (x : Seen). ShardAnswer store.id.slots op x r t) e a)

all_at : (r : Result Reply AskError) (store : StoreView) (op : Op) (s t : Seen) → MatchResult r (λ reply. IsReply op s reply t) (IsRefused store op s t) → StoreAnswer store op s r t
all_at (Ok reply) store op s t a = a
all_at (Err e) store op s t a = a

-- and that of all shards
pub all_answers : (r : Result Reply AskError) (store : StoreView) (op : Op) (s s' t : Seen) → s ≡ s' → MatchResult r (λ reply. IsReply op s reply t) (IsRefused store op s t) → StoreAnswer store op s' r t
all_answers r store op s s' t e a = subst (λ (x : Seen). StoreAnswer store op x r t) e (all_at r store op s t a)
