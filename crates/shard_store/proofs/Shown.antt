-- A get that is answered to a viewer by what was read last.
use Rattle.std.proofs.Common.{◌≡◌, ℕ, Option, Some, None, sym, ap, ◌∙◌, subst}
use Rattle.std.specs.Prelude.{Result, Ok, Err, IfOk}
use Rattle.std.specs.Result.{IsErrAnd}
use Rattle.std.specs.declared.alloc.AllocError.{AllocError}
use Rattle.spiffe_doc.specs.Authority.{BundleValue}
use Rattle.map_core.specs.Name.{Name}
use Rattle.map_core.specs.declared.op.Op.{Op}
use Rattle.map_core.specs.declared.op.Op.TheVariants.{Get}
use Rattle.map_core.specs.declared.reply.Reply.{Reply}
use Rattle.map_core.specs.declared.reply.Reply.TheVariants.{Found}
use Rattle.map_core.specs.declared.reply.AskError.{AskError}
use Rattle.map_core.specs.Ask.{ShowsGet}
use Rattle.map_core.specs.Reply.{is_change}
use Rattle.map_core.specs.PlainMap.{PlainMap, ask, home, shard_of}
use Rattle.map_core.proofs.Asks.{get_changes_nothing}
use Rattle.shard_store.specs.declared.change.Seen.{Seen}
use Rattle.shard_store.specs.Numbers.{IsPart}
use Rattle.shard_store.specs.Promise.{IsLater, IsReply}
use Rattle.shard_store.specs.Private.Seat.{ShardAnswer}
use Rattle.shard_store.proofs.LastReads.{refused_at_later}
use Rattle.shard_store.proofs.Promise.{answered_by_read}

module _ (n shard : ℕ) (op : Op) (d : Name) (s t : Seen) (part : PlainMap) (is_get : op ≡ Get d) (at : shard_of n op ≡ Some shard) (later : IsLater t s) (shows_part : IsPart n shard t.log part) where
  one : (reply : Reply) → reply ≡ (ask part (Get d)).reply → IsReply op s reply t
  one reply is = let here : reply ≡ (ask part op).reply = is ∙ ap (λ (o : Op). (ask part o).reply) (sym is_get) in
      answered_by_read n shard op s t part reply at later shows_part here (ap is_change here ∙ sym (get_changes_nothing part op d is_get))

  pub shown_by_part : {V : Type 0} (notes : V → BundleValue → V → Type 0) (old : V) (shown : Option Reply) (new : V)
      → ShowsGet {E = AllocError} notes (λ (answer : Result Reply AllocError). IfOk answer (λ reply. reply ≡ (ask part (Get d)).reply)) old (Ok shown) new
      → ShowsGet {E = AskError} notes (λ (answer : Result Reply AskError). ShardAnswer n op s answer t) old (Ok shown) new
  shown_by_part notes old (Some reply) new shows = (one reply shows.0, shows.1)
  shown_by_part notes old None new shows = (shows.0, one (Found shows.0) shows.1, shows.2)

-- an error that was passed on is answered as one
pub shown_error : {V : Type 0} (notes : V → BundleValue → V → Type 0) (P : Result Reply AskError → Type 0) (old : V) (result : Result (Option Reply) AskError) (new : V) (e : AskError) → IsErrAnd result (λ x. x ≡ e) → P (Err e) → new ≡ old → ShowsGet notes P old result new
shown_error notes P old (Ok shown) new e is answered same = absurd is
shown_error notes P old (Err x) new e is answered same = (subst (λ (y : AskError). P (Err y)) (sym is) answered, same)

pub answer_ranges : (n : ℕ) (op : Op) (s t : Seen) (answer : Result Reply AskError) → ShardAnswer n op s answer t → t.ranges ≡ s.ranges
answer_ranges n op s t (Ok reply) a = a.3
answer_ranges n op s t (Err e) a = (refused_at_later n op s t e a).1

-- the shard of a get
pub get_at : (n k : ℕ) (d : Name) (shard : ℕ) → k ≡ n → shard ≡ home k d → shard_of n (Get d) ≡ Some shard
unfolding shard_of
get_at n k d shard size is = ap Some (sym (is ∙ ap (λ j. home j d) size))
