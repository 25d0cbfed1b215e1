-- What stands under a name before a change and after it, and how that is counted.
use Rattle.std.proofs.Common.{◌≡◌, ℕ, true, false, true≢false, cond, List, [], ◌∷◌, ◌++◌, Option, Some, None, sym, refl, ap, ◌∙◌}
use Rattle.std.specs.Prelude.{MatchResult, Result, Ok, Err, option_map, option_and_then}
use Rattle.std.specs.Result.{IsErrAnd}
use Rattle.std.specs.Option.{unwrap_or}
use Rattle.std.specs.FinMap as finite
use Rattle.map_core.specs.declared.held.Standing.{Standing}
use Rattle.map_core.specs.declared.held.Standing.TheVariants.{Nothing, Bundle, Mark}
use Rattle.map_core.specs.declared.op.Op.{Op}
use Rattle.map_core.specs.declared.reply.Reply.{Reply}
use Rattle.map_core.specs.declared.reply.AskError.{AskError}
use Rattle.map_core.specs.Name.{Name}
use Rattle.map_core.specs.Op.{domain_of, known_of}
use Rattle.map_core.specs.Reply.{is_change}
use Rattle.map_core.specs.Table.{standing}
use Rattle.map_core.specs.PlainMap.{PlainMap, ask, home, name_of, shard_of, partition, bundles, standing_for}
use Rattle.map_core.proofs.Maps.{get-put, get-part_home, name_itself}
use Rattle.map_core.proofs.Asks.{fetched_quiet}
use Rattle.map_core.proofs.MapLaws.{ask_keeps, fetch_reply}
use Rattle.shard_store.specs.declared.change.Change.{Change}
use Rattle.shard_store.specs.declared.change.Seen.{Seen}
use Rattle.shard_store.specs.declared.tally.Tally.{Tally}
use Rattle.shard_store.specs.declared.tally.Shift.{Shift}
use Rattle.shard_store.specs.Changes.{after}
use Rattle.shard_store.specs.Numbers.{IsPart}
use Rattle.shard_store.specs.Pass.{StoreView}
use Rattle.shard_store.specs.Promise.{IsReply, IsRefused}
use Rattle.shard_store.specs.Tally.{tallied, CountsAnswer}
use Rattle.shard_store.specs.Private.Seat.{Shifts, ShiftsLast, Writes, change_by}
use Rattle.shard_store.proofs.Changes.{after_one, home_named, not_some}
use Rattle.shard_store.proofs.Promise.{part_after, part_since}

by_name : (n i : ℕ) (m : PlainMap) (o : Option Name) → option_map (home n) o ≡ Some i → option_and_then (finite.get m) o ≡ finite.get m (unwrap_or o [])
by_name n i m (Some d) at = refl
by_name n i m None at = absurd (not_some i at)

under_name : (n i : ℕ) (m : PlainMap) (op : Op) → shard_of n op ≡ Some i → option_and_then (finite.get m) (domain_of op) ≡ finite.get m (name_of op)
unfolding shard_of name_of
under_name n i m op at = by_name n i m (domain_of op) at

-- what stands under an operation's name in the part stands there in the map
standing_of_part : (n i : ℕ) (op : Op) (log : List Change) (contents : PlainMap) → shard_of n op ≡ Some i → IsPart n i log contents → standing_for contents op ≡ standing (finite.get (after log) (name_of op))
standing_of_part n i op log contents at p = ap (λ (m : PlainMap). standing_for m op) p
    ∙ (ap standing (under_name n i (partition n (after log) i) op at) ∙ ap standing (get-part_home n (after log) i (name_of op) (home_named n i op at)))

left_by_change : (log : List Change) (c : Change) → finite.get (after (log ++ c ∷ [])) c.name ≡ c.now
left_by_change log c = ap (λ (m : PlainMap). finite.get m c.name) (after_one log c)
    ∙ (get-put (after log) c.name c.now c.name ∙ ap (λ b. cond b c.now (finite.get (after log) c.name)) (name_itself c.name))

-- what the version says of the operation's change, the map says
pub shifted : (n i : ℕ) (op : Op) (s : Seen) (old new : PlainMap) (reply : Reply) (shift : Shift) → shard_of n op ≡ Some i → IsPart n i s.log old → reply ≡ (ask old op).reply → new ≡ (ask old op).map
    → shift.before ≡ standing_for old op → shift.after ≡ standing_for new op → Shifts op s reply shift
shifted n i op s old new reply shift at p is left before by = (
  (λ _. (
    before ∙ standing_of_part n i op s.log old at p,
    by ∙ (standing_of_part n i op (s.log ++ change_by op s ∷ []) new at (part_after n i op s old new at p left) ∙ ap standing (left_by_change s.log (change_by op s))),
  )),
  λ quiet. before ∙ (ap (λ (m : PlainMap). standing_for m op) (sym (left ∙ ask_keeps old op (ap is_change (sym is) ∙ quiet))) ∙ sym by),
)

-- if the shard has no new change, the same stands under the name
stands_since : (n i : ℕ) (op : Op) (s t : Seen) → shard_of n op ≡ Some i → (w : Writes n i op s t) → finite.get (after s.log) (name_of op) ≡ finite.get (after w.0) (name_of op)
stands_since n i op s t at w = let here = home_named n i op at in sym (get-part_home n (after s.log) i (name_of op) here)
    ∙ (ap (λ (m : PlainMap). finite.get m (name_of op)) (part_since n i s w.0 (partition n (after s.log) i) w.1 w.2 refl) ∙ get-part_home n (after w.0) i (name_of op) here)

-- the change that was written last
pub shifted_last : (n i : ℕ) (op : Op) (s t : Seen) (reply : Reply) (shift : Shift) → shard_of n op ≡ Some i → is_change reply ≡ true → Shifts op s reply shift → Writes n i op s t → ShiftsLast t.log reply shift
shifted_last n i op s t reply shift at write told w = (
  (λ _. let shifts = told.0 write in (w.0, change_by op s, w.3, shifts.0 ∙ ap standing (stands_since n i op s t at w), shifts.1)),
  λ quiet. absurd (true≢false (sym write ∙ quiet)),
)

-- no change
pub shifted_nothing : (log : List Change) (reply : Reply) (shift : Shift) → is_change reply ≡ false → shift.before ≡ shift.after → ShiftsLast log reply shift
shifted_nothing log reply shift quiet same = ((λ write. absurd (true≢false (sym write ∙ quiet))), λ _. same)

tallied_same : (s : Standing) (t : Tally) → tallied s s t ≡ t
tallied_same Nothing t = refl
tallied_same Bundle t = refl
tallied_same Mark t = refl

pub counts_shift : (log : List Change) (reply : Reply) (shift : Shift) (old new : Tally) → ShiftsLast log reply shift → new ≡ tallied shift.before shift.after old → CountsAnswer (Ok reply) log old new
counts_shift log reply shift old new told is = (
  (λ write. let t = told.0 write in (
    t.0,
    t.1,
    t.2,
    is ∙ (ap (λ (b : Standing). tallied b shift.after old) t.3 ∙ ap (λ (a : Standing). tallied (standing (finite.get (after t.0) t.1.name)) a old) t.4),
  )),
  λ quiet. is ∙ (ap (λ (b : Standing). tallied b shift.after old) (told.1 quiet) ∙ tallied_same shift.after old),
)

-- so it is after an error
pub counts_error : (r : Result Reply AskError) (e : AskError) (log : List Change) (old new : Tally) → IsErrAnd r (λ x. x ≡ e) → new ≡ old → CountsAnswer r log old new
counts_error (Ok x) e log old new is same = absurd is
counts_error (Err x) e log old new is same = same

-- nothing was counted
pub counts_nothing : (log : List Change) (reply : Reply) (tally : Tally) → is_change reply ≡ false → CountsAnswer (Ok reply) log tally tally
counts_nothing log reply tally quiet = ((λ write. absurd (true≢false (sym write ∙ quiet))), λ _. refl)

-- an operation on all names changes nothing
all_quiet : (n : ℕ) (op : Op) (s t : Seen) (reply : Reply) → shard_of n op ≡ None → IsReply op s reply t → is_change reply ≡ false
all_quiet n op s t reply none a = ap is_change (a.2 ∙ fetch_reply n (after a.0) op none) ∙ fetched_quiet (known_of op) (bundles (after a.0))

pub all_counts_nothing : (r : Result Reply AskError) (store : StoreView) (op : Op) (s t : Seen) (tally : Tally) → shard_of store.id.slots op ≡ None → MatchResult r (λ reply. IsReply op s reply t) (IsRefused store op s t) → CountsAnswer r t.log tally tally
all_counts_nothing (Ok reply) store op s t tally none a = counts_nothing t.log reply tally (all_quiet store.id.slots op s t reply none a)
all_counts_nothing (Err e) store op s t tally none a = refl
