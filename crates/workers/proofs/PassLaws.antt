-- What a pass has seen it has seen still after a call, and its numbers stay.
use Rattle.std.proofs.Common.{◌≡◌, Bool, true, false, List, [], ◌∷◌, ◌++◌, refl, sym, ap, ◌∙◌, subst, append_assoc}
use Rattle.std.specs.Prelude.{Result, Ok, Err}
use Rattle.std.proofs.lemmas.List.{append-nil}
use Rattle.map_core.specs.declared.op.Op.{Op}
use Rattle.map_core.specs.declared.reply.Reply.{Reply}
use Rattle.map_core.specs.declared.reply.AskError.{AskError}
use Rattle.map_core.specs.declared.reply.AskError.TheVariants.{Memory, Worn, Moved, Held, GateShut}
use Rattle.map_core.specs.Reply.{is_change}
use Rattle.shard_store.specs.declared.change.Change.{Change}
use Rattle.shard_store.specs.declared.change.Seen.{Seen}
use Rattle.shard_store.specs.Changes.{change_of, own_number}
use Rattle.shard_store.specs.Pass.{StoreView, SeatedView}
use Rattle.shard_store.specs.Promise.{IsLater, IsReply, StoreAnswer}
use Rattle.shard_store.specs.Seated.{SeatedAnswer}
use Rattle.workers.specs.Gate.{AnsweredBehind, GatedAnswer}
use Rattle.workers.specs.Workers.{IsFurther}

pub further_same : (s : Seen) → IsFurther s s
further_same s = (refl, [], sym (append-nil s.log))

pub further_then : (s t u : Seen) → IsFurther t s → IsFurther u t → IsFurther u s
further_then s t u p q = (q.0 ∙ p.0, p.1 ++ q.1, q.2 ∙ (ap (λ (l : List Change). l ++ q.1) p.2 ∙ append_assoc s.log p.1 q.1))

further_later : (s t : Seen) → IsLater t s → IsFurther t s
further_later s t l = (l.1, l.0.0, l.0.1)

further_answered : (op : Op) (s : Seen) (reply : Reply) (t : Seen) → IsReply op s reply t → IsFurther t s
further_answered op s reply t a = let more = by_kind (is_change reply) refl in (a.3, more.0, more.1)
  where
    by_kind : (b : Bool) → is_change reply ≡ b → (new : List Change) × (t.log ≡ s.log ++ new)
    by_kind true is =
        let own : List Change = change_of op a.0 (own_number s.ranges) ∷ [] in
        (a.1.0 ++ own, a.4 is ∙ (ap (λ (l : List Change). l ++ own) a.1.1 ∙ append_assoc s.log a.1.0 own))
    by_kind false is =
        let more = a.5 is in
        (a.1.0 ++ more.0, more.1 ∙ (ap (λ (l : List Change). l ++ more.0) a.1.1 ∙ append_assoc s.log a.1.0 more.0))

further_answer : (store : StoreView) (op : Op) (s : Seen) (result : Result Reply AskError) (t : Seen) → StoreAnswer store op s result t → IsFurther t s
further_answer store op s (Ok reply) t a = further_answered op s reply t a
further_answer store op s (Err Memory) t a = further_later s t a
further_answer store op s (Err (Worn shard)) t a = further_later s t a.0
further_answer store op s (Err (Held shard revision)) t a = further_later s t a.0
further_answer store op s (Err (Moved shard first second)) t a = further_later s t a.0
further_answer store op s (Err GateShut) t a = absurd a

-- the pass stays at its store
abbrev pub StaysSeated : SeatedView → SeatedView → Type 0
StaysSeated old new = (new.store ≡ old.store) × IsFurther new.seen old.seen

pub seated_same : (s : SeatedView) → StaysSeated s s
seated_same s = (refl, further_same s.seen)

pub seated_then : (s t u : SeatedView) → StaysSeated s t → StaysSeated t u → StaysSeated s u
seated_then s t u p q = (q.0 ∙ p.0, further_then s.seen t.seen u.seen p.1 q.1)

pub seated_answer : (s : SeatedView) (op : Op) (answer : Result Reply AskError) (t : SeatedView) → SeatedAnswer s op answer t → StaysSeated s t
seated_answer s op answer t a = (a.0, further_answer s.store op s.seen answer t.seen a.1)

-- and so through a gate
pub seated_behind : (opens : Bool → Type 0) (s : SeatedView) (op : Op) (answer : Result Reply AskError) (t : SeatedView) → GatedAnswer SeatedAnswer opens s op answer t → StaysSeated s t
seated_behind opens s op answer t gated = behind gated.0 gated.2
  where
    behind : (is_open : Bool) → AnsweredBehind SeatedAnswer is_open s op answer t → StaysSeated s t
    behind true a = seated_answer s op answer t a
    behind false a = subst (λ (x : SeatedView). StaysSeated s x) (sym a.1) (seated_same s)
