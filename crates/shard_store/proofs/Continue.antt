-- Answers of a pass, one after another.
use Rattle.std.proofs.Common.{◌≡◌, ℕ, ◌+◌, ◌≤◌, Bool, true, false, if◌then◌else◌, List, [], ◌∷◌, ◌++◌, length, Ok, Err, length-append, sym, refl, ap, ◌∙◌, subst, arith}
use Rattle.std.proofs.lemmas.List.{append-nil}
use Rattle.map_core.specs.declared.op.Op.{Op}
use Rattle.map_core.specs.declared.reply.Reply.{Reply}
use Rattle.map_core.specs.declared.reply.AskError.{AskError}
use Rattle.map_core.specs.declared.reply.AskError.TheVariants.{Memory, Worn, Moved, Held, GateShut}
use Rattle.map_core.specs.Reply.{is_change}
use Rattle.shard_store.specs.declared.change.Change.{Change}
use Rattle.shard_store.specs.declared.change.Seen.{Seen}
use Rattle.shard_store.specs.Changes.{change_of, Extends, own_number}
use Rattle.shard_store.specs.Pass.{StoreView}
use Rattle.shard_store.specs.Promise.{IsLater, IsReply, IsRefused}
use Rattle.shard_store.specs.Laws.{UnchangedIsLater, AnswersContinue, RepliesFollow}
use Rattle.shard_store.proofs.Promise.{later_then, alone_later, extends_then, answered_since}
use Rattle.shard_store.proofs.Readings.{moved_since}

answered_later : (op : Op) (s t : Seen) (reply : Reply) → IsReply op s reply t → is_change reply ≡ false → IsLater t s
answered_later op s t reply a same = (extends_then s a.0 t.log a.1 (a.5 same), a.3)

pub refused_later : (store : StoreView) (op : Op) (s t : Seen) (e : AskError) → IsRefused store op s t e → IsLater t s
refused_later store op s t Memory r = r
refused_later store op s t (Worn i) r = r.0
refused_later store op s t (Held i k) r = r.0
refused_later store op s t (Moved i k m) r = r.0
refused_later store op s t GateShut r = absurd r

pub unchanged_later : UnchangedIsLater
unchanged_later store op s t (Ok reply) a same = answered_later op s t reply a same
unchanged_later store op s t (Err e) a same = refused_later store op s t e a

longer_later : (s t : Seen) → IsLater t s → length s.log ≤ length t.log
longer_later s t l = let size : length t.log ≡ length s.log + length l.0.0 = ap (λ (x : List Change). length x) l.0.1 ∙ length-append s.log l.0.0 in omega arith

refused_continues : (store : StoreView) (op : Op) (s t u : Seen) (e : AskError) → IsLater t s → IsRefused store op t u e → IsRefused store op s u e
refused_continues store op s t u Memory l r = later_then s t u l r
refused_continues store op s t u (Worn i) l r = (later_then s t u l r.0, r.1)
refused_continues store op s t u (Held i k) l r = (later_then s t u l r.0, (λ alone. r.1 (alone_later s t l alone)), r.2, r.3)
refused_continues store op s t u (Moved i k m) l r = let more : length s.log ≤ length t.log = longer_later s t l in let rounds = r.5 in
    (later_then s t u l r.0, (λ alone. r.1 (alone_later s t l alone)), r.2, r.3, moved_since store.id.slots i k m s t u l r.4, omega arith)
refused_continues store op s t u GateShut l r = absurd r

pub answers_continue : AnswersContinue
answers_continue store op s t u (Ok reply) l a = answered_since op s t u reply l a
answers_continue store op s t u (Err e) l a = refused_continues store op s t u e l a

pub replies_follow : RepliesFollow
replies_follow store first second s t u one two p q = (p.0, q.0, p.1, p.2, by_kind (is_change one) refl, q.2)
  where
    ends : List Change → Seen
    ends new = record s { log = p.0 ++ new }

    at_ranges : (log : List Change) → Extends q.0 (record t { log = log }) → Extends q.0 (record s { log = log })
    at_ranges log x = subst (λ (r : List (ℕ × ℕ)). Extends q.0 (record { log = log; ranges = r })) p.3 x

    by_kind : (b : Bool) → is_change one ≡ b → Extends q.0 (ends (if b then change_of first p.0 (own_number s.ranges) ∷ [] else []))
    by_kind true is = at_ranges (p.0 ++ change_of first p.0 (own_number s.ranges) ∷ []) (subst (λ (log : List Change). Extends q.0 (record t { log = log })) (p.4 is) q.1)
    by_kind false is = subst (λ (log : List Change). Extends q.0 (record s { log = log })) (sym (append-nil p.0))
        (extends_then (record s { log = p.0 }) t.log q.0 (p.5 is) (at_ranges t.log q.1))
