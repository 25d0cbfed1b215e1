-- What a store answers after transient answers it answers from the start.
use Rattle.std.proofs.Common.{◌≡◌, ℕ, zero, suc, Bool, true, false, refl, sym, subst, ◌∙◌}
use Rattle.std.specs.Prelude.{Result, Ok, Err}
use Rattle.map_core.specs.declared.op.Op.{Op}
use Rattle.map_core.specs.declared.reply.Reply.{Reply}
use Rattle.map_core.specs.declared.reply.AskError.{AskError}
use Rattle.map_core.specs.declared.reply.AskError.TheVariants.{Memory}
use Rattle.shard_store.specs.declared.change.Seen.{Seen}
use Rattle.shard_store.specs.Pass.{StoreView, SeatedView}
use Rattle.shard_store.specs.Promise.{IsLater, StoreAnswer}
use Rattle.shard_store.specs.Seated.{SeatedAnswer}
use Rattle.shard_store.proofs.Changes.{extends_none}
use Rattle.shard_store.proofs.Continue.{refused_later, answers_continue}
use Rattle.workers.specs.Retrying.{is_transient, LastAnswer, AskedAgain}

-- a transient answer has done nothing
later_of : (store : StoreView) (op : Op) (s : Seen) (first : Result Reply AskError) (t : Seen) → is_transient first ≡ true → StoreAnswer store op s first t → IsLater t s
later_of store op s (Ok reply) t transient a = cc
later_of store op s (Err error) t transient a = refused_later store op s t error a

last_answer : (has_room : Bool) (old : SeatedView) (op : Op) (answer : Result Reply AskError) (new : SeatedView) → LastAnswer SeatedAnswer has_room old op answer new → SeatedAnswer old op answer new
last_answer true old op answer new answered = answered
last_answer false old op answer new refused =
    let same = subst (λ (s : SeatedView). SeatedAnswer old op (Err Memory) s) (sym refused.1) (refl, (extends_none old.seen, refl)) in
    subst (λ (a : Result Reply AskError). SeatedAnswer old op a new) (sym refused.0) same

pub seated_since : (n : ℕ) (has_room : Bool) (old : SeatedView) (op : Op) (answer : Result Reply AskError) (new : SeatedView)
    → AskedAgain SeatedAnswer n has_room old op answer new → SeatedAnswer old op answer new
seated_since zero has_room old op answer new asked = last_answer has_room old op answer new asked
seated_since (suc n) has_room old op answer new asked =
    let mid = asked.1 in
    let last = seated_since n has_room mid op answer new asked.4 in
    let same = asked.3.0 in
    let later = later_of old.store op old.seen asked.0 mid.seen asked.2 asked.3.1 in (
      last.0 ∙ same,
      answers_continue old.store op old.seen mid.seen new.seen answer later
          (subst (λ (store : StoreView). StoreAnswer store op mid.seen answer new.seen) same last.1),
    )
