-- What changes nothing may be asked before an operation: the answer is one to what was seen before.
use Rattle.std.proofs.Common.{◌≡◌, ℕ, refl, sym, ap, subst, ◌∙◌}
use Rattle.std.specs.Prelude.{Result, Ok, Err}
use Rattle.map_core.specs.declared.op.Op.{Op}
use Rattle.map_core.specs.declared.op.Op.TheVariants.{Get}
use Rattle.map_core.specs.declared.reply.Reply.{Reply}
use Rattle.map_core.specs.declared.reply.AskError.{AskError}
use Rattle.map_core.specs.Name.{Name}
use Rattle.map_core.specs.Reply.{is_change}
use Rattle.map_core.proofs.Asks.{get_changes_nothing}
use Rattle.shard_store.specs.declared.change.Seen.{Seen}
use Rattle.shard_store.specs.Changes.{after}
use Rattle.shard_store.specs.Pass.{StoreView, SeatedView}
use Rattle.shard_store.specs.Promise.{IsLater, StoreAnswer}
use Rattle.shard_store.specs.Seated.{SeatedAnswer}
use Rattle.shard_store.proofs.Continue.{unchanged_later, answers_continue}
use Rattle.workers.specs.Retrying.{Retried}
use Rattle.workers.proofs.Retries.{seated_since}

-- asking what stands under a name changes nothing
pub looked_later : (store : StoreView) (d : Name) (s t : Seen) (answer : Result Reply AskError) → StoreAnswer store (Get d) s answer t → IsLater t s
looked_later store d s t (Ok reply) a = unchanged_later store (Get d) s t (Ok reply) a (ap is_change a.2 ∙ sym (get_changes_nothing (after a.0) (Get d) d refl))
looked_later store d s t (Err e) a = unchanged_later store (Get d) s t (Err e) a tt

-- what is answered by asking again is answered
pub patient_answer : (retries : ℕ) (old : SeatedView) (op : Op) (answer : Result Reply AskError) (new : SeatedView)
    → Retried SeatedAnswer retries old op answer new → SeatedAnswer old op answer new
patient_answer retries old op answer new asked = seated_since asked.0 asked.3 old op answer new asked.4

pub continued : (old mid new : SeatedView) (op : Op) (answer : Result Reply AskError) → mid.store ≡ old.store → IsLater mid.seen old.seen
    → SeatedAnswer mid op answer new → SeatedAnswer old op answer new
continued old mid new op answer same later last = (
  last.0 ∙ same,
  answers_continue old.store op old.seen mid.seen new.seen answer later
      (subst (λ (store : StoreView). StoreAnswer store op mid.seen answer new.seen) same last.1),
)
