-- A fetch-all that nobody disturbs, in its first round.
use Rattle.std.proofs.Common.{◌≡◌, ℕ, ◌<◌, ◌==◌, cond, List, [], length, take, Option, None, Result, Ok, Err, IfOk, ◌⊎◌, inl, ⊎_elim, arith, refl, sym, ap, subst, ◌∙◌}
use Rattle.std.proofs.lemmas.Grind.{elements}
use Rattle.map_core.specs.declared.op.Op.{Op}
use Rattle.map_core.specs.Op.{known_of}
use Rattle.map_core.specs.declared.reply.Reply.{Reply}
use Rattle.map_core.specs.declared.reply.AskError.{AskError}
use Rattle.map_core.specs.declared.reply.AskError.TheVariants.{Memory}
use Rattle.map_core.specs.PlainMap.{ask, shard_of}
use Rattle.map_core.proofs.MapLaws.{fetch_reply}
use Rattle.step_core.specs.Shard.{ShardVersion}
use Rattle.step_core.specs.Phase.{Phase, Collecting, Confirming, Done, start_phase, start_phase_at, snapshot_reply}
use Rattle.step_core.specs.TaskView.{TaskView}
use Rattle.step_core.specs.Task.{out_of_memory}
use Rattle.step_core.specs.Shards.{map_of}
use Rattle.step_core.proofs.Points.{numbers_apart, by_number}

-- with k shards read
abbrev pub gathering : List ShardVersion → ℕ → Phase
gathering vs k = cond (k == length vs) (Confirming 1 vs 0) (Collecting 1 (take k vs))

-- with k shards confirmed
abbrev pub confirming : Option (List ℕ) → List ShardVersion → ℕ → Phase
confirming known vs k = cond (k == length vs) (Done (Ok (snapshot_reply (length vs) known vs))) (Confirming 1 vs k)

-- the task is in this phase, unless there was no memory
pub record IsAt (n : ℕ) (known : Option (List ℕ)) (task : TaskView) (there : Phase) : Type 0 where
  pub shards : task.shards ≡ n
  pub rounds : task.rounds ≡ 1
  pub known_is : task.known ≡ known
  pub phase : (task.phase ≡ there) ⊎ (task.phase ≡ out_of_memory)

begins : (n : ℕ) (op : Op) → shard_of n op ≡ None → start_phase n op ≡ Collecting 1 []
begins n op none = ap start_phase_at none

pub begun_at_none : (n : ℕ) (vs : List ShardVersion) (op : Op) (task : TaskView) → 0 < length vs → n ≡ length vs → shard_of (length vs) op ≡ None → task ≡ record { shards = n; rounds = 1; known = known_of op; phase = start_phase n op }
    → IsAt (length vs) (known_of op) task (gathering vs 0)
begun_at_none n vs op task some size at is =
    let none : take 0 vs ≡ [] = grind (arith, elements) in
    record {
      shards = ap (λ (t : TaskView). t.shards) is ∙ size;
      rounds = ap (λ (t : TaskView). t.rounds) is;
      known_is = ap (λ (t : TaskView). t.known) is;
      phase = inl (ap (λ (t : TaskView). t.phase) is ∙ begins n op (ap (λ k. shard_of k op) size ∙ at) ∙ sym (ap (λ b. cond b (Confirming 1 vs 0) (Collecting 1 (take 0 vs))) (numbers_apart 0 (length vs) (λ e. omega (arith, some, e))) ∙ ap (Collecting 1) none));
    }

done_same : (a b : Result Reply AskError) → Done a ≡ Done b → a ≡ b
done_same a b e = cc

-- with all shards confirmed it has the plain map's reply, unless there was no memory
pub answered_alone : (vs : List ShardVersion) (op : Op) (task : TaskView) (k : ℕ) (result : Result Reply AskError) → shard_of (length vs) op ≡ None → k ≡ length vs → IsAt (length vs) (known_of op) task (confirming (known_of op) vs k)
    → task.phase ≡ Done result → IfOk result (λ reply. reply ≡ (ask (map_of vs) op).reply)
answered_alone vs op task k result none whole at done =
    let all : Reply = snapshot_reply (length vs) (known_of op) vs in
    let asked : all ≡ (ask (map_of vs) op).reply = sym (fetch_reply (length vs) (map_of vs) op none) in
    let told : confirming (known_of op) vs k ≡ Done (Ok all) =
    by_number (λ b. cond b (Done (Ok all)) (Confirming 1 vs k) ≡ Done (Ok all)) k (length vs) (λ _. refl) (λ ne. absurd (ne whole)) in
    ⊎_elim
    (λ (e : task.phase ≡ confirming (known_of op) vs k). subst (λ r. IfOk r (λ reply. reply ≡ (ask (map_of vs) op).reply)) (sym (done_same result (Ok all) (sym done ∙ e ∙ told))) asked)
    (λ (e : task.phase ≡ out_of_memory). subst (λ r. IfOk r (λ reply. reply ≡ (ask (map_of vs) op).reply)) (sym (done_same result (Err Memory) (sym done ∙ e))) tt)
    at.phase
