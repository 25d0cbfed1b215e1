-- A step of one shard among several, and the map that they are together.
use Rattle.std.proofs.Common.{◌≡◌, ◌≢◌, ℕ, ◌<◌, ◌==◌, Bool, true, cond, List, length, get_or, set, get_or-set_same, get_or-set_other, Option, Some, None, Result, Ok, Err, IfOk, OnOk, IfErr, OnErr, ◌⊎◌, inl, inr, ⊎_elim, arith, refl, sym, ap, subst, ◌∙◌}
use Rattle.std.proofs.lemmas.Bool.Decides.{nat_tests}
use Rattle.std.proofs.lemmas.Grind.{elements}
use Rattle.std.proofs.lemmas.List.{set-get_or}
use Rattle.std.specs.FinMap as finite
use Rattle.map_core.specs.declared.op.Op.{Op}
use Rattle.map_core.specs.declared.held.Holding.{Holding}
use Rattle.map_core.specs.declared.reply.Reply.{Reply}
use Rattle.map_core.specs.declared.reply.AskError.{AskError}
use Rattle.map_core.specs.declared.reply.AskError.TheVariants.{Memory, Worn}
use Rattle.map_core.specs.Reply.{is_change}
use Rattle.map_core.specs.PlainMap.{PlainMap, ask, home, shard_of, partition, merge}
use Rattle.map_core.proofs.Maps.{get-part, same_held, together_parts, together_same, part-empty, part-together}
use Rattle.map_core.proofs.MapLaws.{ask_keeps, part_reply, part_home, part_away}
use Rattle.step_core.specs.Shard.{ShardVersion, fresh_shard, reading, last_revision, step_on, of_shard}
use Rattle.step_core.specs.Shards.{map_of, after_step_at, IsWorn, Refuses}
use Rattle.step_core.specs.Private.Parts.{AreParts}
use Rattle.step_core.proofs.Points.{cases_number}

-- what belongs to a shard belongs to it again
same_twice : (b : Bool) (x : Option Holding) → cond b (cond b x None) None ≡ cond b x None
same_twice b x = grind arith

part-part : (n : ℕ) (m : PlainMap) (j : ℕ) → partition n (partition n m j) j ≡ partition n m j
part-part n m j =
    same_held _ _ (λ q. get-part n (partition n m j) j q ∙ ap (λ x. cond (home n q == j) x None) (get-part n m j q) ∙ same_twice (home n q == j) (finite.get m q) ∙ sym (get-part n m j q))

-- ---- one step of a shard
-- a step that answers gives the plain map's reply on its part, and leaves its map
pub record Answered (v : ShardVersion) (op : Op) (r : Reply) (w : ShardVersion) : Type 0 where
  pub reply : r ≡ (ask v.part op).reply
  pub left : w.part ≡ (ask v.part op).map

pub step_answered : (v : ShardVersion) (op : Op) (r : Reply) → (step_on v op).answer ≡ Ok r → Answered v op r (step_on v op).shard
step_answered v op r e = grind (arith, ask_keeps)

-- a step that is refused would change a shard at the last revision
pub record Refused (v : ShardVersion) (op : Op) (e : AskError) : Type 0 where
  pub worn : e ≡ Worn 0
  pub last : v.revision ≡ last_revision
  pub changes : is_change (ask v.part op).reply ≡ true

pub step_refused : (v : ShardVersion) (op : Op) (e : AskError) → (step_on v op).answer ≡ Err e → Refused v op e
step_refused v op e is = grind (arith, nat_tests)

worn_refuses : (v : ShardVersion) (op : Op) (r : Reply) → v.revision ≡ last_revision → is_change (ask v.part op).reply ≡ true → (step_on v op).answer ≡ Ok r → ⊥
worn_refuses v op r last change is = grind (arith, nat_tests)

pub item_here : (vs : List ShardVersion) (k : ℕ) (v : ShardVersion) → v ≡ get_or vs k v → k < length vs → v ≡ reading vs k
item_here vs k v is l = grind (arith, elements)

-- ---- one shard among several
-- what is promised of a step of shard i: of its answer, and of the shards then
pub record Steps (vs : List ShardVersion) (op : Op) (i : ℕ) (r : Result Reply AskError) (new : List ShardVersion) : Type 0 where
  pub reply : IfOk r (λ x. x ≡ (ask (map_of vs) op).reply)
  pub left : OnOk r (map_of new ≡ (ask (map_of vs) op).map)
  pub shards : OnOk r (new ≡ after_step_at vs op (Some i))
  pub fit : OnOk r ((j : ℕ) → IsWorn vs op j → ⊥)
  pub refused : IfErr r (λ e. Refuses vs op e)
  pub err : OnErr r (new ≡ vs)

-- v is the shard at place i, before its step
module _ (vs : List ShardVersion) (op : Op) (i : ℕ) (v : ShardVersion) (item : v ≡ get_or vs i v) (parts : AreParts vs) (at : shard_of (length vs) op ≡ Some i) (small : i < length vs) where
  here : v ≡ reading vs i
  here = item_here vs i v item small

  -- the shard has its part of the map
  own_part : (j : ℕ) → j < length vs → partition (length vs) (map_of vs) j ≡ (reading vs j).part
  own_part j l = part-together (length vs) (λ k. (reading vs k).part) parts.some parts.at_home j l

  here_part : v.part ≡ partition (length vs) (map_of vs) i
  here_part = ap (λ (x : ShardVersion). x.part) here ∙ sym (own_part i small)

  pub reply_here : (ask v.part op).reply ≡ (ask (map_of vs) op).reply
  reply_here = ap (λ (m : PlainMap). (ask m op).reply) here_part ∙ part_reply (length vs) (map_of vs) op i at

  set_size : (w : ShardVersion) → length (set vs i w) ≡ length vs
  set_size w = grind (arith, elements)

  -- after a change of the shard each shard has its part of the map after it
  parts_after : (w : ShardVersion) → w.part ≡ (ask v.part op).map → (j : ℕ) → j < length vs → (reading (set vs i w) j).part ≡ partition (length vs) (ask (map_of vs) op).map j
  parts_after w is j l =
      ⊎_elim (λ (same : j ≡ i).
      ap (λ (x : ShardVersion). x.part) (ap (reading (set vs i w)) same ∙ get_or-set_same vs i w fresh_shard small) ∙ is ∙ ap (λ (m : PlainMap). (ask m op).map) here_part
      ∙ sym (part_home (length vs) (map_of vs) op i at) ∙ ap (partition (length vs) (ask (map_of vs) op).map) (sym same))
      (λ (there : j ≢ i). ap (λ (x : ShardVersion). x.part) (get_or-set_other vs i j w fresh_shard there) ∙ sym (own_part j l) ∙ sym (part_away (length vs) (map_of vs) op i j at there)) (cases_number j i)

  stepped_map : (w : ShardVersion) → w.part ≡ (ask v.part op).map → map_of (set vs i w) ≡ (ask (map_of vs) op).map
  stepped_map w is =
      ap (λ (k : ℕ). merge k (λ j. (reading (set vs i w) j).part)) (set_size w)
      ∙ together_same (length vs) (λ j. (reading (set vs i w) j).part) (partition (length vs) (ask (map_of vs) op).map) (parts_after w is)
      ∙ together_parts (length vs) (ask (map_of vs) op).map parts.some

  stepped_parts : (w : ShardVersion) → w.part ≡ (ask v.part op).map → AreParts (set vs i w)
  stepped_parts w is =
      record {
        some = subst (λ (k : ℕ). 0 < k) (sym (set_size w)) parts.some;
        at_home = λ j l.
            let after = parts_after w is j (subst (λ (k : ℕ). j < k) (set_size w) l) in
            ap (λ (k : ℕ). partition k (reading (set vs i w) j).part j) (set_size w) ∙ ap (λ (m : PlainMap). partition (length vs) m j) after ∙ part-part (length vs) (ask (map_of vs) op).map j ∙ sym after;
      }

  set_same : (w : ShardVersion) → w ≡ v → set vs i w ≡ vs
  set_same w is = ap (set vs i) (is ∙ here) ∙ set-get_or vs i fresh_shard

  -- a shard that is refused as worn is told its number
  refused_as : (e : AskError) → (e ≡ Memory) ⊎ ((step_on v op).answer ≡ Err e) → (told : AskError) × (of_shard i (Err e) ≡ Err told) × Refuses vs op told
  refused_as e h =
      ⊎_elim (λ (is : e ≡ Memory). (Memory, ap (λ x. of_shard i (Err x)) is, inl refl))
      (λ (is : (step_on v op).answer ≡ Err e).
      let refused = step_refused v op e is in
      (Worn i, ap (λ x. of_shard i (Err x)) refused.worn, inr (i, refl, record { home = at; small = small; last = ap (λ (x : ShardVersion). x.revision) (sym here) ∙ refused.last; changes = ap is_change (sym reply_here) ∙ refused.changes }))) h

  -- a step that answers meets no worn shard
  fits : (x : Reply) → (step_on v op).answer ≡ Ok x → (j : ℕ) → IsWorn vs op j → ⊥
  fits x h j worn =
      let same : i ≡ j = let is : Some i ≡ Some j = sym at ∙ worn.home in cc in
      worn_refuses v op x (ap (λ (x : ShardVersion). x.revision) here ∙ ap (λ (k : ℕ). (reading vs k).revision) same ∙ worn.last) (ap is_change reply_here ∙ worn.changes) h

  pub steps : (r : Result Reply AskError) (w : ShardVersion) → IfOk r (λ x. (step_on v op).answer ≡ Ok x) → OnOk r (w ≡ (step_on v op).shard)
      → IfErr r (λ e. (e ≡ Memory) ⊎ ((step_on v op).answer ≡ Err e)) → OnErr r (w ≡ v) → Steps vs op i (of_shard i r) (set vs i w)
  steps (Ok x) w answer shard refused err =
      let answered = step_answered v op x answer in
      record { reply = answered.reply ∙ reply_here; left = stepped_map w (ap (λ (x : ShardVersion). x.part) shard ∙ answered.left); shards = ap (set vs i) (shard ∙ ap (λ (x : ShardVersion). (step_on x op).shard) here); fit = fits x answer; refused = tt; err = tt }
  steps (Err e) w answer shard refused err =
      let told = refused_as e refused in
      subst (λ (x : Result Reply AskError). Steps vs op i x (set vs i w)) (sym told.1) (record { reply = tt; left = tt; shards = tt; fit = tt; refused = told.2; err = set_same w err })

  pub still_parts : (r : Result Reply AskError) (w : ShardVersion) → IfOk r (λ x. (step_on v op).answer ≡ Ok x) → OnOk r (w ≡ (step_on v op).shard) → OnErr r (w ≡ v) → AreParts (set vs i w)
  still_parts (Ok x) w h is same = stepped_parts w (ap (λ (x : ShardVersion). x.part) is ∙ (step_answered v op x h).left)
  still_parts (Err e) w h is same = subst AreParts (sym (set_same w same)) parts

-- ---- empty shards
all_empty : (n : ℕ) → 0 < n → merge n (λ j. finite.empty) ≡ finite.empty
all_empty n some = together_same n (λ j. finite.empty) (partition n finite.empty) (λ j l. sym (part-empty n j)) ∙ together_parts n finite.empty some

pub fresh_map : (vs : List ShardVersion) → 0 < length vs → ((i : ℕ) → i < length vs → reading vs i ≡ fresh_shard) → map_of vs ≡ finite.empty
fresh_map vs some fresh = together_same (length vs) (λ j. (reading vs j).part) (λ j. finite.empty) (λ j l. ap (λ (v : ShardVersion). v.part) (fresh j l)) ∙ all_empty (length vs) some

pub fresh_parts : (vs : List ShardVersion) → 0 < length vs → ((i : ℕ) → i < length vs → reading vs i ≡ fresh_shard) → AreParts vs
fresh_parts vs some fresh =
    record {
      some = some;
      at_home = λ j l. let empty : (reading vs j).part ≡ finite.empty = ap (λ (v : ShardVersion). v.part) (fresh j l) in
          ap (λ (m : PlainMap). partition (length vs) m j) empty ∙ part-empty (length vs) j ∙ sym empty;
    }
