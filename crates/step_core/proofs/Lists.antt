-- Records and shards in lists, as the program keeps them, and in functions of numbers, as the run does.
use Rattle.std.proofs.Common.{◌≡◌, ℕ, suc, ◌<◌, false, cond, List, [], ◌∷◌, ◌++◌, length, get_or, set, arith, length-append, length-set, get_or-set_same, get_or-set_other, refl, sym, ap, ◌∙◌}
use Rattle.std.proofs.Math.ListN.{get_or-append}
use Rattle.std.proofs.Math.Seq.{get_or-append_seam}
use Rattle.map_core.specs.declared.op.Op.{Op}
use Rattle.map_core.specs.Op.{known_of}
use Rattle.step_core.specs.World.{with_at, turn}
use Rattle.step_core.specs.Shard.{ShardVersion, fresh_shard, reading, step_on, of_shard}
use Rattle.step_core.specs.Phase.{Phase, Idle, Waiting, Collecting, Confirming, Done, Replied, Seen, Revision, wants, give, is_done}
use Rattle.step_core.specs.declared.trace.OpRecord.{OpRecord}
use Rattle.step_core.specs.Records.{no_record}
use Rattle.step_core.specs.Task.{IsWantOf}
use Rattle.step_core.specs.Private.Driver.{observation_by, left_by}
use Rattle.step_core.specs.Private.Shown.{ShowsShards, ShowsRecords}
use Rattle.step_core.proofs.Points.{by_number}

-- ---- the records
pub records_push : (list : List OpRecord) (count : ℕ) (records : ℕ → OpRecord) (r : OpRecord) → ShowsRecords list count records → ShowsRecords (list ++ r ∷ []) (suc count) (with_at records count r)
records_push list count records r h =
    record {
      size = omega (arith, length-append {A = OpRecord}, h.size);
      each = λ q l.
          by_number (λ b. get_or (list ++ r ∷ []) q no_record ≡ cond b r (records q)) q count (λ is. ap (λ k. get_or (list ++ r ∷ []) k no_record) (is ∙ sym h.size) ∙ get_or-append_seam list r [] no_record)
          (λ ne. get_or-append list (r ∷ []) no_record q (omega (arith, l, ne, h.size)) ∙ h.each q (omega (arith, l, ne)));
    }

-- a change at one place of a list, and of a function that the list shows
set_shows : {X : Type 0} → (list : List X) (count : ℕ) (f : ℕ → X) (d : X) (k : ℕ) (x y : X) → x ≡ y → k < count → length list ≡ count → ((q : ℕ) → q < count → get_or list q d ≡ f q)
    → (q : ℕ) → q < count → get_or (set list k x) q d ≡ with_at f k y q
set_shows list count f d k x y is below size each q l =
    by_number (λ b. get_or (set list k x) q d ≡ cond b y (f q)) q k (λ here. ap (λ j. get_or (set list k x) j d) here ∙ get_or-set_same list k x d (omega (arith, below, size)) ∙ is)
    (λ ne. get_or-set_other list k q x d ne ∙ each q l)

pub records_set : (list : List OpRecord) (count : ℕ) (records : ℕ → OpRecord) (k : ℕ) (r : OpRecord) → k < count → ShowsRecords list count records → ShowsRecords (set list k r) count (with_at records k r)
records_set list count records k r below h = record { size = length-set list k r ∙ h.size; each = set_shows list count records no_record k r r refl below h.size h.each }

-- ---- the shards
shard_set : (n : ℕ) (list : List ShardVersion) (s : ℕ → ShardVersion) (i : ℕ) (v w : ShardVersion) → v ≡ w → i < n → ShowsShards n list s → ShowsShards n (set list i v) (with_at s i w)
shard_set n list s i v w is small h = record { size = length-set list i v ∙ h.size; each = set_shows list n s fresh_shard i v w is small h.size h.each }

-- what the list of shards tells is what the machine's step tells
pub told_alike : (n rounds : ℕ) (list : List ShardVersion) (s : ℕ → ShardVersion) (op : Op) (phase : Phase) → ShowsShards n list s → IsWantOf n (wants phase) → is_done phase ≡ false
    → give n rounds (known_of op) phase (observation_by list op (wants phase)) ≡ (turn n rounds s op phase).phase
told_alike n rounds list s op Idle h inside open_now = refl
told_alike n rounds list s op (Waiting i) h inside open_now = ap (λ (v : ShardVersion). give n rounds (known_of op) (Waiting i) (Replied (of_shard i (step_on v op).answer))) (h.each i inside)
told_alike n rounds list s op (Collecting round readings) h inside open_now = ap (λ (v : ShardVersion). give n rounds (known_of op) (Collecting round readings) (Seen v)) (h.each (length readings) inside)
told_alike n rounds list s op (Confirming round readings k) h inside open_now = ap (λ (v : ShardVersion). give n rounds (known_of op) (Confirming round readings k) (Revision v.revision)) (h.each k inside)
told_alike n rounds list s op (Done reply) h inside open_now = refl

pub left_alike : (n rounds : ℕ) (list : List ShardVersion) (s : ℕ → ShardVersion) (op : Op) (phase : Phase) → ShowsShards n list s → IsWantOf n (wants phase)
    → ShowsShards n (left_by list op (wants phase)) (turn n rounds s op phase).shards
left_alike n rounds list s op Idle h inside = h
left_alike n rounds list s op (Waiting i) h inside = shard_set n list s i (step_on (reading list i) op).shard (step_on (s i) op).shard (ap (λ (v : ShardVersion). (step_on v op).shard) (h.each i inside)) inside h
left_alike n rounds list s op (Collecting round readings) h inside = h
left_alike n rounds list s op (Confirming round readings k) h inside = h
left_alike n rounds list s op (Done reply) h inside = h
