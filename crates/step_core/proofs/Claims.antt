-- What is known of an operation in each phase, and what each step of it brings.
use Rattle.std.proofs.Common.{◌≡◌, ℕ, ◌+◌, ◌<◌, ◌≤◌, false, cond, List, [], ◌∷◌, ◌++◌, length, Some, None, Ok, Err, ◌⊎◌, arith, length-append, refl, sym, ap, subst, ◌∙◌, inl, inr, ⊎_elim}
use Rattle.std.proofs.lemmas.Grind.{elements}
use Rattle.map_core.specs.declared.op.Op.{Op}
use Rattle.map_core.specs.Reply.{is_change}
use Rattle.map_core.specs.Op.{known_of}
use Rattle.map_core.specs.Table.{fetched}
use Rattle.map_core.specs.PlainMap.{PlainMap, bundles, ask, shard_of, partition}
use Rattle.map_core.proofs.MapLaws.{ask_keeps, part_reply, part_home, part_away, fetch_keeps, together_is, fetch_reply}
use Rattle.step_core.specs.World.{with_at}
use Rattle.step_core.specs.Shard.{ShardVersion, reading}
use Rattle.step_core.specs.Phase.{Phase, Idle, Waiting, Collecting, Confirming, Done, snapshot_reply, wrote_shard, has_point}
use Rattle.step_core.proofs.Points.{by_number}

-- the reading v of a shard that stands at s: its revision has not gone back since, and if it is the same, v has this part
pub record Fresh (v s : ShardVersion) (q : PlainMap) : Type 0 where
  pub grown : v.revision ≤ s.revision
  pub same : v.revision ≡ s.revision → v.part ≡ q

-- a shard is as it was, or was changed
abbrev pub Advance : ShardVersion → ShardVersion → Type 0
Advance s t = (t ≡ s) ⊎ (s.revision < t.revision)

-- of a fetch-all whose point stands where the map is m: shard j was read as m has it, if the first k are confirmed and it is one of
-- them, or if its revision is still the one that was read
pub record Seen (n k : ℕ) (shards : ℕ → ShardVersion) (readings : List ShardVersion) (m : PlainMap) (j : ℕ) : Type 0 where
  pub sure : j < k → (reading readings j).part ≡ partition n m j
  pub fresh : Fresh (reading readings j) (shards j) (partition n m j)

-- what holds of an operation in this phase, at the map that stands before its point
abbrev pub Claim : ℕ → (ℕ → ShardVersion) → PlainMap → Op → Phase → Type 0
Claim n shards m op Idle = ⊥
Claim n shards m op (Waiting i) = ⊥
Claim n shards m op (Collecting round readings) = ⊥
Claim n shards m op (Confirming round readings k) = (j : ℕ) → j < n → Seen n k shards readings m j
Claim n shards m op (Done (Ok reply)) = reply ≡ (ask m op).reply
Claim n shards m op (Done (Err why)) = ⊥

abbrev pub ReadSoFar : (ℕ → ShardVersion) → List ShardVersion → Type 0
ReadSoFar shards readings = (j : ℕ) → j < length readings → Fresh (reading readings j) (shards j) (shards j).part

-- what holds of an operation in this phase, wherever its point is
abbrev pub IsPhaseOf : ℕ → (ℕ → ShardVersion) → Op → Phase → Type 0
IsPhaseOf n shards op Idle = ⊥
IsPhaseOf n shards op (Waiting i) = shard_of n op ≡ Some i
IsPhaseOf n shards op (Collecting round readings) = (shard_of n op ≡ None) × (length readings < n) × ReadSoFar shards readings
IsPhaseOf n shards op (Confirming round readings k) = (shard_of n op ≡ None) × (k < n)
IsPhaseOf n shards op (Done reply) = Unit {0}

-- the shards stand as the map is
abbrev pub Shows : ℕ → (ℕ → ShardVersion) → PlainMap → Type 0
Shows n shards m = (i : ℕ) → partition n m i ≡ (shards i).part

pub fresh_on : (v s t : ShardVersion) (p q : PlainMap) → (t ≡ s → q ≡ p) → Advance s t → Fresh v s p → Fresh v t q
fresh_on v s t p q same go h =
    ⊎_elim (λ (e : t ≡ s). record { grown = omega (arith, ap (λ x. x.revision) e, h.grown); same = λ is. h.same (is ∙ ap (λ x. x.revision) e) ∙ sym (same e) })
    (λ l. record { grown = omega (arith, l, h.grown); same = λ e. absurd (omega (arith, l, h.grown, e)) }) go

pub claim_on : (n : ℕ) (s t : ℕ → ShardVersion) → ((j : ℕ) → Advance (s j) (t j)) → (m : PlainMap) (op : Op) (phase : Phase) → Claim n s m op phase → Claim n t m op phase
claim_on n s t go m op Idle h = h
claim_on n s t go m op (Waiting i) h = h
claim_on n s t go m op (Collecting round readings) h = h
claim_on n s t go m op (Confirming round readings k) h = λ j l. record { sure = (h j l).sure; fresh = fresh_on (reading readings j) (s j) (t j) (partition n m j) (partition n m j) (λ _. refl) (go j) (h j l).fresh }
claim_on n s t go m op (Done (Ok reply)) h = h
claim_on n s t go m op (Done (Err why)) h = h

pub phase_on : (n : ℕ) (s t : ℕ → ShardVersion) → ((j : ℕ) → Advance (s j) (t j)) → (op : Op) (phase : Phase) → IsPhaseOf n s op phase → IsPhaseOf n t op phase
phase_on n s t go op Idle h = h
phase_on n s t go op (Waiting i) h = h
phase_on n s t go op (Collecting round readings) h = (h.0, h.1, λ j l. fresh_on (reading readings j) (s j) (t j) (s j).part (t j).part (ap (λ (x : ShardVersion). x.part)) (go j) (h.2 j l))
phase_on n s t go op (Confirming round readings k) h = h
phase_on n s t go op (Done reply) h = h

pub no_claim : (n : ℕ) (s : ℕ → ShardVersion) (m : PlainMap) (op : Op) (phase : Phase) → has_point phase ≡ false → Claim n s m op phase → ⊥
no_claim n s m op phase e h = grind arith

-- an operation that has its point and has not written leaves the map there
pub claim_keeps : (n : ℕ) (s : ℕ → ShardVersion) (m : PlainMap) (op : Op) (phase : Phase) → IsPhaseOf n s op phase → Claim n s m op phase → wrote_shard phase ≡ false → (ask m op).map ≡ m
claim_keeps n s m op phase ok h w = grind (arith, fetch_keeps, ask_keeps)

-- ---- the steps
-- a step on one name that changes nothing
pub still_claim : (n : ℕ) (s : ℕ → ShardVersion) (m : PlainMap) (op : Op) (i : ℕ) → shard_of n op ≡ Some i → Shows n s m → (ask (s i).part op).reply ≡ (ask m op).reply
still_claim n s m op i at shows = ap (λ (q : PlainMap). (ask q op).reply) (sym (shows i)) ∙ part_reply n m op i at

pub still_shows : (n : ℕ) (s : ℕ → ShardVersion) (m : PlainMap) (op : Op) (i : ℕ) → shard_of n op ≡ Some i → Shows n s m → is_change (ask (s i).part op).reply ≡ false → Shows n s (ask m op).map
still_shows n s m op i at shows quiet =
    let same : (ask m op).map ≡ m = ask_keeps m op (ap is_change (sym (still_claim n s m op i at shows)) ∙ quiet) in
    subst (Shows n s) (sym same) shows

abbrev pub changed : (ℕ → ShardVersion) → Op → ℕ → ℕ → ShardVersion
changed s op i = with_at s i (record { revision = (s i).revision + 1; part = (ask (s i).part op).map })

pub changed_advance : (s : ℕ → ShardVersion) (op : Op) (i j : ℕ) → Advance (s j) (changed s op i j)
changed_advance s op i j =
    by_number (λ b. Advance (s j) (cond b (record { revision = (s i).revision + 1; part = (ask (s i).part op).map }) (s j))) j i
    (λ is. inr (omega (arith, ap (λ k. (s k).revision) is))) (λ _. inl refl)

-- a step on one name that is stored
pub changed_shows : (n : ℕ) (s : ℕ → ShardVersion) (m : PlainMap) (op : Op) (i : ℕ) → shard_of n op ≡ Some i → Shows n s m → Shows n (changed s op i) (ask m op).map
changed_shows n s m op i at shows j =
    by_number (λ b. partition n (ask m op).map j ≡ (let r : ShardVersion = cond b (record { revision = (s i).revision + 1; part = (ask (s i).part op).map }) (s j) in r).part) j i
    (λ is. ap (partition n (ask m op).map) is ∙ part_home n m op i at ∙ ap (λ (q : PlainMap). (ask q op).map) (shows i)) (λ ne. part_away n m op i j at ne ∙ shows j)

-- one more reading
pub one_more : (readings : List ShardVersion) (v : ShardVersion) (j : ℕ) → j < length (readings ++ v ∷ []) → let now = reading (readings ++ v ∷ []) j in
    ((j < length readings) × (now ≡ reading readings j)) ⊎ ((j ≡ length readings) × (now ≡ v))
one_more readings v j l = grind (arith, elements, length-append {A = ShardVersion})

pub read_more : (s : ℕ → ShardVersion) (readings : List ShardVersion) → ReadSoFar s readings → ReadSoFar s (readings ++ s (length readings) ∷ [])
read_more s readings h j l =
    let v = s (length readings) in
    ⊎_elim (λ (before : (j < length readings) × (reading (readings ++ v ∷ []) j ≡ reading readings j)). subst (λ (x : ShardVersion). Fresh x (s j) (s j).part) (sym before.1) (h j before.0))
    (λ (at : (j ≡ length readings) × (reading (readings ++ v ∷ []) j ≡ v)). subst (λ (x : ShardVersion). Fresh x (s j) (s j).part) (sym (at.1 ∙ ap s (sym at.0))) (record { grown = omega arith; same = λ _. refl })) (one_more readings v j l)

-- the last reading of a round
pub read_all : (n : ℕ) (s : ℕ → ShardVersion) (m : PlainMap) (readings : List ShardVersion) → length readings ≡ n → ReadSoFar s readings → Shows n s m → (j : ℕ) → j < n → Seen n 0 s readings m j
read_all n s m readings full h shows j l =
    let here : j < length readings = omega (arith, l, full) in
    record { sure = λ none. absurd (omega (arith, none)); fresh = subst (Fresh (reading readings j) (s j)) (sym (shows j)) (h j here) }

-- a reading is confirmed
pub sure_more : (n k : ℕ) (s : ℕ → ShardVersion) (readings : List ShardVersion) (m : PlainMap) → k < n → (reading readings k).revision ≡ (s k).revision → ((j : ℕ) → j < n → Seen n k s readings m j) → (j : ℕ) → j < n → Seen n (k + 1) s readings m j
sure_more n k s readings m small is h j l =
    record {
      sure = λ (below : j < k + 1).
          let cases : (j < k) ⊎ (j ≡ k) = grind (arith, below) in
          ⊎_elim (λ (before : j < k). (h j l).sure before)
          (λ (at : j ≡ k). (h j l).fresh.same (ap (λ x. (reading readings x).revision) at ∙ is ∙ ap (λ x. (s x).revision) (sym at))) cases;
      fresh = (h j l).fresh;
    }

-- all readings are confirmed
pub all_sure : (n : ℕ) (s : ℕ → ShardVersion) (readings : List ShardVersion) (m : PlainMap) (op : Op) → 0 < n → shard_of n op ≡ None → ((j : ℕ) → j < n → Seen n n s readings m j) → snapshot_reply n (known_of op) readings ≡ (ask m op).reply
all_sure n s readings m op h none seen =
    ap (λ (q : PlainMap). fetched (known_of op) (bundles q)) (together_is n m (λ j. (reading readings j).part) h (λ j l. (seen j l).sure l)) ∙ sym (fetch_reply n m op none)

-- a shard that is put back
put_back_at : (s : ℕ → ShardVersion) (i j : ℕ) → with_at s i (s i) j ≡ s j
put_back_at s i j = by_number (λ b. cond b (s i) (s j) ≡ s j) j i (λ is. ap s (sym is)) (λ _. refl)

pub put_back : (s : ℕ → ShardVersion) (i : ℕ) → with_at s i (s i) ≡ s
put_back s i = λ x j. put_back_at s i j x
