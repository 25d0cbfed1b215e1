-- The invariant of a run, over what is known of each operation, and that each move keeps it.
use Rattle.std.proofs.Common.{◌≡◌, ◌≢◌, ℕ, suc, ◌+◌, ◌<◌, ◌≤◌, ◌==◌, not, ◌&&◌, nat_lt, Bool, true, false, cond, List, IfSome, None, ◌⊎◌, ⊎_elim, arith, refl, sym, ap, subst, ◌∙◌}
use Rattle.std.proofs.lemmas.Bool.Decides.{nat_tests}
use Rattle.std.specs.FinMap as finite
use Rattle.map_core.specs.declared.op.Op.{Op}
use Rattle.map_core.specs.PlainMap.{PlainMap, shard_of}
use Rattle.map_core.proofs.MapLaws.{fetch_keeps}
use Rattle.step_core.specs.declared.trace.OpRecord.{OpRecord}
use Rattle.step_core.specs.World.{with_at, Turn}
use Rattle.step_core.specs.Shard.{ShardVersion}
use Rattle.step_core.specs.Phase.{Phase, has_point}
use Rattle.step_core.specs.Run.{Point, update_points, numbers}
use Rattle.step_core.proofs.Legal.{times, IsDuring}
use Rattle.step_core.proofs.Points.{by_number, cases_number, Along, along_map, along_push, along_without, times-push, times-filter, numbers-filter}
use Rattle.step_core.proofs.Claims.{Claim, IsPhaseOf, Shows, claim_on, phase_on, no_claim}
use Rattle.step_core.proofs.Moves.{Move, PointMove}

-- a point is that of an operation that was begun, lies between its first and its last event, and what is known there holds
pub record IsPoint (n limit count : ℕ) (s : ℕ → ShardVersion) (records : ℕ → OpRecord) (st : ℕ → Phase) (p : Point) (m : PlainMap) : Type 0 where
  pub known : p.number < count
  pub op_is : (records p.number).op ≡ p.op
  pub during : IsDuring limit (records p.number) p.event
  pub claim : Claim n s m p.op (st p.number)

-- after all points the map is what the shards show
pub record AtEnd (n limit : ℕ) (s : ℕ → ShardVersion) (from : ℕ) (m : PlainMap) : Type 0 where
  pub in_time : from ≤ limit
  pub shown : Shows n s m

-- st is the phase of each operation, that of a finished one being done
pub record Core (n limit count : ℕ) (s : ℕ → ShardVersion) (records : ℕ → OpRecord) (st : ℕ → Phase) (points : List Point) : Type 0 where
  pub ok : (q : ℕ) → q < count → IsPhaseOf n s (records q).op (st q)
  pub started : (q : ℕ) → q < count → (records q).first < limit
  pub once : (q : ℕ) → times q (numbers points) ≡ cond (nat_lt q count && has_point (st q)) 1 0
  pub fits : Along (IsPoint n limit count s records st) (AtEnd n limit s) 0 finite.empty points

-- a record after an event, to which no event before the limit comes too late
pub record Keeps (limit : ℕ) (old new : OpRecord) : Type 0 where
  pub op : new.op ≡ old.op
  pub first : new.first ≡ old.first
  pub last : (event : ℕ) → event < limit → IfSome old.last (λ l. event ≤ l) → IfSome new.last (λ l. event ≤ l)

pub stays : (limit : ℕ) (r : OpRecord) → Keeps limit r r
stays limit r = record { op = refl; first = refl; last = λ event l h. h }

pub with_at_keeps : (limit : ℕ) (records : ℕ → OpRecord) (k : ℕ) (x : OpRecord) → Keeps limit (records k) x → (q : ℕ) → Keeps limit (records q) (with_at records k x q)
with_at_keeps limit records k x h q =
    by_number (λ b. Keeps limit (records q) (cond b x (records q))) q k (λ is. subst (λ (j : ℕ). Keeps limit (records j) x) (sym is) h) (λ _. stays limit (records q))

point_on : (n limit limit' count count' : ℕ) (s t : ℕ → ShardVersion) (records records' : ℕ → OpRecord) (st st' : ℕ → Phase) (p : Point) (m : PlainMap) → limit ≤ limit' → count ≤ count'
    → Keeps limit (records p.number) (records' p.number) → Claim n t m p.op (st' p.number) → IsPoint n limit count s records st p m → IsPoint n limit' count' t records' st' p m
point_on n limit limit' count count' s t records records' st st' p m late more keeps claim h =
    record {
      known = omega (arith, h.known, more);
      op_is = keeps.op ∙ h.op_is;
      during = (subst (λ (x : ℕ). x ≤ p.event) (sym keeps.first) h.during.0, omega (arith, h.during.1, late), keeps.last p.event h.during.1 h.during.2);
      claim = claim;
    }

at_end_on : (n limit limit' : ℕ) (s t : ℕ → ShardVersion) (a b : ℕ) (m : PlainMap) → limit ≤ limit' → a ≤ b → (Shows n s m → Shows n t m) → AtEnd n limit s b m → AtEnd n limit' t a m
at_end_on n limit limit' s t a b m late l go h = record { in_time = omega (arith, l, h.in_time, late); shown = go h.shown }

-- ---- how often an operation has its point
once_on : (q count count' now : ℕ) (h x : Bool) → count ≤ count' → (q < count → x ≡ h) → (q < count' → count ≤ q → x ≡ false) → now ≡ cond (nat_lt q count && h) 1 0 → now ≡ cond (nat_lt q count' && x) 1 0
once_on q count count' now h x more same begun is = grind (arith, nat_tests)

once_moved : (q r count before now : ℕ) (a b h x : Bool) → r < count → (q ≡ r → h ≡ a) → (q ≡ r → x ≡ b) → (q < count → q ≢ r → x ≡ h) → before ≡ cond (nat_lt q count && h) 1 0
    → now ≡ cond a (cond b before (cond (not (q == r)) before 0)) (cond b (before + cond (r == q) 1 0) before) → now ≡ cond (nat_lt q count && x) 1 0
once_moved q r count before now a b h x known was is other once counted = grind (arith, nat_tests)

counted : (a b : Bool) (q : ℕ) (p : Point) (ps : List Point) → let before = times q (numbers ps) in
    times q (numbers (update_points a b p ps)) ≡ cond a (cond b before (cond (not (q == p.number)) before 0)) (cond b (before + cond (p.number == q) 1 0) before)
counted false false q p ps = refl
counted false true q p ps = times-push q p ps
counted true false q p ps = ap (times q) (numbers-filter (λ x. not (x == p.number)) ps) ∙ times-filter (λ x. not (x == p.number)) q (numbers ps)
counted true true q p ps = refl

module _ (n limit count : ℕ) (s : ℕ → ShardVersion) (records : ℕ → OpRecord) (st : ℕ → Phase) (points : List Point) (core : Core n limit count s records st points) where
  -- time goes on, operations end, and others begin
  pub core_on : (limit' count' : ℕ) (records' : ℕ → OpRecord) (st' : ℕ → Phase) → limit ≤ limit' → count ≤ count' → ((q : ℕ) → q < count → Keeps limit (records q) (records' q)) → ((q : ℕ) → q < count → st' q ≡ st q)
      → ((q : ℕ) → q < count' → count ≤ q → IsPhaseOf n s (records' q).op (st' q) × ((records' q).first < limit') × (has_point (st' q) ≡ false)) → Core n limit' count' s records' st' points
  core_on limit' count' records' st' late more keeps same begun =
      record {
        ok = λ q l. either q (IsPhaseOf n s (records' q).op (st' q)) (λ old. rw ((keeps q old).op, same q old) (core.ok q old)) (λ new. (begun q l new).0);
        started = λ q l. either q ((records' q).first < limit') (λ old. omega (arith, (keeps q old).first, core.started q old, late)) (λ new. (begun q l new).1);
        once = λ q. once_on q count count' _ (has_point (st q)) (has_point (st' q)) more (λ old. ap has_point (same q old)) (λ l new. (begun q l new).2) (core.once q);
        fits = along_map (IsPoint n limit count s records st) (IsPoint n limit' count' s records' st') (AtEnd n limit s) (AtEnd n limit' s)
            (λ p m h. point_on n limit limit' count count' s s records records' st st' p m late more (keeps p.number h.known) (rw (same p.number h.known) h.claim) h)
            (λ from m h. at_end_on n limit limit' s s from from m late (omega arith) (λ shows. shows) h) 0 finite.empty points core.fits;
      }
    where
      either : (q : ℕ) (P : Type 0) → (q < count → P) → (count ≤ q → P) → P
      either q P old new = let cases : (q < count) ⊎ (count ≤ q) = grind arith in ⊎_elim old new cases

  -- an operation goes on
  module _ (r event : ℕ) (known : r < count) (late : limit ≤ event) (t : Turn) (phase : Phase) (own : st r ≡ phase) (move : Move n s (records r).op phase t)
      (records' : ℕ → OpRecord) (keeps : (q : ℕ) → Keeps limit (records q) (records' q)) (unended : (records' r).last ≡ None)
      (st' : ℕ → Phase) (here : st' r ≡ t.phase) (there : (q : ℕ) → q < count → q ≢ r → st' q ≡ st q) where
    abbrev point : Point
    point = record { number = r; op = (records r).op; event = event }

    abbrev Old : Point → PlainMap → Type 0
    Old = IsPoint n limit count s records st

    abbrev New : Point → PlainMap → Type 0
    New = IsPoint n (suc event) count t.shards records' st'

    still_point : (p : Point) (m : PlainMap) → Old p m → Claim n t.shards m p.op (st' p.number) → New p m
    still_point p m h claim = point_on n limit (suc event) count count s t.shards records records' st st' p m (omega (arith, late)) (omega arith) (keeps p.number) claim h

    -- the point of another operation
    other_point : (p : Point) (m : PlainMap) → Old p m → p.number ≢ r → New p m
    other_point p m h ne = still_point p m h (rw (there p.number h.known ne) (claim_on n s t.shards move.advance m p.op (st p.number) h.claim))

    own_op : (p : Point) (m : PlainMap) → Old p m → p.number ≡ r → p.op ≡ (records r).op
    own_op p m h is = sym h.op_is ∙ ap (λ q. (records q).op) is

    -- the point of this one, which it had
    own_point : ((m : PlainMap) → Claim n s m (records r).op phase → Claim n t.shards m (records r).op t.phase) → (p : Point) (m : PlainMap) → Old p m → p.number ≡ r → New p m
    own_point go p m h is =
        let op = own_op p m h is in
        let claim = subst (Claim n s m (records r).op) (ap st is ∙ own) (subst (λ (x : Op). Claim n s m x (st p.number)) op h.claim) in
        still_point p m h (subst (Claim n t.shards m p.op) (sym (ap st' is ∙ here)) (subst (λ (x : Op). Claim n t.shards m x t.phase) (sym op) (go m claim)))

    any_point : ((m : PlainMap) → Claim n s m (records r).op phase → Claim n t.shards m (records r).op t.phase) → (p : Point) (m : PlainMap) → Old p m → New p m
    any_point go p m h = ⊎_elim (own_point go p m h) (other_point p m h) (cases_number p.number r)

    -- it had none
    no_point : has_point phase ≡ false → (p : Point) (m : PlainMap) → Old p m → p.number ≢ r
    no_point was p m h is = no_claim n s m p.op (st p.number) (ap has_point (ap st is ∙ own) ∙ was) h.claim

    new_point : (m : PlainMap) → Claim n t.shards m (records r).op t.phase → New point m
    new_point m claim =
        record {
          known = known;
          op_is = (keeps r).op;
          during = (omega (arith, core.started r known, (keeps r).first, late), omega arith, subst (λ x. IfSome x (λ l. event ≤ l)) (sym unended) tt);
          claim = subst (Claim n t.shards m (records r).op) (sym here) claim;
        }

    end_after : ((m : PlainMap) → Shows n s m → Shows n t.shards m) → (from : ℕ) (m : PlainMap) → AtEnd n limit s from m → AtEnd n (suc event) t.shards from m
    end_after go from m = at_end_on n limit (suc event) s t.shards from from m (omega (arith, late)) (omega arith) (go m)

    fits_after : (a b : Bool) → has_point phase ≡ a → has_point t.phase ≡ b → PointMove a b n s (records r).op phase t → Along New (AtEnd n (suc event) t.shards) 0 finite.empty (update_points a b point points)
    fits_after false false was is go = along_map Old New (AtEnd n limit s) (AtEnd n (suc event) t.shards) (λ p m h. other_point p m h (no_point was p m h)) (end_after go) 0 finite.empty points core.fits
    fits_after true true was is go = along_map Old New (AtEnd n limit s) (AtEnd n (suc event) t.shards) (any_point go.0) (end_after go.1) 0 finite.empty points core.fits
    fits_after false true was is go =
        along_push Old New (AtEnd n limit s) (AtEnd n (suc event) t.shards) point (λ p m h. other_point p m h (no_point was p m h))
        (λ from m h. (omega (arith, h.in_time, late), new_point m (go m h.shown).0, record { in_time = omega arith; shown = (go m h.shown).1 })) 0 finite.empty points core.fits
    fits_after true false was is go =
        along_without Old New (AtEnd n (suc event) t.shards) r other_point (λ p m h same. fetch_keeps n m p.op (ap (shard_of n) (own_op p m h same) ∙ go.0))
        (λ a b m l. at_end_on n (suc event) (suc event) t.shards t.shards a b m (omega arith) l (λ shows. shows)) 0 finite.empty points
        (along_map Old Old (AtEnd n limit s) (AtEnd n (suc event) t.shards) (λ p m h. h) (end_after go.1) 0 finite.empty points core.fits)

    pub core_pass : Core n (suc event) count t.shards records' st' (update_points (has_point phase) (has_point t.phase) point points)
    core_pass =
        record {
          ok = λ q l. subst (λ (x : Op). IsPhaseOf n t.shards x (st' q)) (sym (keeps q).op)
              (⊎_elim (λ (is : q ≡ r). subst (IsPhaseOf n t.shards (records q).op) (sym (ap st' is ∙ here)) (subst (λ (x : ℕ). IsPhaseOf n t.shards (records x).op t.phase) (sym is) move.ok))
              (λ (ne : q ≢ r). subst (IsPhaseOf n t.shards (records q).op) (sym (there q l ne)) (phase_on n s t.shards move.advance (records q).op (st q) (core.ok q l))) (cases_number q r));
          started = λ q l. omega (arith, core.started q l, (keeps q).first, late);
          once = λ q. once_moved q r count _ _ (has_point phase) (has_point t.phase) (has_point (st q)) (has_point (st' q)) known (λ is. ap has_point (ap st is ∙ own)) (λ is. ap has_point (ap st' is ∙ here))
              (λ l ne. ap has_point (there q l ne)) (core.once q) (counted (has_point phase) (has_point t.phase) q point points);
          fits = fits_after (has_point phase) (has_point t.phase) refl refl move.point;
        }
