-- The records handed out are those of the run, so the order is legal for them.
use Rattle.std.proofs.Common.{◌≡◌, ℕ, ◌+◌, ◌<◌, nat_lt, ◌&&◌, Bool, cond, List, [], ◌∷◌, length, get_or, IfSome, Ok, arith, sym, ap, subst}
use Rattle.std.proofs.lemmas.Bool.Decides.{nat_tests}
use Rattle.std.proofs.lemmas.List.FromFn.{length-map-range_with_len, get_or-map-range_with_len}
use Rattle.map_core.specs.PlainMap.{PlainMap, ask}
use Rattle.step_core.specs.declared.event.Event.{Event}
use Rattle.step_core.specs.declared.trace.OpRecord.{OpRecord}
use Rattle.step_core.specs.Run.{Run, run_of, order_of}
use Rattle.step_core.specs.Records.{no_record, took_effect}
use Rattle.step_core.proofs.Legal.{times, IsDuring, Rises, Replies, IsLegal}
use Rattle.step_core.specs.Trace.{records_of}
use Rattle.step_core.proofs.Points.{times-head}
use Rattle.step_core.proofs.Legality.{one_order}

pub first_length : (run : Run) → length (records_of run) ≡ run.count
first_length run = length-map-range_with_len run.records 0 run.count

pub first_at : (run : Run) (q : ℕ) → q < run.count → get_or (records_of run) q no_record ≡ run.records q
first_at run q l = get_or-map-range_with_len run.records 0 run.count q q no_record l (omega arith)

-- an order speaks of the records below the count alone
abbrev Below : ℕ → List ℕ → Type 0
Below count rs = (r : ℕ) → 0 < times r rs → r < count

below_head : (count r : ℕ) (rs : List ℕ) → Below count (r ∷ rs) → r < count
below_head count r rs h = h r (times-head r rs)

below_tail : (count r : ℕ) (rs : List ℕ) → Below count (r ∷ rs) → Below count rs
below_tail count r rs h x l = h x (omega (arith, l))

module _ (events count : ℕ) (records records' : ℕ → OpRecord) (same : (q : ℕ) → q < count → records' q ≡ records q) where
  rises_same : (from : ℕ) (rs : List ℕ) → Below count rs → Rises events records from rs → Rises events records' from rs
  rises_same from [] b h = tt
  rises_same from (r ∷ rs) b h =
      (h.0, h.1, subst (λ (x : OpRecord). IsDuring events x h.0) (sym (same r (below_head count r rs b))) h.2, rises_same (h.0 + 1) rs (below_tail count r rs b) h.3)

  replies_same : (m : PlainMap) (rs : List ℕ) → Below count rs → Replies records m rs → Replies records' m rs
  replies_same m [] b h = tt
  replies_same m (r ∷ rs) b h =
      let is = sym (same r (below_head count r rs b)) in (
        subst (λ (x : OpRecord). IfSome x.reply (λ reply. reply ≡ Ok (ask m x.op).reply)) is h.0,
        subst (λ (x : OpRecord). Replies records' (ask m x.op).map rs) is (replies_same (ask m (records r).op).map rs (below_tail count r rs b) h.1),
      )

  member_below : (r : ℕ) (n : ℕ) (s : Bool) → n ≡ cond (nat_lt r count && s) 1 0 → 0 < n → r < count
  member_below r n s e l = grind (arith, nat_tests)

  member_same : (r n : ℕ) (s t : Bool) → n ≡ cond (nat_lt r count && s) 1 0 → (r < count → t ≡ s) → n ≡ cond (nat_lt r count && t) 1 0
  member_same r n s t e is = grind (arith, nat_tests)

  pub legal_same : (order : List ℕ) → IsLegal events count records order → IsLegal events count records' order
  legal_same order h =
      let b : Below count order = λ r l. member_below r (times r order) (took_effect (records r)) (h.members r) l in
      record {
        members = λ r. member_same r (times r order) (took_effect (records r)) (took_effect (records' r)) (h.members r) (λ l. ap took_effect (same r l));
        rises = rises_same 0 order b h.rises;
        replies = replies_same _ order b h.replies;
      }

-- the order is legal for the records that are handed out
pub one_order_of_records : (n rounds : ℕ) (events : List Event) → 0 < n → let run = run_of n rounds events in
    IsLegal (length events) (length (records_of run)) (λ q. get_or (records_of run) q no_record) (order_of run)
one_order_of_records n rounds events some =
    let run = run_of n rounds events in
    subst (λ (k : ℕ). IsLegal (length events) k (λ q. get_or (records_of run) q no_record) (order_of run)) (sym (first_length run))
    (legal_same (length events) run.count run.records (λ q. get_or (records_of run) q no_record) (first_at run) (order_of run) (one_order n rounds events some))
