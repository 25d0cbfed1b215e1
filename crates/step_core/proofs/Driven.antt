-- A driver shows the run of the events so far.
use Rattle.std.proofs.Common.{◌≡◌, ℕ, ◌+◌, ◌<◌, ◌&&◌, nat_lt, Bool, true, false, cond, List, [], ◌∷◌, ◌++◌, length, get_or, take, Option, Some, None, arith, refl, sym, ap, subst, ◌∙◌}
use Rattle.std.proofs.lemmas.Bool.Decides.{nat_tests}
use Rattle.std.proofs.lemmas.Grind.{elements}
use Rattle.std.proofs.lemmas.List.{same_lists}
use Rattle.std.specs.Prelude.{filter}
use Rattle.std.specs.Ordering.{nat_cmp}
use Rattle.std.specs.BTreeMap.{BTreeMap, IsEmpty, is_at}
use Rattle.std.specs.Map.{lookup}
use Rattle.std.proofs.lemmas.List.{take_more, length-take-le}
use Rattle.std.specs.BTreeMap as tree
use Rattle.step_core.specs.declared.event.Event.{Event}
use Rattle.step_core.specs.Shard.{fresh_shard, reading}
use Rattle.step_core.specs.declared.trace.OpRecord.{OpRecord}
use Rattle.step_core.specs.Run.{Run, numbers, act, tick, fresh_run, run_from, run_of, order_of}
use Rattle.step_core.specs.Records.{no_record, took_effect}
use Rattle.step_core.proofs.Legal.{times}
use Rattle.step_core.specs.Trace.{records_of}
use Rattle.step_core.specs.Private.Driver.{positions, holds}
use Rattle.step_core.specs.Private.Shown.{IsCaller, IsShown}
use Rattle.step_core.specs.declared.driver.Running.{Running}
use Rattle.step_core.specs.declared.driver.Driver.{Driver}
use Rattle.step_core.proofs.Points.{numbers-filter, times-head}
use Rattle.step_core.proofs.Runs.{inv_run, events_of}
use Rattle.step_core.proofs.Traces.{first_length, first_at}

get-empty : (m : BTreeMap ℕ Running) (c : ℕ) → IsEmpty m → tree.get nat_cmp m c ≡ None
get-empty m c h = ap (λ (es : List (ℕ × Running)). lookup (is_at (nat_cmp c)) es) h

pub fresh_shown : (n rounds : ℕ) (driver : Driver) → driver.rounds ≡ rounds → length driver.shards.items ≡ n → ((i : ℕ) → i < n → reading driver.shards.items i ≡ fresh_shard) → IsEmpty driver.callers → driver.ops.items ≡ [] → driver.points.items ≡ [] → IsShown n rounds driver fresh_run
fresh_shown n rounds driver r size fresh callers ops points =
    record {
      rounds_are = r;
      shards = record { size = size; each = fresh };
      callers = λ c. subst (IsCaller n rounds fresh_run driver.points.items c) (sym (get-empty driver.callers c callers)) refl;
      records = record { size = ap (λ l. length l) ops; each = λ q l. absurd (omega (arith, l)) };
      points = ap positions points;
      known = λ i q is. let none : false ≡ true = sym (ap (λ (xs : List (Option ℕ)). holds (get_or xs i None) q) points) ∙ is in cc;
    }

run_push : (n rounds : ℕ) (events : List Event) (event : Event) (run : Run) → run_from n rounds run (events ++ event ∷ []) ≡ tick (act n rounds (run_from n rounds run events) event)
run_push n rounds [] event run = refl
run_push n rounds (e ∷ events) event run = run_push n rounds events event (tick (act n rounds run e))

next_take : (xs : List Event) (k : ℕ) (x : Event) → x ≡ get_or xs k x → k < length xs → take (k + 1) xs ≡ take k xs ++ x ∷ []
next_take xs k x is l = take_more xs k x l ∙ ap (λ (y : Event). take k xs ++ y ∷ []) (sym is)

-- time goes on
ticked : (n rounds : ℕ) (driver : Driver) (run : Run) → IsShown n rounds driver run → IsShown n rounds driver (tick run)
ticked n rounds driver run h = record { rounds_are = h.rounds_are; shards = h.shards; callers = λ c. later c _ (h.callers c); records = h.records; points = h.points; known = h.known }
  where
    later : (c : ℕ) (y : Option Running) → IsCaller n rounds run driver.points.items c y → IsCaller n rounds (tick run) driver.points.items c y
    later c None h = h
    later c (Some x) h = record { number = h.number; known = h.known; caller = h.caller; op = h.op; busy = h.busy; task = h.task; place = h.place }

pub next_shown : (n rounds : ℕ) (events : List Event) (k : ℕ) (new : Driver) (event : Event) → event ≡ get_or events k event → k < length events
    → ((run_of n rounds (take k events)).events ≡ k → IsShown n rounds new (act n rounds (run_of n rounds (take k events)) event)) → IsShown n rounds new (run_of n rounds (take (k + 1) events))
next_shown n rounds events k new event is l h =
    let run = run_of n rounds (take k events) in
    let time : run.events ≡ k = events_of n rounds (take k events) ∙ length-take-le k events (omega (arith, l)) in
    subst (IsShown n rounds new) (sym (ap (run_of n rounds) (next_take events k event is l) ∙ run_push n rounds (take k events) event fresh_run))
    (ticked n rounds new (act n rounds run event) (h time))

pub witness : (n rounds : ℕ) (driver : Driver) (run : Run) → IsShown n rounds driver run → (x : Run) × IsShown (length driver.shards.items) driver.rounds driver x
witness n rounds driver run h =
    (run, subst (λ (k : ℕ). IsShown k driver.rounds driver run) (sym h.shards.size) (subst (λ (r : ℕ). IsShown n r driver run) (sym h.rounds_are) h))

pub shown_records : (n rounds : ℕ) (driver : Driver) (events : List Event) → IsShown n rounds driver (run_of n rounds events) → driver.ops.items ≡ records_of (run_of n rounds events)
shown_records n rounds driver events h =
    let run = run_of n rounds events in
    let list = driver.ops.items in
    let size : length list ≡ length (records_of run) = h.records.size ∙ sym (first_length run) in
    same_lists list (records_of run) size
    (λ k d l. let below : k < run.count = subst (λ (x : ℕ). k < x) h.records.size l in any_default list k d l ∙ h.records.each k below ∙ sym (first_at run k below) ∙ sym (any_default (records_of run) k d (subst (λ (x : ℕ). k < x) size l)))
  where
    any_default : (xs : List OpRecord) (k : ℕ) (d : OpRecord) → k < length xs → get_or xs k d ≡ get_or xs k no_record
    any_default xs k d l = grind (arith, elements)

filter_same : (f g : ℕ → Bool) (xs : List ℕ) → ((q : ℕ) → 0 < times q xs → f q ≡ g q) → filter f xs ≡ filter g xs
filter_same f g [] h = refl
filter_same f g (x ∷ xs) h =
    let here = h x (times-head x xs) in
    let rest : filter f xs ≡ filter g xs = filter_same f g xs (λ q l. h q (omega (arith, l))) in
    λ i. cond (here i) (x ∷ rest i) (rest i)

counted_below : (t q count : ℕ) (h : Bool) → t ≡ cond (nat_lt q count && h) 1 0 → 0 < t → q < count
counted_below t q count h is l = grind (arith, nat_tests)

pub shown_order : (n rounds : ℕ) (driver : Driver) (events : List Event) → 0 < n → IsShown n rounds driver (run_of n rounds events)
    → filter (λ q. took_effect (get_or driver.ops.items q no_record)) (positions driver.points.items) ≡ order_of (run_of n rounds events)
shown_order n rounds driver events some h =
    let run = run_of n rounds events in
    let list = driver.ops.items in
    let inv = inv_run n rounds some events in
    let test : ℕ → Bool = (λ q. took_effect (get_or list q no_record)) in
    ap (filter test) h.points
    ∙ filter_same test (λ q. took_effect (run.records q)) (numbers run.points) (λ q l. ap took_effect (h.records.each q (counted_below _ q run.count _ (inv.core.once q) l)))
    ∙ sym (numbers-filter (λ q. took_effect (run.records q)) run.points)
