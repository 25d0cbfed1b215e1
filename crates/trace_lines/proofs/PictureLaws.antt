-- What a picture shows can be, and fits a page.
use Rattle.std.proofs.Common.{◌≡◌, ℕ, suc, zero, ◌+◌, ◌-◌, ◌*◌, ◌/◌, ◌<◌, ◌≤◌, ◌^◌, arith, List, [], ◌∷◌, ◌++◌, length, map, replicate, get_or, Option, Some, None, refl, ap, ◌∙◌, length-append}
use Rattle.std.specs.Prelude.{codes, decimal, IfSome}
use Rattle.std.specs.List.{flat_map, range_with_len}
use Rattle.std.proofs.lemmas.Fmt.{length-decimal-le}
use Rattle.std.proofs.lemmas.List.{length-replicate}
use Rattle.std.proofs.lemmas.List.FromFn.{length-map-range_with_len}
use Rattle.step_core.specs.declared.trace.OpRecord.{OpRecord}
use Rattle.step_core.specs.Linearization.{HavePoints}
use Rattle.step_core.specs.Records.{no_record, operations}
use Rattle.trace_lines.specs.Picture.{moment, moments, tick, event_line, label, caller_mark, caller_line, order_mark, order_row}
use Rattle.trace_lines.specs.Laws.{AreWithin, IsNarrow, CanTakeEffect, FitPage}

-- ---- moments

ends_later : (last : Option ℕ) (at point : ℕ) → at ≤ point → IfSome last (λ l. point ≤ l) → IfSome last (λ l. at ≤ l)
ends_later None at point before h = tt
ends_later (Some last) at point before h = omega (arith, before, h)

-- the first moments that can be are not after any others that can be
within : (events : ℕ) (records : List OpRecord) (order : List ℕ) (from later : ℕ) → from ≤ later → HavePoints events later (operations records order) → AreWithin events from records (moments from records order)
within events records [] from later before points = tt
within events records (number ∷ order) from later before (point, after, (begun, inside, ended), others) =
    let r = get_or records number no_record in
    let at = moment from records number in
    let early : at ≤ point = omega (arith, before, after, begun) in
    ((omega arith, omega (arith, early, inside)), (omega arith, ends_later r.last at point early ended), within events records order (at + 1) (point + 1) (omega (arith, early)) others)

pub can_be : CanTakeEffect
can_be events records order linear = within events records order 0 0 (omega arith) linear.points

-- ---- lengths

label_long : (word : List ℕ) → length word ≤ 18 → length (label word) ≡ 18
label_long word short = length-append word (replicate (18 - length word) 32) ∙ ap (λ n. length word + n) (length-replicate (18 - length word) 32) ∙ omega (arith, short)

row_long : (word : List ℕ) (mark : ℕ → ℕ) (from width : ℕ) → length word ≤ 18 → length (label word ++ map mark (range_with_len from width)) ≡ 18 + width
row_long word mark from width short =
    length-append (label word) (map mark (range_with_len from width)) ∙ (λ i. label_long word short i + length-map-range_with_len mark from width i)

tick_long : (event : ℕ) → event < 10 ^ 10 → length (tick event) ≡ 10
tick_long event few =
    let short = length-decimal-le 10 event (omega arith) few (omega (arith, few)) in
    length-append (replicate (10 - length (decimal event)) 32) (decimal event) ∙ ap (λ n. n + length (decimal event)) (length-replicate (10 - length (decimal event)) 32) ∙ omega (arith, short)

ticks_long : (f : ℕ → List ℕ) (a n : ℕ) → ((k : ℕ) → k < a + n → length (f k) ≡ 10) → length (flat_map f (range_with_len a n)) ≡ 10 * n
ticks_long f a zero each = refl
ticks_long f a (suc n) each =
    let first = each a (omega arith) in
    let rest = ticks_long f (a + 1) n (λ k below. each k (omega (arith, below))) in
    let all = length-append (f a) (flat_map f (range_with_len (a + 1) n)) in
    omega (arith, first, rest, all)

event_fits : (from width : ℕ) → from ≤ 960 → width ≤ 60 → IsNarrow (event_line from width)
unfolding event_line
event_fits from width low narrow =
    let ticks = (width + 9) / 10 in
    let few : ticks ≤ 6 = omega (arith, narrow) in
    let long = ticks_long (λ k. tick (from + 10 * k)) 0 ticks (λ k below. tick_long (from + 10 * k) (omega (arith, low, few, below))) in
    omega (arith, long, few)

caller_fits : (records : List OpRecord) (from width caller : ℕ) → width ≤ 60 → caller < 2 ^ 32 → IsNarrow (caller_line records from width caller)
unfolding caller_line
caller_fits records from width caller narrow low =
    let short = length-decimal-le 10 caller (omega arith) (omega (arith, low)) (omega (arith, low)) in
    let long = row_long (codes "caller " ++ decimal caller) (caller_mark records caller) from width (omega (arith, short)) in
    omega (arith, long, narrow)

order_fits : (records : List OpRecord) (order : List ℕ) (from width : ℕ) → width ≤ 60 → IsNarrow (order_row records order from width)
unfolding order_row
order_fits records order from width narrow =
    let long = row_long (codes "order") (order_mark records order) from width (omega arith) in
    omega (arith, long, narrow)

pub fit : FitPage
fit records order from width caller low narrow few = (event_fits from width low narrow, caller_fits records from width caller narrow few, order_fits records order from width narrow)
