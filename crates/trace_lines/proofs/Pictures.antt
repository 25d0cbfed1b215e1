-- Pictures, in the parts that are put.
use Rattle.std.proofs.Common.{◌≡◌, ℕ, suc, zero, ◌+◌, ◌-◌, ◌*◌, ◌/◌, ◌<◌, ◌≤◌, min, arith, cond, List, [], ◌∷◌, ◌++◌, length, take, map, Some, None, refl, sym, ap, ◌∙◌, append_assoc, append-nil, inl, inr}
use Rattle.std.specs.Prelude.{◌==◌, codes, decimal}
use Rattle.std.specs.List.{find, flat_map, range_with_len}
use Rattle.std.proofs.lemmas.Bool.Decides.{eqb_tells}
use Rattle.std.proofs.lemmas.List.{take-append-le, take_all}
use Rattle.std.proofs.lemmas.List.FromFn.{map-range_with_len_more}
use Rattle.step_core.specs.declared.trace.OpRecord.{OpRecord}
use Rattle.trace_lines.specs.TraceText.{ended, trace_text}
use Rattle.trace_lines.specs.Picture.{moment, moments, tick, event_line, label, caller_mark, caller_line, order_mark, order_row, callers_of, band_text, numbered_band, bands_text, legend, picture_text}

-- ---- lists over a range

flat_more_at : (f : ℕ → List ℕ) (a n j : ℕ) → a + n ≡ j → flat_map f (range_with_len a (n + 1)) ≡ flat_map f (range_with_len a n) ++ f j
flat_more_at f a zero j is = append-nil (f a) ∙ ap f (sym (let e : a + 0 ≡ a = omega arith in e) ∙ is)
flat_more_at f a (suc n) j is =
    let e : (suc n) + 1 ≡ suc (n + 1) = omega arith in
    ap (λ m. flat_map f (range_with_len a m)) e
    ∙ ap (λ t. f a ++ t) (flat_more_at f (a + 1) n j (omega (arith, is))) ∙ sym (append_assoc (f a) (flat_map f (range_with_len (a + 1) n)) (f j))

pub flat_more : (f : ℕ → List ℕ) (n : ℕ) → flat_map f (range_with_len 0 (n + 1)) ≡ flat_map f (range_with_len 0 n) ++ f n
flat_more f n = flat_more_at f 0 n n (omega arith)

pub range_first : (f : ℕ → List ℕ) (k n : ℕ) → k < n → flat_map f (range_with_len k (n - k)) ≡ f k ++ flat_map f (range_with_len (k + 1) (n - (k + 1)))
range_first f k n below =
    let e : n - k ≡ suc (n - (k + 1)) = omega (arith, below) in
    ap (λ m. flat_map f (range_with_len k m)) e

pub range_none : (f : ℕ → List ℕ) (k n : ℕ) → n ≤ k → flat_map f (range_with_len k (n - k)) ≡ []
range_none f k n over =
    let e : n - k ≡ 0 = omega (arith, over) in
    ap (λ m. flat_map f (range_with_len k m)) e

pub columns_more : (before : List ℕ) (f : ℕ → ℕ) (from event : ℕ) → from ≤ event
    → (before ++ map f (range_with_len from (event - from))) ++ f event ∷ [] ≡ before ++ map f (range_with_len from (event + 1 - from))
columns_more before f from event after =
    let e : event + 1 - from ≡ (event - from) + 1 = omega (arith, after) in
    append_assoc before (map f (range_with_len from (event - from))) (f event ∷ [])
    ∙ ap (λ t. before ++ t) (sym (map-range_with_len_more f from (event - from) event (omega (arith, after))) ∙ ap (λ m. map f (range_with_len from m)) (sym e))

pub columns_none : (before : List ℕ) (f : ℕ → ℕ) (from : ℕ) → before ≡ before ++ map f (range_with_len from (from - from))
columns_none before f from =
    let e : 0 ≡ from - from = omega arith in
    sym (append-nil before) ∙ ap (λ m. before ++ map f (range_with_len from m)) e

pub take_front : {X : Type 0} (n : ℕ) (xs : List X) (x : X) → length xs ≡ n → take n (xs ++ x ∷ []) ≡ xs
take_front n xs x is = take-append-le n xs (x ∷ []) (omega (arith, is)) ∙ take_all n xs (omega (arith, is))

-- ---- the row of the order

-- no operation takes effect before this event
pub none_before : (from : ℕ) (records : List OpRecord) (order : List ℕ) (event : ℕ) → event < from → find (λ m. m.1 == event) (moments from records order) ≡ None
none_before from records [] event before = refl
none_before from records (number ∷ order) event before =
    let at = moment from records number in
    elim (eqb_tells at event) [
      | inl k ↦ absurd (omega (arith, k.1, before))
      | inr k ↦ ap (λ b. cond b (Some (number, at)) (find (λ m. m.1 == event) (moments (at + 1) records order))) k.0 ∙ none_before (at + 1) records order event (omega (arith, before))
    ]

-- nor does one, if the next takes effect after it
pub none_passed : (from : ℕ) (records : List OpRecord) (number : ℕ) (order : List ℕ) (event at : ℕ) → event < at → at ≡ moment from records number
    → find (λ m. m.1 == event) (moments from records (number ∷ order)) ≡ None
none_passed from records number order event at before is =
    let now = moment from records number in
    elim (eqb_tells now event) [
      | inl k ↦ absurd (omega (arith, k.1, before, is))
      | inr k ↦ ap (λ b. cond b (Some (number, now)) (find (λ m. m.1 == event) (moments (now + 1) records order))) k.0 ∙ none_before (now + 1) records order event (omega (arith, before, is))
    ]

-- ---- in parts

pub events_are : (from width : ℕ) → codes "event    " ++ flat_map (λ k. tick (from + 10 * k)) (range_with_len 0 ((width + 9) / 10)) ≡ event_line from width
unfolding event_line
events_are from width = refl

pub caller_is : (records : List OpRecord) (from width caller : ℕ)
    → label (codes "caller " ++ decimal caller) ++ map (caller_mark records caller) (range_with_len from width) ≡ caller_line records from width caller
unfolding caller_line
caller_is records from width caller = refl

pub order_is : (records : List OpRecord) (order : List ℕ) (from width : ℕ) → codes "order             " ++ map (order_mark records order) (range_with_len from width) ≡ order_row records order from width
unfolding order_row
order_is records order from width = refl

pub band_in_parts : (records : List OpRecord) (order callers : List ℕ) (from width : ℕ)
    → ended (event_line from width) ++ (flat_map (λ caller. ended (caller_line records from width caller)) callers ++ (order_row records order from width ++ codes "\n\n"))
    ≡ band_text records order callers from width
unfolding band_text
band_in_parts records order callers from width = refl

pub all_bands : (records : List OpRecord) (order callers : List ℕ) (events : ℕ)
    → bands_text records order callers events ≡ flat_map (numbered_band records order callers events) (range_with_len 0 ((events + 59) / 60 - 0))
unfolding bands_text
all_bands records order callers events =
    let e : (events + 59) / 60 ≡ (events + 59) / 60 - 0 = omega arith in
    ap (λ m. flat_map (numbered_band records order callers events) (range_with_len 0 m)) e

pub page_in_parts : (events : ℕ) (records : List OpRecord) (order : List ℕ)
    → legend ++ (bands_text records order (callers_of [] (take 960 records)) (min 960 events) ++ trace_text records order) ≡ picture_text events records order
unfolding picture_text
page_in_parts events records order = refl
