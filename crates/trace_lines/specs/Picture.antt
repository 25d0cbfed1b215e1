-- A run as a picture in plain text: a row for each caller, a column for each event of the run.
use Rattle.std.specs.Prelude.{ℕ, ◌+◌, ◌-◌, ◌*◌, ◌==◌, ◌/◌, ◌%◌, nat_le, min, max, Bool, true, false, ◌&&◌, if◌then◌else◌, List, [], ◌∷◌, ◌++◌, length, map, take, replicate, get_or, codes, decimal, Option, Some, None}
use Rattle.std.specs.List.{find, flat_map, list_any, range_with_len}
use Rattle.step_core.specs.declared.trace.OpRecord.{OpRecord}
use Rattle.step_core.specs.Records.{no_record}
use Rattle.trace_lines.specs.TraceText.{ended, trace_text}

-- ---- one column of a caller's row

abbrev pub not_after : Option ℕ → ℕ → Bool
not_after None event = true
not_after (Some last) event = nat_le event last

abbrev pub is_last : Option ℕ → ℕ → Bool
is_last None event = false
is_last (Some last) event = last == event

-- the operation is this caller's, has begun, and has not ended before this event
abbrev pub is_open : ℕ → ℕ → OpRecord → Bool
is_open caller event r = (r.caller == caller) && (nat_le r.first event && not_after r.last event)

-- `[` where an operation begins, `]` where it ends, `-` between
abbrev pub open_mark : ℕ → OpRecord → ℕ
open_mark event r = if r.first == event then 91 else if is_last r.last event then 93 else 45

-- a dot if no operation is open
abbrev pub mark_of : ℕ → Option OpRecord → ℕ
mark_of event None = 46
mark_of event (Some r) = open_mark event r

-- what stands in the row of this caller, in the column of this event
abbrev pub caller_mark : List OpRecord → ℕ → ℕ → ℕ
caller_mark records caller event = mark_of event (find (is_open caller event) (take 960 records))

-- ---- one column of the row `order`

-- an operation may take effect from this event on, and once it has begun
abbrev pub moment : ℕ → List OpRecord → ℕ → ℕ
moment from records number = max from (get_or records number no_record).first

-- Each operation of the order, and the event at which it takes effect: the first that is after those of the operations before it.
abbrev pub moments : ℕ → List OpRecord → List ℕ → List (ℕ × ℕ)
moments from records [] = []
moments from records (number ∷ order) = (number, moment from records number) ∷ moments (moment from records number + 1) records order

-- the last digit of the operation's number
abbrev pub digit_of : Option (ℕ × ℕ) → ℕ
digit_of None = 46
digit_of (Some found) = 48 + found.0 % 10

-- what stands in the row `order`, in the column of this event
abbrev pub order_mark : List OpRecord → List ℕ → ℕ → ℕ
order_mark records order event = digit_of (find (λ m. m.1 == event) (moments 0 records order))

-- ---- the lines

-- a word, and spaces behind it
abbrev pub label : List ℕ → List ℕ
label word = word ++ replicate (18 - length word) 32

-- the number of an event, its last digit over the event's column
abbrev pub tick : ℕ → List ℕ
tick event = replicate (10 - length (decimal event)) 32 ++ decimal event

-- of so many events, from this one on, the number of each tenth
unfoldable pub event_line : ℕ → ℕ → List ℕ
event_line from width = codes "event    " ++ flat_map (λ k. tick (from + 10 * k)) (range_with_len 0 ((width + 9) / 10))

unfoldable pub caller_line : List OpRecord → ℕ → ℕ → ℕ → List ℕ
caller_line records from width caller = label (codes "caller " ++ decimal caller) ++ map (caller_mark records caller) (range_with_len from width)

unfoldable pub order_row : List OpRecord → List ℕ → ℕ → ℕ → List ℕ
order_row records order from width = label (codes "order") ++ map (order_mark records order) (range_with_len from width)

-- a caller more, if it is new and there is room
abbrev pub with_caller : List ℕ → ℕ → List ℕ
with_caller callers caller = if list_any (λ c. c == caller) callers then callers else take 16 (callers ++ caller ∷ [])

-- the callers, in the order in which they first begin
abbrev pub callers_of : List ℕ → List OpRecord → List ℕ
callers_of callers [] = callers
callers_of callers (r ∷ records) = callers_of (with_caller callers r.caller) records

-- ---- the picture

-- so many events, from this one on: their numbers, a row for each caller, and the row of the order
unfoldable pub band_text : List OpRecord → List ℕ → List ℕ → ℕ → ℕ → List ℕ
band_text records order callers from width =
    ended (event_line from width) ++ (flat_map (λ caller. ended (caller_line records from width caller)) callers ++ (order_row records order from width ++ codes "\n\n"))

-- the band of this number, from 0: it has 60 events, the last of so many maybe fewer
abbrev pub numbered_band : List OpRecord → List ℕ → List ℕ → ℕ → ℕ → List ℕ
numbered_band records order callers events band = band_text records order callers (60 * band) (min 60 (events - 60 * band))

unfoldable pub bands_text : List OpRecord → List ℕ → List ℕ → ℕ → List ℕ
bands_text records order callers events = flat_map (numbered_band records order callers events) (range_with_len 0 ((events + 59) / 60))

unfoldable pub legend : List ℕ
legend = codes "A row for each caller, a column for each event, counted from 0.\n[ an operation begins   ] it ends   - it is open   . no operation is open\norder: each operation at a moment when it can take effect, by the last digit of\nits number, so that one after another they give these replies.\nUp to 960 events and 16 callers are drawn.\n\n"

-- the picture of a run of so many events, and below it the text of its trace
unfoldable pub picture_text : ℕ → List OpRecord → List ℕ → List ℕ
picture_text events records order =
    legend ++ (bands_text records order (callers_of [] (take 960 records)) (min 960 events) ++ trace_text records order)
