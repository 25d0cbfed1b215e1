-- Events, read line by line.
use Rattle.std.proofs.Common.{◌≡◌, ℕ, suc, ◌+◌, List, [], ◌∷◌, ◌++◌, length, Option, None, Err, inl, inr, refl, sym, ap, subst, ◌∙◌, append_assoc, append-nil}
use Rattle.std.proofs.lemmas.Option.{none-some}
use Rattle.step_core.specs.declared.event.Event.{Event}
use Rattle.trace_lines.specs.EventLine.{IsEventOf}
use Rattle.trace_lines.specs.Events.{lines_in, AreEvents, IsFirstBad}
use Rattle.trace_lines.specs.Private.EventReading.{Reads, event_of}
use Rattle.trace_lines.specs.declared.operation.LineError.{LineError}
use Rattle.trace_lines.specs.declared.operation.LineError.TheVariants.{NoEvent}
use Rattle.trace_lines.proofs.EventLines.{event_read}
use Rattle.trace_lines.proofs.InputLines.{no_lines}

pub empty_is : (bytes : List ℕ) → length bytes ≡ 0 → bytes ≡ []
empty_is [] is = refl
empty_is (byte ∷ bytes) is = absurd (cc is)

each_then : (lines : List (List ℕ)) (events : List Event) (line : List ℕ) (event : Event) → AreEvents lines events → IsEventOf line event → AreEvents (lines ++ line ∷ []) (events ++ event ∷ [])
each_then [] [] line event each one = (one, tt)
each_then [] (e ∷ events) line event each one = absurd each
each_then (l ∷ lines) [] line event each one = absurd each
each_then (l ∷ lines) (e ∷ events) line event each one = (each.0, each_then lines events line event each.1 one)

same_length : (lines : List (List ℕ)) (events : List Event) → AreEvents lines events → length lines ≡ length events
same_length [] [] each = refl
same_length [] (e ∷ events) each = absurd each
same_length (l ∷ lines) [] each = absurd each
same_length (l ∷ lines) (e ∷ events) each = ap suc (same_length lines events each.1)

module _ (input rest : List ℕ) (before : List (List ℕ)) (events : List Event) (split : lines_in input ≡ before ++ lines_in rest) (each : AreEvents before events) where
  -- nothing is left
  pub all_events : rest ≡ [] → AreEvents (lines_in input) events
  all_events none = subst (λ (lines : List (List ℕ)). AreEvents lines events) (sym (split ∙ ap (λ r. before ++ lines_in r) none ∙ ap (λ r. before ++ r) no_lines ∙ append-nil before)) each

  module _ (line after : List ℕ) (first : lines_in rest ≡ line ∷ lines_in after) where
    -- one line more is an event's
    pub one_event_more : (event : Event) → IsEventOf line event → (lines : List (List ℕ)) × (lines_in input ≡ lines ++ lines_in after) × AreEvents lines (events ++ event ∷ [])
    one_event_more event told = (
      before ++ line ∷ [],
      split ∙ ap (λ r. before ++ r) first ∙ sym (append_assoc before (line ∷ []) (lines_in after)),
      each_then before events line event each told,
    )

    -- it is no event's
    pub first_bad : (number : ℕ) → number ≡ length events + 1 → event_of line ≡ None → IsFirstBad number (lines_in input)
    first_bad number is none = record {
      before = before;
      line = line;
      after = lines_in after;
      events = events;
      lines_are = split ∙ ap (λ r. before ++ r) first;
      number_is = is ∙ ap (λ n. n + 1) (sym (same_length before events each));
      each = each;
      bad = λ event told. none-some event (sym none ∙ event_read line event told);
    }

-- ---- what a reading tells

pub no_event : (e : LineError) (o : Option Event) → Reads (Err e) o → e ≡ NoEvent → o ≡ None
no_event e o (inl refused) is = absurd (cc (refused, is))
no_event e o (inr none) is = none.1
