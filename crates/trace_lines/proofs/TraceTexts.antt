-- Texts of traces, in the parts that are put.
use Rattle.std.proofs.Common.{◌≡◌, ℕ, ◌+◌, List, [], ◌∷◌, ◌++◌, refl, sym, ap, ◌∙◌, append_assoc, append-nil}
use Rattle.std.specs.Prelude.{codes}
use Rattle.std.specs.List.{flat_map}
use Rattle.step_core.specs.declared.trace.OpRecord.{OpRecord}
use Rattle.trace_lines.specs.TraceText.{reply_words, record_line, number_word, order_line, ended, records_text, trace_text}
use Rattle.trace_lines.specs.Private.Puts.{record_words}

pub record_in_parts : (number : ℕ) (r : OpRecord) (front items : List ℕ) → front ≡ items → ((reply : List ℕ) → items ++ reply ≡ record_words number r reply)
    → (front ++ []) ++ (reply_words r.reply ++ 10 ∷ []) ≡ ended (record_line number r)
unfolding record_line
record_in_parts number r front items is head =
    let reply = reply_words r.reply in
    ap (λ f. f ++ (reply ++ 10 ∷ [])) (append-nil front ∙ is) ∙ sym (append_assoc items reply (10 ∷ [])) ∙ ap ended (head reply)

pub order_in_parts : (order : List ℕ) → codes "order" ++ (flat_map number_word order ++ 10 ∷ []) ≡ ended (order_line order)
unfolding order_line
order_in_parts order = refl

pub first_record : (number : ℕ) (r : OpRecord) (records : List OpRecord) → records_text number (r ∷ records) ≡ ended (record_line number r) ++ records_text (number + 1) records
unfolding records_text
first_record number r records = refl

pub no_records : (number : ℕ) → records_text number [] ≡ []
unfolding records_text
no_records number = refl

pub trace_in_parts : (records ops : List OpRecord) (order numbers : List ℕ) → records ≡ ops → order ≡ numbers → records_text 0 records ++ ended (order_line order) ≡ trace_text ops numbers
unfolding trace_text
trace_in_parts records ops order numbers one two = λ i. records_text 0 (one i) ++ ended (order_line (two i))
