-- What is printed of a run.
use Rattle.std.specs.Prelude.{ℕ, ◌+◌, List, [], ◌∷◌, ◌++◌, codes, decimal, Option, Some, None, Result}
use Rattle.std.specs.List.{flat_map}
use Rattle.spiffe_doc.specs.Authority.{BundleValue}
use Rattle.spiffe_doc.specs.Text.{text_of}
use Rattle.map_core.specs.Name.{Name}
use Rattle.map_core.specs.declared.reply.Reply.{Reply}
use Rattle.map_core.specs.declared.reply.AskError.{AskError}
use Rattle.step_core.specs.declared.trace.OpRecord.{OpRecord}
use Rattle.wire.specs.RequestForm.{◌then◌}
use Rattle.wire.specs.ReplyForm.{line_of}
use Rattle.wire.specs.Answers.{answer_form, bundles_of}

-- one of all bundles, behind what stands before it: its name and its canonical text
abbrev pub bundle_words : Name × BundleValue → List ℕ
bundle_words item = 32 ∷ item.0 then text_of item.1

-- the line of the reply, and on it all bundles if it tells them
abbrev pub answer_words : Result Reply AskError → List ℕ
answer_words answer = line_of (answer_form answer) ++ flat_map bundle_words (bundles_of answer)

-- a dash for what has not ended
abbrev pub reply_words : Option (Result Reply AskError) → List ℕ
reply_words None = codes "-"
reply_words (Some answer) = answer_words answer

abbrev pub event_word : Option ℕ → List ℕ
event_word None = codes "-"
event_word (Some event) = decimal event

-- the number of the operation, who began it, its first event and its last, and its reply
unfoldable pub record_line : ℕ → OpRecord → List ℕ
record_line number r =
    codes "record" then decimal number then codes "caller" then decimal r.caller then codes "first" then decimal r.first
    then codes "last" then event_word r.last then codes "reply" then reply_words r.reply

-- a number behind what stands before it
abbrev pub number_word : ℕ → List ℕ
number_word number = 32 ∷ decimal number

-- the numbers of the operations in the order that explains the replies
unfoldable pub order_line : List ℕ → List ℕ
order_line order = codes "order" ++ flat_map number_word order

-- a line and its line feed
abbrev pub ended : List ℕ → List ℕ
ended line = line ++ 10 ∷ []

-- a line for each record, numbered from here on
unfoldable pub records_text : ℕ → List OpRecord → List ℕ
records_text number [] = []
records_text number (r ∷ records) = ended (record_line number r) ++ records_text (number + 1) records

-- the records of a run, and their order
unfoldable pub trace_text : List OpRecord → List ℕ → List ℕ
trace_text records order = records_text 0 records ++ ended (order_line order)
