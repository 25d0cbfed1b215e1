-- The line that tells what a refresh came to.
use Rattle.std.specs.Prelude.{ℕ, List, [], ◌∷◌, ◌++◌, codes, decimal, Bool, true, false, Option, Some, None}
use Rattle.spiffe_doc.specs.declared.error.DocError.{DocError}
use Rattle.spiffe_doc.specs.Document.{place_of}
use Rattle.spiffe_doc.specs.Number.{doc_number}
use Rattle.map_core.specs.Name.{Name}
use Rattle.map_core.specs.declared.reply.Reply.{Reply}
use Rattle.map_core.specs.declared.reply.Reply.TheVariants.{Stored, Unchanged, Refused}
use Rattle.map_core.specs.declared.reply.AskError.{AskError}
use Rattle.map_core.specs.declared.reply.AskError.TheVariants.{GateShut}
use Rattle.wire.specs.Answers.{refusal_form, error_form}
use Rattle.wire.specs.ReplyForm.{line_of}
use Rattle.refresh.specs.declared.outcome.What.{What}
use Rattle.refresh.specs.declared.outcome.What.TheVariants.{Taken, BadDocument, NoAnswer, Asked}
use Rattle.refresh.specs.declared.outcome_lines.Remark.{Remark}
use Rattle.refresh.specs.declared.outcome_lines.Remark.TheVariants as why
use Rattle.refresh.specs.declared.outcome_lines.LineDetails.{LineDetails}

-- what a line tells besides what the refresh came to
pub record Details : Type 0 where
  pub time : ℕ
  pub due : ℕ
  pub domain : Name
  pub is_sent : Bool
  pub has_emptied : Bool
  pub remark : Option Remark

-- the same, wherever its name lies
abbrev pub details_of : LineDetails → Details
details_of details = record {
  time = details.time;
  due = details.due;
  domain = details.domain.now;
  is_sent = details.is_sent;
  has_emptied = details.has_emptied;
  remark = details.remark;
}

abbrev pub remark_text : Remark → List ℕ
remark_text why.LongName = codes "the name is too long for a file"
remark_text why.Denied = codes "permission denied"
remark_text why.Memory = codes "out of memory"
remark_text why.Unreadable = codes "the file cannot be read"

-- a bundle that nobody answers for is sent; and perhaps it took all its authorities from the domain
abbrev pub stored_words : Bool → Bool → List ℕ
stored_words true true = codes "sent empty"
stored_words true false = codes "sent"
stored_words false true = codes "stored empty"
stored_words false false = codes "stored"

-- a refusal is told as by a session; no other reply comes to a Set
abbrev pub taken_words : Details → Reply → List ℕ
taken_words details Stored = stored_words details.is_sent details.has_emptied
taken_words details Unchanged = codes "unchanged"
taken_words details (Refused refusal) = line_of (refusal_form refusal)
taken_words details reply = codes "answered"

-- the entry of the document, from 0
abbrev pub place_words : Option ℕ → List ℕ
place_words None = []
place_words (Some place) = codes " at " ++ decimal place

abbrev pub bad_document_words : DocError → List ℕ
bad_document_words error = codes "bad document " ++ decimal (doc_number error) ++ place_words (place_of error)

-- an error is told as by a session, and a gate that is shut by its number
abbrev pub error_words : AskError → List ℕ
error_words GateShut = codes "given up refused 56"
error_words error = codes "given up " ++ line_of (error_form error)

abbrev pub what_words : Details → What → List ℕ
what_words details (Taken reply) = taken_words details reply
what_words details (BadDocument error) = bad_document_words error
what_words details NoAnswer = codes "no answer"
what_words details (Asked error) = error_words error

abbrev pub reason_words : Option Remark → List ℕ
reason_words None = []
reason_words (Some remark) = codes " (" ++ remark_text remark ++ codes ")"

-- why nothing was fetched, if nothing was
abbrev pub remark_words : What → Option Remark → List ℕ
remark_words NoAnswer remark = reason_words remark
remark_words what remark = []

-- The time, the domain, what the refresh came to, and when the next one is due.
abbrev pub outcome_line : Details → What → List ℕ
outcome_line details what =
    decimal details.time ++ codes " " ++ details.domain ++ codes " " ++ what_words details what
    ++ codes " due " ++ decimal details.due ++ remark_words what details.remark ++ 10 ∷ []
