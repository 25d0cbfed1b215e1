-- Lemmas on what a client reads.
use Rattle.std.proofs.Common.{◌≡◌, ◌≢◌, ℕ, List, [], ◌∷◌, ◌++◌, refl, sym, ap, ◌∙◌, inl, inr, arith, append_assoc, Result, Ok, Err}
use Rattle.std.specs.Prelude.{Option, Some, None}
use Rattle.std.specs.Io.KnownBytes.{Appends}
use Rattle.std.specs.List.{flat_map}
use Rattle.std.proofs.lemmas.List.{append_cancel_left}
use Rattle.map_core.specs.declared.op.Op.{Op}
use Rattle.wire.specs.Frame.{IsPayload, HasFrames, frame}
use Rattle.wire.specs.Answers.{answer_frames}
use Rattle.wire.specs.declared.version.Version.{Version}
use Rattle.wire.specs.Fields.{version_number}
use Rattle.client.specs.Request.{request_bytes, version_for}
use Rattle.client.specs.Reading.{NoFrame}
use Rattle.client.specs.Answer.{Answer}
use Rattle.client.specs.Client.{Breaks, BeginsNoReply, reply_preface, spoken_bytes, reply_bytes, Ends, Exchange, IsBroken}
use Rattle.client.specs.Private.Reads.{ReadsWhole, ReadsReply}
use Rattle.wire.specs.Output.{End}
use Rattle.client.proofs.ReadingLemmas.{reads_both, stops_behind}
use Rattle.client.specs.declared.client_error.ClientError.{ClientError}
use Rattle.client.specs.declared.client_error.ClientError.TheVariants.{Memory, BadLength, BadReply, Truncated, ReadFault, WriteFault}
use Rattle.wire.proofs.FrameLemmas.{frame_first, none_at_end}
use Rattle.client.proofs.AnswerLemmas.{unfinished_reply}

-- if no frame was read, no reply was
pub frame_breaks : (op : Op) (why : ClientError) (read : List ℕ) (left : Option (List ℕ)) → NoFrame why read left → Breaks op answer_frames why read left
frame_breaks op Truncated read left none = (unfinished_reply op read none.0, none.1)
frame_breaks op ReadFault read left none = unfinished_reply op read none
frame_breaks op BadLength read left none = ([], read, record { whole = refl; each = tt; ends = inr none.0 }, none.0)
frame_breaks op BadReply read left none = absurd none
frame_breaks op WriteFault read left none = absurd none
frame_breaks op Memory read left none = absurd none

-- the reply that a version is set
abbrev version_set : Version → List ℕ
version_set version = 118 ∷ version_number version ∷ []

version_payload : (version : Version) → IsPayload (version_set version)
version_payload version = (omega arith, omega arith)

-- frames behind that of the version
behind_version : (wanted : Option Version) (read rest : List ℕ) (payloads : List (List ℕ)) → HasFrames read payloads rest
    → (before : List (List ℕ)) × HasFrames (spoken_bytes wanted ++ read) (before ++ payloads) rest
behind_version None read rest payloads framed = ([], framed)
behind_version (Some version) read rest payloads framed = (
  version_set version ∷ [],
  record {
    whole = ap (λ r. frame (version_set version) ++ r) framed.whole ∙ sym (append_assoc (frame (version_set version)) (flat_map frame payloads) rest);
    each = (version_payload version, framed.each);
    ends = framed.ends;
  },
)

-- no reply behind the one to the version
breaks_behind : (op : Op) (why : ClientError) (read : List ℕ) (left : Option (List ℕ)) → Breaks op answer_frames why read left
    → Breaks op (reply_bytes op) why (reply_preface op ++ read) left
breaks_behind op Truncated read left breaks = (λ a may valid same. breaks.0 a may valid (append_cancel_left (reply_preface op) (answer_frames a) read same), breaks.1)
breaks_behind op ReadFault read left breaks = λ a may valid same. breaks a may valid (append_cancel_left (reply_preface op) (answer_frames a) read same)
breaks_behind op BadReply read left breaks = λ rest a may valid same.
    breaks rest a may valid (append_cancel_left (reply_preface op) (answer_frames a) (read ++ rest) (same ∙ append_assoc (reply_preface op) read rest))
breaks_behind op BadLength read left breaks =
    let framed = behind_version (version_for op) read breaks.1 breaks.0 breaks.2 in
    (framed.0 ++ breaks.0, breaks.1, framed.1, breaks.3)
breaks_behind op WriteFault read left breaks = absurd breaks
breaks_behind op Memory read left breaks = tt

module _ (op : Op) (version : Version) (needed : version_for op ≡ Some version) where
  is_behind : (a : Answer) → reply_bytes op a ≡ frame (version_set version) ++ answer_frames a
  is_behind a = ap (λ o. spoken_bytes o ++ answer_frames a) needed

  -- if the reply to the version was not read
  pub version_breaks : (why : ClientError) (read : List ℕ) (left : Option (List ℕ)) → NoFrame why read left
      → Breaks op (reply_bytes op) why read left
  version_breaks Truncated read left none =
      (λ a may valid same. none_at_end (version_set version) (answer_frames a) read (version_payload version) (sym same ∙ is_behind a) (inl none.0), none.1)
  version_breaks ReadFault read left none = λ a may valid same.
      none_at_end (version_set version) (answer_frames a) read (version_payload version) (sym same ∙ is_behind a) (inl none)
  version_breaks BadLength read left none = ([], read, record { whole = refl; each = tt; ends = inr none.0 }, none.0)
  version_breaks BadReply read left none = absurd none
  version_breaks WriteFault read left none = absurd none
  version_breaks Memory read left none = absurd none

  -- another reply
  pub other_version : (payload : List ℕ) → IsPayload payload → payload ≢ version_set version → BeginsNoReply op (reply_bytes op) (frame payload)
  other_version payload good other rest a may valid same =
      other (sym (frame_first (version_set version) payload (answer_frames a) rest (version_payload version) good (sym (is_behind a) ∙ same)).0)

-- behind the reply to the version
pub behind_preface : (op : Op) (old mid new : End) → ReadsWhole old mid (reply_preface op) → (r : Result Answer ClientError) → ReadsReply op answer_frames r mid new → ReadsReply op (reply_bytes op) r old new
behind_preface op old mid new first (Ok answer) told = (told.0, told.1, reads_both old mid new (reply_preface op) first (answer_frames answer) told.2)
behind_preface op old mid new first (Err why) cut = stops_behind old mid new (reply_preface op) first _ _ why cut (breaks_behind op why cut.read new.bytes cut.says)

-- a request that was written, and what came of reading the reply
module _ (op : Op) (old new : Ends) (written : Appends old.held new.held (request_bytes op)) (quiet : new.write_faults ≡ old.write_faults) where
  broken : (why : ClientError) → ReadsReply op (reply_bytes op) (Err why) (record { bytes = old.left; faults = old.read_faults }) (record { bytes = new.left; faults = new.read_faults })
      → IsBroken op why old new
  broken why cut = record { read = cut.read; written = written; consumes = cut.consumes; breaks = cut.says; counted = cut.counted; quiet_writer = quiet }

  pub exchanged : (r : Result Answer ClientError) → ReadsReply op (reply_bytes op) r (record { bytes = old.left; faults = old.read_faults }) (record { bytes = new.left; faults = new.read_faults })
      → Exchange op r old new
  exchanged (Ok answer) told = record { written = written; read = told.2.consumes; may = told.0; valid = told.1; quiet_reader = told.2.quiet; quiet_writer = quiet }
  exchanged (Err WriteFault) cut = absurd cut.says
  exchanged (Err Truncated) cut = broken Truncated cut
  exchanged (Err ReadFault) cut = broken ReadFault cut
  exchanged (Err BadReply) cut = broken BadReply cut
  exchanged (Err BadLength) cut = broken BadLength cut
  exchanged (Err Memory) cut = broken Memory cut
