-- The lines of the log of a server: one for each change of a bundle, for each that was refused by 31 or 36, for those that a session
-- at a port for reads only refused in a turn, and for each end of a session.
use Rattle.std.specs.Prelude.{ℕ, List, [], ◌∷◌, ◌++◌, codes, decimal, Option, None, Some, option_and_then, option_map, Result, Ok, Err}
use Rattle.map_core.specs.declared.op.Expect.{Expect}
use Rattle.map_core.specs.declared.op.Expect.TheVariants.{Absent, Unnumbered, Sequence}
use Rattle.map_core.specs.Reply.{refusal_number}
use Rattle.map_core.specs.declared.reply.MapRefusal.TheVariants.{Stale, NotExpected}
use Rattle.workers.specs.Ended.{session_number}
use Rattle.workers.specs.Log.{ChangeView}
use Rattle.workers.specs.declared.log.How.{How}
use Rattle.workers.specs.declared.log.How.TheVariants.{Set, Appended, Removed}
use Rattle.workers.specs.declared.log.ChangeRefusal.{ChangeRefusal}
use Rattle.workers.specs.declared.log.Client.{Client}
use Rattle.workers.specs.declared.log.ChangeRefusal.TheVariants.{Map, ReadOnly}
use Rattle.workers.specs.declared.ended.SessionFault.{SessionFault}

abbrev pub how_word : How → List ℕ
how_word Set = codes "set"
how_word Appended = codes "appended"
how_word Removed = codes "removed"

-- what stands under a name: no bundle, one without a sequence, or one of this sequence
abbrev pub state_word : Expect → List ℕ
state_word Absent = codes "absent"
state_word Unnumbered = codes "unnumbered"
state_word (Sequence sequence) = decimal sequence

-- what stood there before, if that is known
abbrev pub before_word : Option Expect → List ℕ
before_word None = codes "unknown"
before_word (Some state) = state_word state

-- the worker, and the number of its client, if the line tells of one
abbrev pub who_words : ℕ → Option ℕ → List ℕ
who_words worker None = codes "worker " ++ (decimal worker ++ codes " ")
who_words worker (Some client) = codes "worker " ++ (decimal worker ++ (codes " client " ++ (decimal client ++ codes " ")))

-- such as `worker 3 client 17 set a.example absent to 7`; a line feed ends it
abbrev pub change_line : (worker client : ℕ) → ChangeView → List ℕ
change_line worker client change =
    who_words worker (Some client) ++ how_word change.how ++ codes " " ++ change.domain ++ codes " "
    ++ before_word change.before ++ codes " to " ++ state_word change.after ++ 10 ∷ []

-- the number of a refusal; with 31 the sequence that stands there, and with 36 what stands there
abbrev pub refusal_words : ChangeRefusal → List ℕ
refusal_words (Map (Stale sequence)) = codes "31 " ++ decimal sequence
refusal_words (Map (NotExpected found)) = codes "36 " ++ state_word found
refusal_words (Map refusal) = decimal (refusal_number refusal)
refusal_words ReadOnly = codes "56"

-- such as `worker 3 client 17 refused a.example 31 7`; a line feed ends it
abbrev pub refusal_line : (worker client : ℕ) → List ℕ → ChangeRefusal → List ℕ
refusal_line worker client domain refusal =
    who_words worker (Some client) ++ codes "refused " ++ domain ++ codes " " ++ refusal_words refusal ++ 10 ∷ []

-- such as `worker 3 client 17 refused 12 changes 56`: a session for reads only turned so many away, of names that nobody has read
abbrev pub turned_away_line : (worker client count : ℕ) → List ℕ
turned_away_line worker client count = who_words worker (Some client) ++ codes "refused " ++ decimal count ++ codes " changes 56" ++ 10 ∷ []

-- such as `session ended after 12 replies`, or `session fault 53`
abbrev pub end_words : Result ℕ SessionFault → List ℕ
end_words (Ok count) = codes "session ended after " ++ decimal count ++ codes " replies"
end_words (Err fault) = codes "session fault " ++ decimal (session_number fault)

-- such as ` from 40312`, if the client has a port; a line feed ends it
abbrev pub peer_words : Option ℕ → List ℕ
peer_words None = 10 ∷ []
peer_words (Some port) = codes " from " ++ decimal port ++ 10 ∷ []

-- how a session of the worker ended, and the port of its client; or, if no client came, that none did
abbrev pub end_line : ℕ → Result ℕ SessionFault → Option Client → List ℕ
end_line worker end client =
    who_words worker (option_map (λ c. c.number) client) ++ end_words end ++ peer_words (option_and_then (λ c. c.peer) client)
