-- What asking a server line by line does to its five ends: the lines, the server's input and output, and what is shown.
use Rattle.std.specs.Prelude.{◌≡◌, ◌≢◌, ◌⊎◌, ℕ, ◌+◌, ◌-◌, ◌^◌, ◌<◌, ◌≤◌, Bool, true, false, ◌||◌, List, [], ◌∷◌, ◌++◌, length, get_or, Option, Result, Ok, Err}
use Rattle.std.specs.List.{AllByRecursion, flat_map, list_any}
use Rattle.std.specs.Io.KnownBytes.{Appends, Consumes, IsAtEnd}
use Rattle.wire.specs.Counted.{next_count}
use Rattle.wire.specs.Frame.{IsPayload, frame}
use Rattle.wire.specs.declared.error.FrontError.TheVariants as front
use Rattle.client.specs.Reading.{NoFrame}
use Rattle.client.specs.declared.client_error.ClientError.{ClientError}
use Rattle.client.specs.declared.client_error.ClientError.TheVariants as client
use Rattle.wire.specs.Encoding.{Gives, EncodesLine, IsFrameOf, IsBadLine, NamesUnreadable, BeginsWith, BeginsLong}
use Rattle.wire.specs.ReplyForm.{Reply, payload_of}
use Rattle.wire.specs.RequestForm.{IsOneLine}
use Rattle.client.specs.Replies.{is_transient, is_refusal, bundles_after, reply_frames, shown, IsTold}
use Rattle.client.specs.declared.reply.Due.{Due}
use Rattle.client.specs.declared.reply.Due.TheVariants.{AnswerTo, OneOfAll}
use Rattle.client.specs.declared.asking.Asking.{Asking}
use Rattle.client.specs.declared.asking.Form.{Form}
use Rattle.client.specs.declared.fault.AskFault.{AskFault}
use Rattle.client.specs.declared.fault.AskFault.TheVariants.{BadLine, Unreadable, Server, Front}

-- ---- the replies to a request

-- after such a reply it is asked again
abbrev pub IsTransient : Reply → Type 0
IsTransient reply = is_transient reply ≡ true

-- the letter of a request follows its length
abbrev pub letter_of : List ℕ → ℕ
letter_of request = get_or request 4 0

-- After so many transient replies these begin what is shown of a request, from no reply to all: the first is one that the request
-- may have, says how many bundles follow it, and is transient itself only if the retries are used up.
abbrev pub AreBegun : Asking → List ℕ → ℕ → List Reply → Type 0
AreBegun how request transient [] = Unit {0}
AreBegun how request transient (first ∷ others) =
    IsTold how.form (AnswerTo (letter_of request)) first × (is_transient first ≡ true → transient ≡ how.retries)
    × (length others ≤ bundles_after first) × AllByRecursion (IsTold how.form OneOfAll) others

-- one more reply is due after these: the first, or a bundle
abbrev pub IsDue : List Reply → Type 0
IsDue [] = Unit {0}
IsDue (first ∷ others) = length others < bundles_after first

-- A request is asked again after each transient reply, and then these replies are all that is told. If there is no request, none comes.
abbrev pub IsAnswered : Asking → List ℕ → List Reply → List Reply → Type 0
IsAnswered how request transient replies =
    ((request ≡ []) × (transient ≡ []) × (replies ≡ []))
    ⊎ ((request ≢ []) × AllByRecursion IsTransient transient × (length transient ≤ how.retries)
    × AreBegun how request (length transient) replies × (IsDue replies → ⊥))

-- ---- an exchange

-- a line, the frame that it becomes, the transient replies after which it was asked again, and those that are shown
pub record Exchange : Type 0 where
  pub line : List ℕ
  pub request : List ℕ
  pub transient : List Reply
  pub replies : List Reply

-- the line becomes the frame, or nothing if it is a comment
abbrev pub IsExchange : Gives → Asking → Exchange → Type 0
IsExchange gives how x = EncodesLine gives (x.line, x.request) × IsAnswered how x.request x.transient x.replies

abbrev pub is_refused : Exchange → Bool
is_refused x = list_any is_refusal x.replies

-- what a server was asked, what it told, and what was shown
pub record Traffic : Type 0 where
  pub asked : List ℕ
  pub told : List ℕ
  pub shown : List ℕ

abbrev pub no_traffic : Traffic
no_traffic = record { asked = []; told = []; shown = [] }

-- that of an exchange: its frame, as often as it was asked
abbrev pub traffic_of : Form → Exchange → Traffic
traffic_of form x = record {
  asked = flat_map (λ reply. x.request) x.transient ++ x.request;
  told = reply_frames (x.transient ++ x.replies);
  shown = flat_map (shown form) x.replies;
}

-- that of exchanges, and then more
abbrev pub traffic : Form → List Exchange → Traffic → Traffic
traffic form items more = record {
  asked = flat_map (λ x. (traffic_of form x).asked) items ++ more.asked;
  told = flat_map (λ x. (traffic_of form x).told) items ++ more.told;
  shown = flat_map (λ x. (traffic_of form x).shown) items ++ more.shown;
}

-- the lines, each with a line feed behind it
abbrev pub lines_of : List Exchange → List ℕ
lines_of items = flat_map (λ x. x.line ++ 10 ∷ []) items

-- how many lines there were after these
abbrev pub count_after : ℕ → List Exchange → ℕ
count_after count [] = count
count_after count (x ∷ items) = count_after (next_count count) items

-- ---- an exchange that breaks off

-- No reply came to a request: what of it was not sent, and what was read. It may be sent whole although a fault of the server's
-- input is told: the writer may fail as it is flushed.
abbrev pub IsUnanswered : ClientError → List ℕ → List ℕ → Option (List ℕ) → Type 0
IsUnanswered why unsent torn left = ((why ≡ client.WriteFault) × (torn ≡ [])) ⊎ ((unsent ≡ []) × NoFrame why torn left)

-- where the next reply to a request comes: behind the first there are only bundles
abbrev pub due_after : List ℕ → List Reply → Due
due_after request [] = AnswerTo (letter_of request)
due_after request (first ∷ others) = OneOfAll

-- the payload is not that of a reply that may come there
abbrev pub IsNoReply : Form → Due → List ℕ → Type 0
IsNoReply form due payload = IsPayload payload × ((reply : Reply) → payload ≡ payload_of reply → IsTold form due reply → ⊥)

-- Only of the last reply something may be hidden.
abbrev pub HidesLast : Form → List Reply → List ℕ → Type 0
HidesLast form replies hidden =
    (earlier : List Reply) × (last : Reply) × (begun : List ℕ) × (replies ≡ earlier ++ last ∷ []) × (shown form last ≡ begun ++ hidden)

-- Why an exchange breaks off after these replies to a request, what was read behind them, what of the request was not sent, what of the replies
-- is not shown, and what the server's output has left. A fault of the server is told in place of the reply that is due. A request
-- may be sent whole although its fault is told: the writer may fail as it is flushed.
abbrev pub BreaksOff : Form → List ℕ → AskFault → List Reply → List ℕ → List ℕ → List ℕ → Option (List ℕ) → Type 0
BreaksOff form request (Server client.WriteFault) replies torn unsent hidden left = (replies ≡ []) × (torn ≡ [])
BreaksOff form request (Server client.BadReply) replies torn unsent hidden left =
    IsDue replies × (unsent ≡ []) × (hidden ≡ []) × (payload : List ℕ) × (torn ≡ frame payload) × IsNoReply form (due_after request replies) payload
BreaksOff form request (Server why) replies torn unsent hidden left = IsDue replies × (unsent ≡ []) × (hidden ≡ []) × NoFrame why torn left
BreaksOff form request (Front front.WriteFault) replies torn unsent hidden left = HidesLast form replies hidden × (unsent ≡ []) × (torn ≡ [])
BreaksOff form request fault replies torn unsent hidden left = ⊥

-- What an exchange did that broke off: the request was asked again after each transient reply, and the last time a front of it was
-- sent; whole replies were read, and then what is torn; and a front of what the replies show was shown.
pub record IsBroken (how : Asking) (fault : AskFault) (request : List ℕ) (done : Traffic) (left : Option (List ℕ)) : Type 0 where
  pub transient : List Reply
  pub replies : List Reply
  pub torn : List ℕ
  pub sent : List ℕ
  pub unsent : List ℕ
  pub hidden : List ℕ
  pub each : AllByRecursion IsTransient transient
  pub few : length transient ≤ how.retries
  pub begun : AreBegun how request (length transient) replies
  pub split : request ≡ sent ++ unsent
  pub asks : done.asked ≡ flat_map (λ reply. request) transient ++ sent
  pub tells : done.told ≡ reply_frames (transient ++ replies) ++ torn
  pub shows : flat_map (shown how.form) replies ≡ done.shown ++ hidden
  pub why : BreaksOff how.form request fault replies torn unsent hidden left

-- ---- a stream of lines

-- The ends: what the lines and the server's output have left, and what the server's input and the place that is shown hold.
pub record Ends : Type 0 where
  pub lines : Option (List ℕ)
  pub from : Option (List ℕ)
  pub to : Option (List ℕ)
  pub out : Option (List ℕ)

abbrev pub ends : Option (List ℕ) → Option (List ℕ) → Option (List ℕ) → Option (List ℕ) → Ends
ends lines from to out = record { lines = lines; from = from; to = to; out = out }

-- the next line is such a line, or the last, which may lack its line feed
abbrev pub IsNext : (List ℕ → Type 0) → List ℕ → Option (List ℕ) → Type 0
IsNext Is rest left = BeginsWith Is rest ⊎ (IsAtEnd left × Is rest)

-- How it ends after these exchanges: what is left of the lines that were read, and what was done beyond.
abbrev pub EndsAsking : Gives → Asking → Result Bool AskFault → List Exchange → List ℕ → Traffic → Ends → Type 0
-- the lines are at their end, and the last may lack its line feed
EndsAsking gives how (Ok refused) items rest more new =
    IsAtEnd new.lines × (last : Exchange) × IsExchange gives how last × (last.line ≡ rest) × (more ≡ traffic_of how.form last)
    × (refused ≡ (list_any is_refused items || is_refused last))
EndsAsking gives how (Err (BadLine number)) items rest more new =
    (number ≡ next_count (count_after 0 items)) × (more ≡ no_traffic) × (IsNext (IsBadLine gives) rest new.lines ⊎ BeginsLong rest)
EndsAsking gives how (Err (Unreadable number)) items rest more new =
    (number ≡ next_count (count_after 0 items)) × (more ≡ no_traffic) × IsNext (NamesUnreadable gives) rest new.lines
-- each whole line that was read was asked
EndsAsking gives how (Err (Front front.ReadFault)) items rest more new = IsOneLine rest × (more ≡ no_traffic)
EndsAsking gives how (Err (Front front.Memory)) items rest more new = more ≡ no_traffic
-- each turn read a byte or took a line
EndsAsking gives how (Err (Front front.TurnsUsed)) items rest more new = (more ≡ no_traffic) × (2 ^ 64 - 1 ≤ length items + length (lines_of items ++ rest))
EndsAsking gives how (Err fault) items rest more new =
    (request : List ℕ) × IsNext (λ line. IsFrameOf gives line request) rest new.lines × IsBroken how fault request more new.from

-- These exchanges were done, and more, and these lines were read, and the rest.
pub record HasDone (gives : Gives) (how : Asking) (items : List Exchange) (rest : List ℕ) (more : Traffic) (old new : Ends) : Type 0 where
  pub each : AllByRecursion (IsExchange gives how) items
  pub reads : Consumes old.lines new.lines (lines_of items ++ rest)
  pub asks : Appends old.to new.to (traffic how.form items more).asked
  pub tells : Consumes old.from new.from (traffic how.form items more).told
  pub shows : Appends old.out new.out (traffic how.form items more).shown

-- Lines were asked, and their replies shown.
pub record AsksLines (gives : Gives) (how : Asking) (result : Result Bool AskFault) (old new : Ends) : Type 0 where
  pub items : List Exchange
  pub rest : List ℕ
  pub more : Traffic
  pub done : HasDone gives how items rest more old new
  pub ends_so : EndsAsking gives how result items rest more new

-- ---- the greeting

-- the request for version 3 of the session, and its reply
abbrev pub greeting : List ℕ
greeting = frame (86 ∷ 3 ∷ [])

abbrev pub greeted : List ℕ
greeted = frame (118 ∷ 3 ∷ [])

-- no line was read, and nothing shown
abbrev pub IsGreeting : Ends → Ends → List ℕ → List ℕ → Type 0
IsGreeting old new asked told = Appends old.to new.to asked × Consumes old.from new.from told × (new.lines ≡ old.lines) × (new.out ≡ old.out)

-- Why the server was not greeted, what of the greeting was not sent, and what was read of its reply. Out of memory, nothing is sent.
abbrev pub NotGreeted : AskFault → List ℕ → List ℕ → Option (List ℕ) → Type 0
NotGreeted (Server why) unsent torn left =
    IsUnanswered why unsent torn left
    ⊎ ((why ≡ client.BadReply) × (unsent ≡ []) × (payload : List ℕ) × IsPayload payload × (torn ≡ frame payload) × (torn ≢ greeted))
NotGreeted (Front front.Memory) unsent torn left = (unsent ≡ greeting) × (torn ≡ [])
NotGreeted fault unsent torn left = ⊥

-- ---- the whole

-- The server is greeted, and then the lines are asked.
abbrev pub AsksGreeted : Gives → Asking → Result Bool AskFault → Ends → Ends → Type 0
AsksGreeted gives how result old new = (mid : Ends) × IsGreeting old mid greeting greeted × AsksLines gives how result mid new

-- Or a front of the greeting was sent.
abbrev pub AsksStream : Gives → Asking → Result Bool AskFault → Ends → Ends → Type 0
AsksStream gives how (Ok refused) old new = AsksGreeted gives how (Ok refused) old new
AsksStream gives how (Err fault) old new =
    ((sent : List ℕ) × (unsent : List ℕ) × (torn : List ℕ) × (greeting ≡ sent ++ unsent) × IsGreeting old new sent torn × NotGreeted fault unsent torn new.from)
    ⊎ AsksGreeted gives how (Err fault) old new
