-- The line that a payload becomes.
use Rattle.std.specs.Prelude.{◌≡◌, ◌⊎◌, ℕ, List}
use Rattle.wire.specs.RequestForm as requests
use Rattle.wire.specs.ReplyForm as replies

-- the payload of a request, and its line
abbrev pub IsRequestLine : List ℕ → List ℕ → Type 0
IsRequestLine payload line =
    (request : requests.Request) × requests.HasPayload request × requests.IsLined request × (payload ≡ requests.payload_of request) × (line ≡ requests.line_of request)

-- the payload of a reply, and its line
abbrev pub IsReplyLine : List ℕ → List ℕ → Type 0
IsReplyLine payload line =
    (reply : replies.Reply) × replies.HasPayload reply × replies.IsLined reply × (payload ≡ replies.payload_of reply) × (line ≡ replies.line_of reply)

abbrev pub IsLineOf : List ℕ → List ℕ → Type 0
IsLineOf payload line = IsRequestLine payload line ⊎ IsReplyLine payload line
