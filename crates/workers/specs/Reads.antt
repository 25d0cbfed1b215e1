-- The reads behind the calls of a session.
use Rattle.std.specs.Prelude.{ℕ, ◌+◌, min, List, [], ◌∷◌, length}
use Rattle.frame_front.specs.LiveCalls.{LiveCall, Feed, Answer, Send}

-- bytes that came were one read
abbrev pub reads_for : List ℕ → ℕ
reads_for bytes = min (length bytes) 1

abbrev pub reads_in : LiveCall → ℕ
reads_in (Feed piece) = reads_for piece
reads_in (Answer result) = 0
reads_in (Send bytes) = 0

-- each piece that was fed was one read
abbrev pub reads_of : List LiveCall → ℕ
reads_of [] = 0
reads_of (call ∷ calls) = reads_in call + reads_of calls
