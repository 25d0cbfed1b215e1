-- The two forms of a server: what it is that workers have served their clients.
use Rattle.std.specs.Prelude.{◌≡◌, ℕ, ◌+◌, ◌*◌, ◌<◌, min, List, map, Option, Some, None, Result, Ok, Err}
use Rattle.std.specs.List.{All}
use Rattle.workers.specs.Connection.{counted}
use Rattle.wire.specs.declared.counted.Counted.{Counted}
use Rattle.shard_store.specs.Pass.{StoreView, PassView}
use Rattle.workers.specs.Run.{AllWorked, kept}
use Rattle.workers.specs.declared.ended.Worked.{Worked}
use Rattle.workers.specs.declared.run.Finished.{Finished}
use Rattle.workers.specs.declared.sessions.ListenFault.{ListenFault}
use Rattle.workers.specs.declared.session.Session.{Session}
use Rattle.workers.specs.Followed.{AllServed}
use Rattle.workers.specs.declared.limits.Patience.{Patience}
use Rattle.command_line.specs.declared.settings.Connections.{Connections}
use Rattle.command_line.specs.declared.settings.Connections.TheVariants.{Each, Unlimited}
use Rattle.command_line.specs.declared.settings.Lasting.{Lasting}
use Rattle.server.specs.Serve.{always_open}
use Rattle.server.specs.declared.serving.blocking.Client.{Client}
use Rattle.server.specs.declared.serving.blocking.CountedStream.{CountedStream}
use Rattle.server.specs.declared.serving.clients.Clients.{Clients}

-- nothing is known of what a client's connection has left, nor of what it holds
abbrev pub unknown : {E : Type 0} → E → Option (List ℕ)
unknown end = None

-- Each client that comes is one of those that a worker may take, and no more comes after the last; or the listener has failed.
abbrev pub ClientComes : Clients → Result (Option (Session Client CountedStream)) ListenFault → Clients → Type 0
ClientComes old (Ok (Some session)) new = (new.left + 1 ≡ old.left) × (new.turns ≡ old.turns) × (session.turns ≡ old.turns)
ClientComes old (Ok None) new = (old.left ≡ 0) × (new ≡ old)
ClientComes old (Err fault) new = (0 < old.left) × (new ≡ old)

-- A client whose session is over is let go, and changes nothing for those that come.
abbrev pub EndsClient : Clients → Counted Client → Counted CountedStream → Clients → Type 0
EndsClient old reader writer new = new ≡ old

-- each worker may take so many clients, and make so many reads of each
abbrev pub MayTake : ℕ → ℕ → List Clients → Type 0
MayTake count turns all = All (λ clients. (clients.left ≡ count) × (clients.turns ≡ turns)) all

-- Each worker has served its clients one after the other.
abbrev pub ServedInTurn : ℕ → ℕ → StoreView → List PassView → List Worked → Type 0
ServedInTurn count turns store passes worked = (clients : List Clients) × (finished : List Finished) × MayTake count turns clients
    × AllWorked always_open unknown unknown EndsClient ClientComes store 0 passes clients finished × (worked ≡ map kept finished)

-- how many clients a worker takes in turn; a server that lasts sets no bound
abbrev pub most_taken : Connections → ℕ
most_taken (Each count) = count
most_taken (Unlimited lasting) = 18446744073709551615

-- a session that is waited for makes no more reads than that
abbrev pub most_turns : ℕ → ℕ
most_turns turns = min turns 1000000000

-- so many seconds in ticks: a second has four
abbrev pub ticks : ℕ → ℕ
ticks seconds = counted (seconds * 4)

-- for how many ticks a client may not get on, and may take a reply that is not stored whole, and of how many ages there may be such
abbrev pub patience : Lasting → Patience
patience lasting = record { most_silent = ticks lasting.idle; reply_ticks = ticks lasting.reply_seconds; moments = lasting.moments }

-- Each worker has served its clients beside each other, has made at most so many reads of each, and has given each up then, and none before.
abbrev pub ServedBeside : Lasting → ℕ → StoreView → List PassView → List Worked → Type 0
ServedBeside lasting turns store passes worked = AllServed always_open (patience lasting) turns store 0 passes worked
