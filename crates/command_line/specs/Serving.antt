-- The two forms of the command `serve`, and what belongs to each.
use Rattle.std.specs.Prelude.{◌≡◌, ◌⊎◌, ℕ, ◌<◌, ◌≤◌, List, [], ◌∷◌, Bool, true, false, codes, None}
use Rattle.std.specs.List.{list_any}
use Rattle.clap.specs.declared.parser.matches.ArgMatches.{ArgMatches}
use Rattle.command_line.specs.Answers.{is_given}
use Rattle.command_line.specs.declared.settings.Connections.{Connections}
use Rattle.command_line.specs.declared.settings.Connections.TheVariants.{Each, Unlimited}
use Rattle.command_line.specs.declared.wanted.LogScope.{LogScope}
use Rattle.command_line.specs.declared.wanted.LogScope.TheVariants.{Nothing, Changes, All}
use Rattle.command_line.specs.declared.wanted.Places.{Places}

-- numbers within their ranges
abbrev pub AreConnections : Connections → Type 0
AreConnections (Each count) = (0 < count) × (count ≤ 1000)
AreConnections (Unlimited lasting) =
    (0 < lasting.most_open) × (lasting.most_open ≤ 1000000) × (0 < lasting.idle) × (lasting.idle ≤ 86400)
    × (0 < lasting.reply_seconds) × (lasting.reply_seconds ≤ 86400) × (0 < lasting.moments) × (lasting.moments ≤ 1000)

-- stands for no limit of reads, since no session makes so many
abbrev pub no_limit : ℕ
no_limit = 18446744073709551615

-- how many reads a session may make; only if the server lasts there need be no limit
abbrev pub IsLimit : Connections → ℕ → Type 0
IsLimit (Each count) turns = (0 < turns) × (turns ≤ 1000000000)
IsLimit (Unlimited lasting) turns = ((0 < turns) × (turns ≤ 1000000000)) ⊎ (turns ≡ no_limit)

-- the options of a server that lasts
abbrev pub lasting_options : List (List ℕ)
lasting_options = codes "max-open" ∷ codes "read-port" ∷ codes "read-socket" ∷ codes "until-eof" ∷ codes "idle" ∷ codes "reply-seconds" ∷ codes "moments" ∷ []

-- if the server does not last, none of these is given
abbrev pub FitsForm : ArgMatches → Connections → Type 0
FitsForm answers (Each count) = list_any (is_given answers) lasting_options ≡ false
FitsForm answers (Unlimited lasting) = Unit {0}

-- whether the log tells changes
abbrev pub has_changes : LogScope → Bool
has_changes Nothing = false
has_changes Changes = true
has_changes All = true

-- only a server that lasts has a place for reads only
abbrev pub FitPlaces : Connections → Places → Type 0
FitPlaces (Each count) places = places.reads ≡ None
FitPlaces (Unlimited lasting) places = Unit {0}

-- whether the server stops at the end of its input
abbrev pub stops_at_end : Connections → Bool
stops_at_end (Each count) = false
stops_at_end (Unlimited lasting) = lasting.until_eof
