-- Where a server listens, by what stands on the command line.
use Rattle.std.specs.Prelude.{◌≡◌, ℕ, List, true, false, codes, Option, Some, None}
use Rattle.clap.specs.declared.parser.matches.ArgMatches.{ArgMatches}
use Rattle.command_line.specs.Answers.{is_given, text_behind}
use Rattle.command_line.specs.declared.wanted.Place.{Place}
use Rattle.command_line.specs.declared.wanted.Place.TheVariants.{Port, Socket}
use Rattle.command_line.specs.declared.wanted.Places.{Places}

-- The place is named by the one of two options that stands there, and of a socket it is the path; or neither stands there.
abbrev pub Names : ArgMatches → List ℕ → List ℕ → Option Place → Type 0
Names answers port socket None = (is_given answers port ≡ false) × (is_given answers socket ≡ false)
Names answers port socket (Some (Port number)) = (is_given answers port ≡ true) × (is_given answers socket ≡ false)
Names answers port socket (Some (Socket path)) =
    (is_given answers port ≡ false) × (is_given answers socket ≡ true) × (path.now ≡ text_behind answers socket)

-- where clients may ask all
abbrev pub NamesPlace : ArgMatches → Option Place → Type 0
NamesPlace answers place = Names answers (codes "port") (codes "socket") place

-- where clients may ask all, and where they may only read
abbrev pub NamesPlaces : ArgMatches → Places → Type 0
NamesPlaces answers places = NamesPlace answers (Some places.all) × Names answers (codes "read-port") (codes "read-socket") places.reads
