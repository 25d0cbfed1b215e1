-- On what terms a session answers.
use Rattle.std.specs.Prelude.{ℕ, List, get_or, Bool, false, ◌==◌, ◌&&◌, ◌||◌}
use Rattle.wire.specs.declared.version.Version.{Version}
use Rattle.wire.specs.declared.version.Version.TheVariants.{One}
use Rattle.frame_front.specs.declared.terms.Terms.{Terms}

-- a session begins in version one
abbrev pub begun : Bool → Terms
begun reads_only = record { version = One; reads_only = reads_only }

-- a session of this version that may also change the map
abbrev pub for_all : Version → Terms
for_all version = record { version = version; reads_only = false }

-- the letter of a request that would change the map: A, C, R or S
abbrev pub is_change : ℕ → Bool
is_change letter = (letter == 65) || ((letter == 67) || ((letter == 82) || (letter == 83)))

-- A session that may only read turns a change away by its letter, whatever follows that.
abbrev pub is_turned_away : Bool → List ℕ → Bool
is_turned_away reads_only payload = reads_only && is_change (get_or payload 0 0)
