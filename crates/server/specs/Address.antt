-- Where a server listens.
use Rattle.std.specs.Prelude.{◌≡◌, ℕ, List, decimal}
use Rattle.server.specs.declared.address.Address.{Address}
use Rattle.server.specs.declared.address.Address.TheVariants.{Port, Socket}

-- as it is told: the number of a port, or the path of a socket
abbrev pub address_text : Address → List ℕ
address_text (Port number) = decimal number
address_text (Socket path) = path.bytes

-- it is the socket at this path
abbrev pub IsSocket : List ℕ → Address → Type 0
IsSocket path (Port number) = ⊥
IsSocket path (Socket known) = known.bytes ≡ path
