-- The numbers of the errors that end a client.
use Rattle.std.specs.Prelude.{ℕ}
use Rattle.client.specs.declared.client_error.ClientError.{ClientError}
use Rattle.client.specs.declared.client_error.ClientError.TheVariants.{Memory, BadLength, BadReply, Truncated, ReadFault, WriteFault}

abbrev pub client_number : ClientError → ℕ
client_number Memory = 22
client_number BadLength = 50
client_number Truncated = 52
client_number ReadFault = 53
client_number WriteFault = 54
client_number BadReply = 58
