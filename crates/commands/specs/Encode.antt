-- What the commands `encode` and `decode` do to their input and their output.
use Rattle.std.specs.Prelude.{ℕ, Result, Ok, Err}
use Rattle.wire.specs.Encoding.{Gives}
use Rattle.wire.specs.EncodedStream.{EncodesStream}
use Rattle.wire.specs.DecodedStream.{DecodesStream}
use Rattle.wire.specs.declared.stream.StreamError.{StreamError}
use Rattle.wire.specs.declared.stream.StreamError.TheVariants as encoding
use Rattle.wire.specs.declared.decode.DecodeError.{DecodeError}
use Rattle.wire.specs.declared.decode.DecodeError.TheVariants as decoding
use Rattle.commands.specs.declared.fault.Fault.{Fault}
use Rattle.commands.specs.declared.fault.Fault.TheVariants.{Front, BadLine, BadFrame, UnreadText}
use Rattle.commands.specs.Streams.{Streams, EndsWith, well}

-- the text of a file is what the host says that it holds, or that it cannot be read
abbrev pub of_files : Gives
of_files name found = Unit {0}

-- the fault of a command whose stream ended so
abbrev pub encoding_fault : Result (Unit {0}) StreamError → Result (Unit {0}) Fault
encoding_fault (Ok done) = Ok done
encoding_fault (Err (encoding.BadLine line)) = Err (BadLine line)
encoding_fault (Err (encoding.Unreadable line)) = Err (UnreadText line)
encoding_fault (Err (encoding.Front error)) = Err (Front error)

abbrev pub decoding_fault : Result (Unit {0}) DecodeError → Result (Unit {0}) Fault
decoding_fault (Ok done) = Ok done
decoding_fault (Err (decoding.BadFrame frame)) = Err (BadFrame frame)
decoding_fault (Err (decoding.Front error)) = Err (Front error)

-- Lines are encoded, with the texts that are given for their names.
pub record Encodes (gives : Gives) (status : ℕ) (old new : Streams) : Type 0 where
  pub ended : Result (Unit {0}) StreamError
  pub ends : EndsWith well (encoding_fault ended) status old new
  pub encodes : EncodesStream gives ended old.input.bytes new.input.bytes old.output.bytes new.output.bytes

-- Frames are decoded.
pub record Decodes (status : ℕ) (old new : Streams) : Type 0 where
  pub ended : Result (Unit {0}) DecodeError
  pub ends : EndsWith well (decoding_fault ended) status old new
  pub decodes : DecodesStream ended old.input.bytes new.input.bytes old.output.bytes new.output.bytes
