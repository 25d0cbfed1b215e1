-- What stands on the command line.
use Rattle.std.specs.Prelude.{ℕ, List, [], Bool, true, false, Option, Some, None, option_and_then, unwrap_or}
use Rattle.clap.specs.Matches.{first_value, found_of, matched_of}
use Rattle.clap.specs.declared.parser.matches.ArgMatches.{ArgMatches}
use Rattle.clap.specs.declared.parser.matches.ValueSource.{ValueSource}
use Rattle.clap.specs.declared.parser.matches.ValueSource.TheVariants.{DefaultValue, CommandLine}

-- it is of the line, and not a default
abbrev pub is_of_line : Option ValueSource → Bool
is_of_line (Some CommandLine) = true
is_of_line (Some DefaultValue) = false
is_of_line None = false

-- the argument of this name stands on the line
abbrev pub is_given : ArgMatches → List ℕ → Bool
is_given answers name = is_of_line (option_and_then (λ argument. argument.source) (matched_of (found_of answers) name))

-- the text of the argument of this name; empty, if it has none
abbrev pub text_behind : ArgMatches → List ℕ → List ℕ
text_behind answers name = unwrap_or (first_value (found_of answers) name) []
