-- What the program does: one of its commands, or a text in place of one.
use Rattle.std.specs.Prelude.{◌≡◌, ℕ, Bool, true, false, List, map, Result, ◌⊎◌}
use Rattle.wire.specs.Output.{End, Tells}
use Rattle.wire.specs.declared.error.FrontError.TheVariants.{Memory, ReadFault}
use Rattle.command_line.specs.declared.wanted.Wanted.{Wanted}
use Rattle.command_line.specs.declared.wanted.Wanted.TheVariants.{Run, Ask, Encode, Decode, Explain, Check, Map, Import, Pem, Diff, Digest, Trace, Migrate, Race, Refresh, Snapshot, Stats, Serve}
use Rattle.commands.specs.declared.fault.Fault.{Fault}
use Rattle.commands.specs.declared.fault.Fault.TheVariants.{Front}
use Rattle.commands.specs.Fault.{fault_line}
use Rattle.command_line.specs.Serving.{stops_at_end}
use Rattle.command_line.specs.Settings.{AreSettings}
use Rattle.commands.specs.Streams.{Streams, WritesText, EndsWith, well}
use Rattle.commands.specs.Run.{Runs}
use Rattle.commands.specs.Encode.{Encodes, Decodes, of_files}
use Rattle.commands.specs.Explain.{Explains}
use Rattle.commands.specs.Trace.{RunOf, NoRun}
use Rattle.commands.specs.Migrate.{MigrationOf}
use Rattle.dump_views.specs.declared.profile.Profile.{Profile}
use Rattle.dump_views.specs.declared.profile.Profile.TheVariants.{Whole, X509}
use Rattle.commands.specs.Reading.{Filters, Unread}
use Rattle.commands.specs.declared.input.Extent.TheVariants.{Limited, Any}
use Rattle.commands.specs.Check.{Checks}
use Rattle.commands.specs.Map.{MapOf, NoMap}
use Rattle.commands.specs.Import.{RequestsOf, NoRequests}
use Rattle.commands.specs.Pem.{PemOf, NoPem, DigestOf}
use Rattle.commands.specs.Diff.{Inputs, DiffRun}
use Rattle.bundled.specs.Ask.{AskRun}
use Rattle.bundled.specs.Refresh.{RefreshRun}
use Rattle.bundled.specs.Snapshot.{SnapshotRun}
use Rattle.bundled.specs.Stats.{StatsRun}
use Rattle.bundled.specs.Race.{RaceRun}
use Rattle.bundled.specs.Serve.{ServedAs}
use Rattle.server.specs.Saving.{IsUnknown}
use Rattle.server.specs.Serve.{AddsWords, ServeCommand}

-- what a map shows of a bundle: its X.509 authorities, or all
abbrev pub profile : Bool → Profile
profile true = X509
profile false = Whole

-- What two files hold, as the host gives it, is told apart; or one of them cannot be opened, and nothing is written.
abbrev pub DiffFiles : ℕ → End → End → End → End → Type 0
DiffFiles status output_old output_new error_old error_new =
    ((inputs : Inputs) × DiffRun inputs status output_old output_new error_old error_new)
    ⊎ ((status ≡ 1) × (output_new ≡ output_old) × Tells error_old error_new (fault_line (Front ReadFault)))

-- a command, with its settings
abbrev pub Does : Wanted → ℕ → Streams → Streams → Type 0
Does (Run shards turns) status old new = Runs turns status old new
Does (Ask inquiry) status old new = AskRun inquiry status old new
Does Encode status old new = Encodes of_files status old new
Does Decode status old new = Decodes status old new
Does (Explain text) status old new = Explains text.now status old new
Does (Check files) status old new = Checks of_files (map (λ file. file.now) files.items) status old new
Does (Map names x509) status old new = Filters Any (MapOf names.items (profile x509)) (NoMap names.items) status old new
Does Import status old new = Filters Limited RequestsOf NoRequests status old new
Does (Pem name) status old new = Filters Any (PemOf name) (NoPem name) status old new
Does (Diff old_file new_file) status old new =
    (new.input ≡ old.input) × DiffFiles status old.output new.output old.error new.error
Does Digest status old new = Filters Any DigestOf (Unread Any) status old new
Does (Trace shards rounds picture) status old new = Filters Limited (RunOf shards rounds picture) NoRun status old new
Does Migrate status old new = Filters Limited MigrationOf (Unread Limited) status old new
Does (Race seconds) status old new = RaceRun status old new
Does (Refresh wanted) status old new = RefreshRun status old new
Does (Snapshot wanted) status old new = SnapshotRun wanted.at_least status old new
Does (Stats wanted) status old new = StatsRun status old new
Does (Serve places load save log says_connections settings) status old new =
    (stops_at_end settings.connections ≡ false → new.input ≡ old.input) × ServeCommand IsUnknown (ServedAs settings.connections settings.turns) load save settings status old.output new.output old.error new.error

-- whether the command says in words why a fault ended it
abbrev pub has_words : Wanted → Bool
has_words (Ask inquiry) = true
has_words (Check files) = true
has_words (Map names x509) = true
has_words Import = true
has_words (Pem name) = true
has_words (Diff old_file new_file) = true
has_words Digest = true
has_words (Refresh wanted) = true
has_words (Snapshot wanted) = true
has_words (Stats wanted) = true
has_words wanted = false

-- Behind all that, such a command may write a line of words to standard error if its status is 1.
pub record DoesInWords (wanted : Wanted) (status : ℕ) (old new : Streams) : Type 0 where
  pub before_words : End
  pub does : Does wanted status old (record { input = new.input; output = new.output; error = before_words })
  pub words : (new.error ≡ before_words) ⊎ ((status ≡ 1) × (has_words wanted ≡ true) × AddsWords before_words new.error)

-- Help or the version is written to standard output, and nothing is read. Or memory ran out before that or a command.
pub record Shows (status : ℕ) (old new : Streams) : Type 0 where
  pub ended : Result (Unit {0}) Fault
  pub ends : EndsWith well ended status old new
  pub reads : new.input ≡ old.input
  pub writes : WritesText (λ done text. Unit {0}) (λ fault. fault ≡ Front Memory) ended old.output new.output

-- The command line is refused: some text is written to standard error, and nothing else is done.
pub record Refuses (status : ℕ) (old new : Streams) : Type 0 where
  pub two : status ≡ 2
  pub reads : new.input ≡ old.input
  pub writes : new.output ≡ old.output
  pub text : List ℕ
  pub tells : Tells old.error new.error text

-- The whole program.
abbrev pub Commands : ℕ → Streams → Streams → Type 0
Commands status old new =
    ((wanted : Wanted) × AreSettings wanted × DoesInWords wanted status old new) ⊎ (Shows status old new ⊎ Refuses status old new)
