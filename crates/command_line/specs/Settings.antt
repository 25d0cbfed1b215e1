-- What the command line may ask for.
use Rattle.std.specs.Prelude.{◌<◌, ◌≤◌, map}
use Rattle.command_line.specs.Asking.{GoWithDump}
use Rattle.command_line.specs.Serving.{AreConnections, FitPlaces, IsLimit}
use Rattle.command_line.specs.declared.wanted.Wanted.{Wanted}
use Rattle.command_line.specs.declared.wanted.Wanted.TheVariants.{Run, Ask, Encode, Decode, Explain, Check, Map, Import, Pem, Diff, Digest, Trace, Migrate, Race, Refresh, Snapshot, Stats, Serve}

-- numbers within their ranges, and a known dump with a fetch-all alone
abbrev pub AreSettings : Wanted → Type 0
AreSettings (Run shards turns) = (0 < shards) × (shards ≤ 256) × (0 < turns) × (turns ≤ 1000000000)
AreSettings (Trace shards rounds picture) = (0 < shards) × (shards ≤ 256) × (0 < rounds) × (rounds ≤ 16)
AreSettings (Ask inquiry) = GoWithDump inquiry.unless (map (λ word. word.now) inquiry.words.items)
AreSettings Encode = Unit {0}
AreSettings Decode = Unit {0}
AreSettings (Explain text) = Unit {0}
AreSettings (Check files) = Unit {0}
AreSettings (Map names x509) = Unit {0}
AreSettings Import = Unit {0}
AreSettings (Pem name) = Unit {0}
AreSettings (Diff old new) = Unit {0}
AreSettings Digest = Unit {0}
AreSettings Migrate = Unit {0}
AreSettings (Race seconds) = (0 < seconds) × (seconds ≤ 60)
AreSettings (Refresh wanted) = Unit {0}
AreSettings (Snapshot wanted) = Unit {0}
AreSettings (Stats wanted) = Unit {0}
AreSettings (Serve places load save log says_connections settings) = FitPlaces settings.connections places × (0 < settings.workers) × (settings.workers ≤ 64)
    × AreConnections settings.connections × IsLimit settings.connections settings.turns
    × (0 < settings.shards) × (settings.shards ≤ 256) × (0 < settings.rounds) × (settings.rounds ≤ 16)
    × (0 < settings.tries) × (settings.tries ≤ 1000000) × (settings.retries ≤ 1000000)
