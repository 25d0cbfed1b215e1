-- Events of a run as lines of text.
use Rattle.std.specs.Prelude.{◌≡◌, ℕ, ◌<◌, ◌^◌, List, codes, decimal, Ok}
use Rattle.map_core.specs.declared.op.Op.{Op}
use Rattle.step_core.specs.declared.event.Event.{Event}
use Rattle.step_core.specs.declared.event.Event.TheVariants.{Begin, Step, Quit, End}
use Rattle.step_core.specs.declared.event.Why.{Why}
use Rattle.step_core.specs.declared.event.Why.TheVariants.{Held, Memory}
use Rattle.wire.specs.declared.judge.Judged.TheVariants.{Ask}
use Rattle.wire.specs.declared.version.Version.TheVariants.{Three}
use Rattle.wire.specs.Judge.{judged}
use Rattle.wire.specs.RequestForm.{Request, HasLine, Spells, ◌then◌}

-- A request asks for an operation as in a session of version 3. One that sets the version or asks for counts asks for none.
abbrev pub AsksFor : Request → Op → Type 0
AsksFor request asked = judged Three request ≡ Ok (Ask asked)

-- why an operation is given up: memory ran out, or another caller held the shard at this revision
abbrev pub why_words : Why → List ℕ
why_words Memory = codes "memory"
why_words (Held shard revision) = codes "held" then decimal shard then decimal revision

-- shards are below 256, and revisions have 8 bytes
abbrev pub WhyFits : Why → Type 0
WhyFits Memory = Unit {0}
WhyFits (Held shard revision) = (shard < 256) × (revision < 2 ^ 64)

-- a caller has 4 bytes
abbrev pub IsCaller : ℕ → Type 0
IsCaller caller = caller < 2 ^ 32

-- The line, without its line feed, is that of the event: words with single spaces between, of which a request is the last.
abbrev pub IsEventOf : List ℕ → Event → Type 0
IsEventOf line (Begin caller asked) =
    IsCaller caller × ((request : Request) × (words : List ℕ) × HasLine request × AsksFor request asked × Spells request words × (line ≡ codes "begin" then decimal caller then words))
IsEventOf line (Step caller) = IsCaller caller × (line ≡ codes "step" then decimal caller)
IsEventOf line (End caller) = IsCaller caller × (line ≡ codes "end" then decimal caller)
IsEventOf line (Quit caller why) = IsCaller caller × WhyFits why × (line ≡ codes "quit" then decimal caller then why_words why)
