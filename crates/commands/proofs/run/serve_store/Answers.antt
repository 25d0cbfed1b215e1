use Rattle.std.proofs.Common.{List, ℕ, Option, None, Some, [], arith, refl, ap, rules}
use Rattle.std.specs.Io.KnownBytes.{Consumes, Appends}
use Rattle.std.specs.FinMap as finite
use Rattle.frame_front.proofs.ReadLemmas.{reads_none}
use Rattle.commands.proofs.run.serve_store.Goals as goal

nothing_read : (left : Option (List ℕ)) → Consumes left left []
nothing_read None = search rules
nothing_read (Some bytes) = search rules

nothing_written : (held : Option (List ℕ)) → Appends held held []
nothing_written None = search rules
nothing_written (Some bytes) = search rules

pub returns-in_default-clause-session : goal.returns-in_default-clause-session
returns-in_default-clause-session g c = (
  finite.empty,
  record {
    read = [];
    written = [];
    consumes = nothing_read _;
    appends = nothing_written _;
    payloads = [];
    texts = [];
    rest = [];
    whole = refl;
    each = tt;
    ends = tt;
    few_read = omega arith;
    used = tt;
    ended = tt;
    stands = refl;
    told = λ none calm. (refl, refl);
  },
)

pub returns-clause-session : goal.returns-clause-session
returns-clause-session g c =
    let served = c.serve-served.ensures.plain finite.empty (ap Some c.in-Ok.ensures.empty) in (served.0, served.2)

pub returns-in_default-clause-reads : goal.returns-in_default-clause-reads
returns-in_default-clause-reads g c = reads_none c.args.turns _ _ (λ never. cc never)
