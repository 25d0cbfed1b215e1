-- What becomes of the log of a server that is told a change.
use Rattle.std.specs.Prelude.{◌≡◌, ℕ, List, Bool, Option}
use Rattle.wire.specs.Output.{End}
use Rattle.workers.specs.Log.{ChangeView}
use Rattle.server.specs.declared.log.LineLog.{LineLog}
use Rattle.server.specs.LogLine.{change_line}
use Rattle.server.specs.Serve.{IsOffered}

-- what its end holds, if that is known, and how many lines it did not take whole
abbrev pub log_end : {C N : Type 0} → (N → Option (List ℕ)) → LineLog C N → End
log_end held_of log = record { bytes = held_of log.end; faults = log.left_out }

-- The line of the change, with the number of a client, is written whole; or only a front of it, and it is counted.
abbrev pub TellsChange : {C N : Type 0} → (N → Option (List ℕ)) → ℕ → ChangeView → LineLog C N → LineLog C N → Type 0
TellsChange held_of worker change old new =
    (client : ℕ) × (taken : Bool) × IsOffered taken (change_line worker client change) (log_end held_of old) (log_end held_of new) × (new.scope ≡ old.scope)
