-- What a fetch gave.
use Rattle.std.specs.Prelude.{ℕ, List, Option, Some, None, Result, Ok, Err}
use Rattle.std.specs.declared.vec.Vec.{Vec}
use Rattle.refresh.specs.declared.source.SourceFault.{SourceFault}

-- the document, or none
abbrev pub fetch_result : {Z : Type 0} → Result (Vec ℕ Z) SourceFault → Option (List ℕ)
fetch_result (Ok document) = Some document.items
fetch_result (Err fault) = None
