-- A request asks for the operation that is read from it, and for no other.
use Rattle.std.proofs.Common.{◌≡◌, Some, Result, Ok, Err, ap}
use Rattle.std.proofs.lemmas.Option.{same_Some, none-some}
use Rattle.map_core.specs.declared.op.Op.{Op}
use Rattle.wire.specs.declared.judge.Judged.{Judged}
use Rattle.wire.specs.declared.judge.Judged.TheVariants.{Ask, SetVersion, TellCounts}
use Rattle.wire.specs.declared.refusal.Refusal.{Refusal}
use Rattle.wire.specs.declared.version.Version.TheVariants.{Three}
use Rattle.wire.specs.RequestForm.{Request}
use Rattle.wire.specs.Judge.{judged}
use Rattle.trace_lines.specs.EventLine.{AsksFor}
use Rattle.trace_lines.specs.Private.EventReading.{asked_in, operation_of}

asked_found : (r : Result Judged Refusal) (o : Op) → asked_in r ≡ Some o → r ≡ Ok (Ask o)
asked_found (Ok (Ask asked)) o is = ap (λ x. Ok (Ask x)) (same_Some asked o is)
asked_found (Ok (SetVersion version)) o is = absurd (none-some o is)
asked_found (Ok TellCounts) o is = absurd (none-some o is)
asked_found (Err refusal) o is = absurd (none-some o is)

pub operation_found : (r : Request) (o : Op) → operation_of r ≡ Some o → AsksFor r o
unfolding operation_of
operation_found r o is = asked_found (judged Three r) o is

pub operation_read : (r : Request) (o : Op) → AsksFor r o → operation_of r ≡ Some o
unfolding operation_of
operation_read r o asks = ap asked_in asks
