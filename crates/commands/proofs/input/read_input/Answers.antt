use Rattle.std.proofs.Common.{◌≤◌, ◌++◌, take, length-append, arith}
use Rattle.std.proofs.KnownBytes.{Consumes-trans}
use Rattle.frame_front.proofs.ReadLemmas.{reads_last, reads_all}
use Rattle.commands.specs.Input.{most_reads}
use Rattle.commands.specs.declared.input.Extent.{Extent}
use Rattle.commands.specs.declared.input.Extent.TheVariants.{Limited, Any}
use Rattle.commands.proofs.input.read_input.Goals as goal

few_reads : (extent : Extent) → most_reads extent ≤ 1000000000
few_reads Limited = omega arith
few_reads Any = omega arith

pub returns-then-most_bytes-len-clause-err : goal.returns-then-most_bytes-len-clause-err
returns-then-most_bytes-len-clause-err g c =
    let input = c.loop-turn.input.items in
    let piece = take c.in-Ok.count c.read.new.buf in (
      input ++ piece,
      Consumes-trans _ _ _ input piece c.loop-turn.invariant.0 c.in-Ok.ensures.bytes.0,
      omega (arith, length-append input piece, c.in-Ok.ensures.bound, c.loop-turn.invariant.2),
    )

pub returns-in-Err-clause-reads : goal.returns-in-Err-clause-reads
returns-in-Err-clause-reads g c = reads_last (most_reads c.args.extent) _ _ _ _ _ c.loop-turn.invariant.4 c.in-Err.ensures.one_read (omega arith) (few_reads c.args.extent) (λ never. cc never)

pub returns-then-count-eq0-clause-reads : goal.returns-then-count-eq0-clause-reads
returns-then-count-eq0-clause-reads g c = reads_last (most_reads c.args.extent) _ _ _ _ _ c.loop-turn.invariant.4 c.in-Ok.ensures.one_read (omega arith) (few_reads c.args.extent) (λ never. cc never)

pub returns-then-most_bytes-len-clause-reads : goal.returns-then-most_bytes-len-clause-reads
returns-then-most_bytes-len-clause-reads g c = reads_last (most_reads c.args.extent) _ _ _ _ _ c.loop-turn.invariant.4 c.in-Ok.ensures.one_read (omega arith) (few_reads c.args.extent) (λ never. cc never)

pub returns-in-Err-extend_from_slice-clause-reads : goal.returns-in-Err-extend_from_slice-clause-reads
returns-in-Err-extend_from_slice-clause-reads g c = reads_last (most_reads c.args.extent) _ _ _ _ _ c.loop-turn.invariant.4 c.in-Ok.ensures.one_read (omega arith) (few_reads c.args.extent) (λ never. cc never)

pub returns-clause-reads : goal.returns-clause-reads
returns-clause-reads g c = reads_all (most_reads c.args.extent) _ _ _ _ c.loop-turn.invariant.4 (omega arith)
