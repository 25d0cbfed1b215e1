-- What a run hands out: its records in order of their beginning.
use Rattle.std.specs.Prelude.{List, map}
use Rattle.std.specs.List.{range_with_len}
use Rattle.step_core.specs.declared.trace.OpRecord.{OpRecord}
use Rattle.step_core.specs.Run.{Run}

abbrev pub records_of : Run → List OpRecord
records_of run = map run.records (range_with_len 0 run.count)
