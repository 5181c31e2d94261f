use Rattle.std.proofs.Common.{◌≡◌, ◌+◌, ◌≤◌, min, length, drop, None}
use Rattle.schedule.specs.declared.fault.Fault.{Fault}
use Rattle.schedule.specs.Format.{records_bytes}
use Rattle.schedule.specs.Tests.{FailsFirst}
use Rattle.schedule.specs.Whole.{AllWritable}
use Rattle.schedule.specs.Writing.{records_tests}
use Rattle.schedule.proofs.write.measure.Given as goal

-- what is left decides the whole, and adds what is left of the length
abbrev pub invariant-loop-record : goal.invariant-loop-record
invariant-loop-record l =
    ((f : Fault) → FailsFirst (records_tests (drop l.record-index l.records)) f → FailsFirst (records_tests l.records) f)
    × (AllWritable (drop l.record-index l.records) → AllWritable l.records)
    × (l.total ≤ 4097)
    × (min 4097 (l.total + length (records_bytes l.before (drop l.record-index l.records))) ≡ min 4097 (6 + length (records_bytes None l.records)))
