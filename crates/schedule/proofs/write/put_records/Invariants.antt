use Rattle.std.proofs.Common.{◌≡◌, ◌+◌, length, drop, None}
use Rattle.schedule.specs.Format.{records_bytes}
use Rattle.schedule.specs.Strip.{put}
use Rattle.schedule.specs.Whole.{AllWritable}
use Rattle.schedule.proofs.write.put_records.Given as goal

-- with what is left put at this place, the strip is as it is to be
abbrev pub invariant-loop-record : goal.invariant-loop-record
invariant-loop-record l =
    AllWritable (drop l.record-index l.records)
    × (l.place + length (records_bytes l.before (drop l.record-index l.records)) ≡ l.at + length (records_bytes None l.records))
    × (put l.place (records_bytes l.before (drop l.record-index l.records)) l.strip ≡ put l.at (records_bytes None l.records) l.initial.strip)
