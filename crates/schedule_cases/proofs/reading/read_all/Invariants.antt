use Rattle.std.proofs.Common.{length}
use Rattle.schedule_cases.proofs.reading.read_all.Given as goal

-- the bytes that are still to be read
abbrev pub decreases-loop : goal.decreases-loop
decreases-loop l = length l.reader.rest
