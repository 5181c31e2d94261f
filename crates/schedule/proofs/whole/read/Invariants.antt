use Rattle.std.proofs.Common.{length, vec_items}
use Rattle.schedule.proofs.Sofar.{At}
use Rattle.schedule.proofs.whole.read.Given as goal

-- the calls so far, and the bytes that are left, are the schedule
abbrev pub invariant-loop-calls : goal.invariant-loop-calls
invariant-loop-calls l = At l.bytes l.opening l.reader (vec_items l.calls)

abbrev pub decreases-loop-calls : goal.decreases-loop-calls
decreases-loop-calls l = length l.reader.rest
