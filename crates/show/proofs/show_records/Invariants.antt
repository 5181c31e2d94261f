use Rattle.std.proofs.Common.{length}
use Rattle.show.proofs.show_records.Given as goal

-- the bytes that are still to be read
abbrev pub decreases-loop-call : goal.decreases-loop-call
decreases-loop-call l = length l.reader.rest
