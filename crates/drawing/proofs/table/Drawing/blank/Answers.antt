-- Without arrows there is none that could end elsewhere.
use Rattle.std.proofs.Common.{replicate}
use Rattle.drawing.proofs.Arrows.{few_none, held_none}
use Rattle.drawing.proofs.table.Drawing.blank.Goals as goal

pub invariant_of-result : goal.invariant_of-result
invariant_of-result c = record { few = few_none 256; held = held_none _ 256 (replicate 65536 0) }
