use Rattle.lines.specs.Bits.{held}
use Rattle.lines.specs.Rising.{rising_empty}
use Rattle.lines.proofs.lowest_first.BitSetCellSet.empty.Goals as goal

pub returns : goal.returns
returns c = rising_empty (held c.empty.result.words) 255 c.empty.ensures
