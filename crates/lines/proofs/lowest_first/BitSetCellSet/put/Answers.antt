use Rattle.lines.specs.Bits.{held}
use Rattle.lines.specs.Rising.{rising_put}
use Rattle.lines.proofs.lowest_first.BitSetCellSet.put.Goals as goal

pub returns : goal.returns
returns c = rising_put (held c.args.self.now.words) (held c.insert.new.self.words) c.args.cell c.insert.ensures 255
