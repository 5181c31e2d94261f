use Rattle.lines.specs.Bits.{held}
use Rattle.lines.specs.Rising.{rising_strike}
use Rattle.lines.proofs.lowest_first.BitSetCellSet.strike.Goals as goal

pub returns : goal.returns
returns c = rising_strike (held c.args.self.now.words) (held c.remove.new.self.words) c.args.cell c.remove.ensures 255
