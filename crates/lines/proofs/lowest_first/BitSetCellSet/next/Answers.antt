use Rattle.lines.specs.Rising.{rising_next}
use Rattle.lines.proofs.lowest_first.BitSetCellSet.next.Goals as goal

pub returns : goal.returns
returns c = rising_next c.args.self.now.words c.args.self.now.four c.args.self.now.unused c.lowest.result c.lowest.ensures
