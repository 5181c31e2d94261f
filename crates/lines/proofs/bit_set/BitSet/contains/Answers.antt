use Rattle.std.proofs.Common.{◌/◌, ◌%◌, ◌^◌, eqb, get_or, ap}
use lib.Bits.{and_mask}
use Rattle.lines.specs.Bits.{held}
use Rattle.lines.proofs.bit_set.BitSet.contains.Goals as goal

pub returns : goal.returns
unfolding held
returns c = ap (λ d. eqb d 1) (and_mask (get_or c.args.self.now.words (c.args.cell / 64) 0 / 2 ^ (c.args.cell % 64)) 1)
