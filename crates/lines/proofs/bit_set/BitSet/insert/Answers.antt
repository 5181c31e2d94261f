use Rattle.std.proofs.Common.{◌∙◌, arith, length-set}
use Rattle.lines.specs.Digits.{inserted}
use Rattle.lines.proofs.bit_set.BitSet.insert.Goals as goal

pub invariant_of-self : goal.invariant_of-self
invariant_of-self c =
    record {
      four = simp length-set c.args.self.now.four;
      unused = inserted c.args.self.now.words c.args.cell c.args.self.now.four (omega arith) c.if-cell-ge1.true 0 ∙ c.args.self.now.unused;
    }

pub returns-then-cell-ge1 : goal.returns-then-cell-ge1
returns-then-cell-ge1 c = inserted c.args.self.now.words c.args.cell c.args.self.now.four (omega arith) c.if-cell-ge1.true
