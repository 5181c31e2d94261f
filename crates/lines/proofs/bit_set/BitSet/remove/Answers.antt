use Rattle.std.proofs.Common.{not, ◌&&◌, eqb, ap, ◌∙◌, arith, length-set}
use Rattle.lines.specs.Digits.{removed, and_no}
use Rattle.lines.proofs.bit_set.BitSet.remove.Goals as goal

pub invariant_of-self : goal.invariant_of-self
invariant_of-self c =
    record {
      four = simp length-set c.args.self.now.four;
      unused =
          removed c.args.self.now.words c.args.cell c.args.self.now.four (omega arith) 0
          ∙ ap (λ b. not (eqb 0 c.args.cell) && b) c.args.self.now.unused
          ∙ and_no (not (eqb 0 c.args.cell));
    }

pub returns : goal.returns
returns c = removed c.args.self.now.words c.args.cell c.args.self.now.four (omega arith)
