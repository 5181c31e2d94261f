use Rattle.std.proofs.Common.{ap, ◌∙◌}
use Rattle.lines.specs.Lines.{orderly}
use Rattle.lines.specs.Orders.{order}
use Rattle.lines.specs.Turned.{orderly_joined, put_turned}
use Rattle.lines.proofs.put_last.StackCellSet.put.Goals as goal

pub invariant_of-self : goal.invariant_of-self
invariant_of-self c =
    let s = c.args.self.now in
    record { low = ap (orderly 100) c.put.ensures ∙ orderly_joined 255 100 (order s.cells) c.args.cell c.if-cell-le-HIGHEST.true s.low }

pub returns-then-cell-le-HIGHEST : goal.returns-then-cell-le-HIGHEST
returns-then-cell-le-HIGHEST c = put_turned (order c.args.self.now.cells) (order c.put.new.self) c.args.cell c.if-cell-le-HIGHEST.true c.put.ensures
