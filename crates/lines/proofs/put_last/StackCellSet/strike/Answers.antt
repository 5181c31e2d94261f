use Rattle.std.proofs.Common.{reverse, ap, ◌∙◌}
use Rattle.lines.specs.Lines.{orderly}
use Rattle.lines.specs.Orders.{order}
use Rattle.lines.specs.InLine.{orderly_without}
use Rattle.lines.specs.Turned.{without_turned}
use Rattle.lines.proofs.put_last.StackCellSet.strike.Goals as goal

pub invariant_of-self : goal.invariant_of-self
invariant_of-self c =
    let s = c.args.self.now in
    record { low = ap (orderly 100) c.strike.ensures ∙ orderly_without 100 (order s.cells) c.args.cell s.low }

pub returns : goal.returns
returns c = ap reverse c.strike.ensures ∙ without_turned (order c.args.self.now.cells) c.args.cell
