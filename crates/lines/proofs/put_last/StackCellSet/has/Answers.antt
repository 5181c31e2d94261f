use Rattle.std.proofs.Common.{sym, ◌∙◌}
use Rattle.lines.specs.Orders.{order}
use Rattle.lines.specs.Turned.{in_turned}
use Rattle.lines.proofs.put_last.StackCellSet.has.Goals as goal

pub returns : goal.returns
returns c = c.has.ensures ∙ sym (in_turned (order c.args.self.now.cells) c.args.cell)
