use Rattle.std.proofs.Common.{◌≡◌, ◌+◌, ◌-◌, ◌≤◌}
use Rattle.lines.specs.Lines.{counted}
use Rattle.lists.proofs.table.counted_to.Given as goal

abbrev pub invariant-loop-cell : goal.invariant-loop-cell
invariant-loop-cell g l = (l.cell ≤ l.n + 1) × (g.S.CellSet.line l.cells ≡ counted g.S.CellSet.joins (l.cell - 1))
