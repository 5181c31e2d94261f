-- A graph with each cell's arrows in the opposite order.
use Rattle.std.specs.Prelude.{◌+◌, ◌-◌, cond}
use Rattle.graph.specs.Nets.{Net}
use Rattle.drawing.specs.Tests.{within}

-- arrow j leads where the j-th of the given graph leads, counted from the last
abbrev pub backward_net : Net → Net
backward_net g = record {
  cells = g.cells;
  arrows = g.arrows;
  leads = λ x j. cond (within (g.arrows x) j) (g.leads x (g.arrows x - j + 1)) 0;
}
