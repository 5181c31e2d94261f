use Rattle.std.proofs.Common.{◌≡◌, ◌+◌, ◌-◌, ◌*◌, ◌≤◌}
use Rattle.graph.proofs.Walking.{Walked, Followed}
use Rattle.graph.proofs.walk.walk_to.Given as goal

abbrev pub invariant-loop-cell : goal.invariant-loop-cell
invariant-loop-cell g l = record {
  walked : Walked (g.G.Graph.net l.graph) l.starts l.goal l.found.marks.now l.found.cells.items l.found.turn l.asked;
  fits : l.asked ≤ 65535 * l.found.turn;
}

abbrev pub decreases-loop-cell : goal.decreases-loop-cell
decreases-loop-cell g l = (g.G.Graph.net l.graph).cells - l.found.turn

abbrev pub invariant-loop-j : goal.invariant-loop-j
invariant-loop-j g l = record {
  followed : Followed (g.G.Graph.net l.graph) l.starts l.cell l.j l.initial.found.marks.now l.initial.found.cells.items l.found.marks.now l.found.cells.items;
  within : l.j ≤ (g.G.Graph.net l.graph).arrows l.cell + 1;
  turn : l.found.turn ≡ l.initial.found.turn;
  asked : l.asked + 1 ≡ l.initial.asked + l.j;
}
