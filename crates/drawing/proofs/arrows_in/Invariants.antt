use Rattle.std.proofs.Common.{◌≡◌, ◌+◌, ◌-◌, ◌*◌, ◌≤◌}
use Rattle.graph.specs.Nets.{sum_after}
use Rattle.drawing.proofs.arrows_in.Given as goal

abbrev pub invariant-loop-x : goal.invariant-loop-x
invariant-loop-x g l = record {
  sum : l.sum ≡ sum_after (g.G.Graph.net l.graph).arrows 0 (l.x - 1);
  fits : l.sum + 65535 ≤ 65535 * l.x;
  within : l.x ≤ (g.G.Graph.net l.graph).cells + 1;
}
