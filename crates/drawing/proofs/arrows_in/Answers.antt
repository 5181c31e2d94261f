-- Each turn adds one cell's arrows to the sum over the cells before it.
use Rattle.std.proofs.Common.{◌≡◌, ◌+◌, ◌-◌, ap, arith}
use Rattle.graph.specs.Nets.{sum_after}
use Rattle.drawing.proofs.Arrows.{sum_next}
use Rattle.drawing.proofs.arrows_in.Goals as goal

pub loop-x-preserved : goal.loop-x-preserved
loop-x-preserved g c =
    let w = (g.G.Graph.net c.args.graph.now).arrows in
    let x = c.loop-x.x in
    let e : sum_after w 0 (x + 1 - 1) ≡ sum_after w 0 x = ap (sum_after w 0) (omega arith) in
    record { sum = omega (arith, e, sum_next w x, c.arrows.ensures); fits = omega (arith, c.arrows.type_inv); within = omega arith }

pub returns-2 : goal.returns-2
returns-2 g c =
    let net = g.G.Graph.net c.args.graph.now in
    let all : sum_after net.arrows 0 c.loop-x.x ≡ sum_after net.arrows 0 net.cells = ap (sum_after net.arrows 0) (omega arith) in
    omega (arith, sum_next net.arrows c.loop-x.x, all, c.arrows.ensures)
