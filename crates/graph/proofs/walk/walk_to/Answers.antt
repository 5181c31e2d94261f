-- Every cell found is reached, so a goal whose turn comes is; once all have had their turn, what is reached is marked and passed.
use Rattle.std.proofs.Common.{◌+◌, arith}
use Rattle.graph.proofs.Walking.{Followed, walked_none, followed_more, walked_more, turn_reached, asked_most, missed, all_asked}
use Rattle.graph.proofs.walk.walk_to.Given.{Over}
use Rattle.graph.proofs.walk.walk_to.Goals as goal
use Rattle.graph.proofs.walk.walk_to.Goals.{After-note}

pub loop-cell-init : goal.loop-cell-init
loop-cell-init g c =
    let f = c.of_starts-found in
    record { walked = rw f.ensures.first (walked_none _ _ _ _ _ (omega arith) f.ensures.starts); fits = omega arith }

-- the arrow just asked for is followed
arrow_followed : (g : Over) (c : After-note g) → Followed (g.G.Graph.net c.args.graph.now) c.args.starts.now c.in-Some.cell (c.loop-j.j + 1)
    c.next_cell.new.self.marks.now c.next_cell.new.self.cells.items c.note.new.self.marks.now c.note.new.self.cells.items
arrow_followed g c =
    followed_more (g.met.G.Graph.closed c.args.graph.now) c.loop-cell.invariant.walked c.loop-cell.found.lists c.in-Some.ensures.next.0 c.in-Some.ensures.same.0
    (omega arith, omega (arith, c.arrows-last.ensures)) c.loop-j.invariant.followed (rw (← c.leads.ensures) c.note.ensures.notes)

pub loop-j-preserved : goal.loop-j-preserved
loop-j-preserved g c = record {
  followed = arrow_followed g (goal.at.loop-j-preserved g c).After-note;
  within = omega (arith, c.arrows-last.ensures);
  turn = omega (arith, c.note.ensures.turn);
  asked = omega arith;
}

pub loop-cell-preserved-in-loop-j : goal.loop-cell-preserved-in-loop-j
loop-cell-preserved-in-loop-j g c =
    let next = c.in-Some.ensures.next in
    record {
      walked = rw (c.loop-j.invariant.turn, next.1) (walked_more (g.met.G.Graph.closed c.args.graph.now) c.loop-cell.invariant.walked c.loop-cell.found.lists next.0 c.if-cell-goal.false
          c.in-Some.ensures.same c.loop-j.invariant.followed (omega (arith, c.arrows-last.ensures)) (omega (arith, c.arrows-last.ensures)));
      fits = omega (arith, next.1, c.arrows-last.ensures);
    }

pub loop-cell-preserved : goal.loop-cell-preserved
loop-cell-preserved g c =
    let next = c.in-Some.ensures.next in
    record {
      walked = rw (c.note.ensures.turn, c.loop-j.invariant.turn, next.1) (walked_more (g.met.G.Graph.closed c.args.graph.now) c.loop-cell.invariant.walked c.loop-cell.found.lists next.0 c.if-cell-goal.false
          c.in-Some.ensures.same (arrow_followed g (goal.at.loop-cell-preserved g c).After-note) (omega (arith, c.arrows-last.ensures)) (omega (arith, c.arrows-last.ensures)));
      fits = omega (arith, next.1, c.arrows-last.ensures, c.arrows-last.type_inv, c.note.ensures.turn);
    }

pub returns-then-cell-goal : goal.returns-then-cell-goal
returns-then-cell-goal g c =
    let closed = g.met.G.Graph.closed c.args.graph.now in
    let walked = c.loop-cell.invariant.walked in
    let lists = c.loop-cell.found.lists in
    record {
      reached = rw (← c.if-cell-goal.true) (turn_reached closed walked lists c.in-Some.ensures.next.0);
      cost = record { most = asked_most closed walked lists; exact = tt };
    }

pub returns : goal.returns
returns g c =
    let closed = g.met.G.Graph.closed c.args.graph.now in
    let walked = c.loop-cell.invariant.walked in
    let lists = c.loop-cell.found.lists in
    let end = c.in_default.ensures.none in
    record {
      reached = missed closed walked lists end;
      cost = record { most = asked_most closed walked lists; exact = all_asked closed walked lists end };
    }
