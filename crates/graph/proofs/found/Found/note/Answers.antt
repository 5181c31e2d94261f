-- A cell without a mark has room in the list, and is then in it once.
use Rattle.std.proofs.Common.{◌-◌, arith}
use Rattle.graph.proofs.Marks.{lists_more, cells_room}
use Rattle.graph.proofs.found.Found.note.Goals as goal

pub push-requires : goal.push-requires
push-requires c =
    let f = c.args.self.now in
    (omega arith, omega (arith, f.small, cells_room f.marks.now f.cells.items (c.from-i.result - 1) f.lists (omega arith) c.if-self-i-eq0.true))

pub invariant_of-self-clause-lists : goal.invariant_of-self-clause-lists
invariant_of-self-clause-lists c =
    let f = c.args.self.now in
    rw c.push.ensures.items (lists_more f.marks.now f.cells.items c.args.cell (c.from-i.result - 1) f.lists (omega arith) (omega arith) c.if-self-i-eq0.true)
