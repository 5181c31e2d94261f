-- The new arrow ends at a cell, and the other arrows end where they did.
use Rattle.std.proofs.Common.{sym, arith}
use Rattle.drawing.proofs.Arrows.{yes_within, drawn_more}
use Rattle.drawing.proofs.table.Drawing.draw.Goals as goal

pub invariant_of-self : goal.invariant_of-self
invariant_of-self c =
    let d = c.args.self.now in
    let to = yes_within d.count c.args.to (sym c.if-not-has-2.ensures) in
    let s = drawn_more d.count d.arrows d.ends d.few d.held (omega arith) (omega arith) c.from-x.result c.args.to (omega arith) to c.if-self-x-ge255.false
    c.from.result c.from.ensures in
    record { few = s.0; held = s.1 }
