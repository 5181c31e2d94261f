use Rattle.std.proofs.Common.{◌-◌, take, sym, ap, ◌∙◌, arith}
use Rattle.lines.specs.Lines.{in_line, orderly}
use Rattle.lines.specs.Orders.{order}
use Rattle.lines.specs.InLine.{without_stranger, orderly_without}
use Rattle.lines.proofs.Placing.{no_place, closed, marks_less}
use Rattle.lines.proofs.order.OrderCellSet.strike.Goals as goal

pub invariant_of-self : goal.invariant_of-self
invariant_of-self c =
    let o = c.args.self.now in let x = c.args.cell in let l = order o in let fits = o.fits in
    let left = ap (take (o.count - 1)) c.copy_within.ensures.after ∙ closed o.cells o.count o.long o.fits x c.in-Some.place o.stands c.in-Some.ensures in
    record {
      long = c.copy_within.ensures.len ∙ o.long;
      fits = omega arith;
      stands = ap (orderly 255) left ∙ orderly_without 255 l x o.stands;
      marked = λ v. marks_less o.marks.words c.remove.new.self.words l x o.marked c.remove.ensures v ∙ sym (ap (in_line v) left);
    }

pub returns-in-Some : goal.returns-in-Some
returns-in-Some c =
    let o = c.args.self.now in
    ap (take (o.count - 1)) c.copy_within.ensures.after ∙ closed o.cells o.count o.long o.fits c.args.cell c.in-Some.place o.stands c.in-Some.ensures

pub returns-then-not-contains : goal.returns-then-not-contains
returns-then-not-contains c = let o = c.args.self.now in sym (without_stranger (order o) c.args.cell (sym (o.marked c.args.cell) ∙ sym c.if-not-contains.ensures))

pub returns-in_default : goal.returns-in_default
returns-in_default c = let l = order c.args.self.now in sym (without_stranger l c.args.cell (no_place l c.args.cell c.in_default.ensures))
