use Rattle.std.proofs.Common.{◌≡◌, ◌+◌, true, false, cond, [], ◌∷◌, ◌++◌, take, set, sym, ap, ◌∙◌, arith, length-set}
use Rattle.std.proofs.lemmas.List.{take_more_set}
use Rattle.std.proofs.lemmas.Bool.Decides.{nat_tests}
use Rattle.lines.specs.Numbers.{in_range}
use Rattle.lines.specs.Lines.{in_line, orderly, at_end, joined}
use Rattle.lines.specs.InLine.{orderly_push}
use Rattle.lines.proofs.Placing.{free, marks_more}
use Rattle.lines.proofs.order.OrderCellSet.put.Goals as goal

pub bounds-self-self : goal.bounds-self-self
bounds-self-self c =
    let o = c.args.self.now in let x = c.args.cell in let pos = c.if-cell-ge1.true in
    let fit : in_range x 255 ≡ true = grind (arith, nat_tests) in
    free o.cells o.count o.long o.fits x o.stands fit (sym (o.marked x) ∙ sym c.if-not-contains.ensures)

pub invariant_of-self : goal.invariant_of-self
invariant_of-self c =
    let o = c.args.self.now in let x = c.args.cell in let pos = c.if-cell-ge1.true in
    let l = take o.count o.cells in
    let fit : in_range x 255 ≡ true = grind (arith, nat_tests) in
    let out : in_line x l ≡ false = sym (o.marked x) ∙ sym c.if-not-contains.ensures in
    let lt = free o.cells o.count o.long o.fits x o.stands fit out in
    let long = o.long in
    let e : take (o.count + 1) (set o.cells o.count x) ≡ l ++ x ∷ [] = take_more_set o.cells o.count x (omega arith) in
    record {
      long = simp length-set o.long;
      fits = omega arith;
      stands = ap (orderly 255) e ∙ orderly_push 255 l x o.stands fit out;
      marked = λ v. marks_more o.marks.words c.insert.new.self.words l x pos o.marked c.insert.ensures v ∙ sym (ap (in_line v) e);
    }

pub returns-then-not-contains : goal.returns-then-not-contains
returns-then-not-contains c =
    let o = c.args.self.now in let x = c.args.cell in let pos = c.if-cell-ge1.true in
    let l = take o.count o.cells in
    let fit : in_range x 255 ≡ true = grind (arith, nat_tests) in
    let out : in_line x l ≡ false = sym (o.marked x) ∙ sym c.if-not-contains.ensures in
    let lt = free o.cells o.count o.long o.fits x o.stands fit out in
    let long = o.long in
    take_more_set o.cells o.count x (omega arith)
    ∙ sym (ap (λ b. cond b (joined at_end l x) l) fit ∙ ap (λ b. cond b l (l ++ x ∷ [])) out)
