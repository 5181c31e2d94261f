use Rattle.std.proofs.Common.{◌≡◌, sym, ap, ◌∙◌, rules}
use Rattle.lines.specs.Lines.{without}
use Rattle.lines.specs.InLine.{without_stranger}
use Rattle.lists.specs.Tables.{rows_lines}
use Rattle.lists.proofs.Rows.{named, unnamed, reads, writes, same_line, not_there}
use Rattle.lists.proofs.Told.{told_strike}
use Rattle.lists.proofs.table.TableWaitingLists.strike.Goals as goal

pub returns-in-Some : goal.returns-in-Some
returns-in-Some g c =
    let line = g.S.CellSet.line in let top = g.S.CellSet.HIGHEST in
    let t = c.args.self.now.rows in let i = c.in-Some.row in let w = c.args.worker in let k = c.args.set in let x = c.args.cell in
    let ls = rows_lines line t in
    let h = named top i c.in-Some.cell w k x c.in-Some.ensures in
    let is = reads line t i w k c.index-self-row.result h.1 (search rules) in
    let new : line c.strike.new.self ≡ without (ls w k) x = c.strike.ensures ∙ ap (without _) h.2 ∙ ap (λ l. without l x) (sym is) in
    let order = writes line t i w k c.strike.new.self (without (ls w k) x) h.1 (search rules) new in
    record { after = told_strike top ls w k x order; order = order }

pub returns-in_default : goal.returns-in_default
returns-in_default g c =
    let top = g.S.CellSet.HIGHEST in
    let w = c.args.worker in let k = c.args.set in let x = c.args.cell in
    let ls = rows_lines g.S.CellSet.line c.args.self.now.rows in
    let stranger = not_there g.S.CellSet.line top g.met.S.CellSet.stands c.args.self.now.rows w k x (unnamed top w k x c.in_default.ensures) in
    let order = sym (same_line ls w k (without (ls w k) x) (sym (without_stranger (ls w k) x stranger))) in
    record { after = told_strike top ls w k x order; order = order }
