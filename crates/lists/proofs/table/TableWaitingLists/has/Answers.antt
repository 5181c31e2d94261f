use Rattle.std.proofs.Common.{◌≡◌, get_or, sym, ap, ◌∙◌, rules}
use Rattle.lines.specs.Lines.{in_line}
use Rattle.lists.specs.Tables.{rows_lines}
use Rattle.lists.proofs.Rows.{named, unnamed, reads, not_there, rows_orderly, rows_absent}
use Rattle.lists.proofs.Told.{told_has}
use Rattle.lists.proofs.table.TableWaitingLists.has.Goals as goal

pub returns-in-Some : goal.returns-in-Some
returns-in-Some g c =
    let line = g.S.CellSet.line in let top = g.S.CellSet.HIGHEST in let orderly = g.met.S.CellSet.stands in
    let t = c.args.self.now.rows in let i = c.in-Some.row in let w = c.args.worker in let k = c.args.set in let x = c.args.cell in
    let h = named top i c.in-Some.cell w k x c.in-Some.ensures in
    let is = reads line t i w k c.index-self-row.result h.1 (search rules) in
    let order : c.has.result ≡ in_line x (rows_lines line t w k) = c.has.ensures ∙ ap (λ v. in_line v (line (get_or t i c.index-self-row.result))) h.2 ∙ ap (in_line x) (sym is) in
    record { member = order ∙ told_has top (rows_lines line t) w k (rows_orderly line top orderly t w k) (rows_absent line t w k) x; order = order }

pub returns-in-None-clause-order : goal.returns-in-None-clause-order
returns-in-None-clause-order g c =
    let top = g.S.CellSet.HIGHEST in
    let w = c.args.worker in let k = c.args.set in let x = c.args.cell in
    sym (not_there g.S.CellSet.line top g.met.S.CellSet.stands c.args.self.now.rows w k x (unnamed top w k x c.in-None.ensures))
