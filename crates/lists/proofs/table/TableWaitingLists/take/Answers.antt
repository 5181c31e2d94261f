use Rattle.std.proofs.Common.{Some, rules}
use Rattle.lists.specs.Tables.{rows_lines}
use Rattle.lists.proofs.Rows.{took_none, took_some, rows_absent, rows_orderly}
use Rattle.lists.proofs.Told.{told_take}
use Rattle.lists.proofs.table.TableWaitingLists.take.Goals as goal

pub returns-in_err-cell : goal.returns-in_err-cell
returns-in_err-cell g c =
    let line = g.S.CellSet.line in let top = g.S.CellSet.HIGHEST in let stands = g.met.S.CellSet.stands in
    let t = c.args.self.now.rows in let w = c.args.worker in let k = c.args.set in let r = c.from_residual-in_err-cell in
    let order = took_none line t c.in_ok-row.row w k c.index-self-row.result r.result c.in_ok-row.ensures (search rules) r.ensures c.in_err-cell.ensures in
    record { member = told_take top (rows_lines line t) w k (rows_orderly line top stands t w k) (rows_absent line t w k) r.result _ order; order = order }

pub returns : goal.returns
returns g c =
    let line = g.S.CellSet.line in let top = g.S.CellSet.HIGHEST in let stands = g.met.S.CellSet.stands in
    let t = c.args.self.now.rows in let w = c.args.worker in let k = c.args.set in let x = c.in_ok-cell.cell in
    let order = took_some line top stands t c.in_ok-row.row w k c.index-self-row.result c.strike.new.self x c.in_ok-row.ensures (search rules) c.in_ok-cell.ensures c.strike.ensures in
    record { member = told_take top (rows_lines line t) w k (rows_orderly line top stands t w k) (rows_absent line t w k) (Some x) _ order; order = order }
