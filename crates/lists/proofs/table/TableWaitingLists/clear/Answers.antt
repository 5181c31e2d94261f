use Rattle.std.proofs.Common.{[], rules}
use Rattle.lists.specs.Tables.{rows_lines}
use Rattle.lists.proofs.Rows.{writes}
use Rattle.lists.proofs.Told.{told_clear}
use Rattle.lists.proofs.table.TableWaitingLists.clear.Goals as goal

pub returns-in-Some : goal.returns-in-Some
returns-in-Some g c =
    let line = g.S.CellSet.line in let top = g.S.CellSet.HIGHEST in
    let t = c.args.self.now.rows in let w = c.args.worker in let k = c.args.set in
    let order = writes line t c.in-Some.row w k c.empty.result [] c.in-Some.ensures (search rules) c.empty.ensures in
    record { after = told_clear top (rows_lines line t) w k order; order = order }
