use Rattle.std.proofs.Common.{sym, ap, ◌∙◌, rules}
use Rattle.lines.specs.Lines.{counted}
use Rattle.lists.specs.Sets.{takes}
use Rattle.lists.specs.Tables.{with_line, rows_lines}
use Rattle.lists.proofs.Rows.{named, writes, chosen}
use Rattle.lists.proofs.Told.{told_fill}
use Rattle.lists.proofs.table.TableWaitingLists.fill.Goals as goal

pub returns : goal.returns
returns g c =
    let line = g.S.CellSet.line in let joins = g.S.CellSet.joins in let top = g.S.CellSet.HIGHEST in
    let t = c.args.self.now.rows in let i = c.in-Some.row in let w = c.args.worker in let k = c.args.set in let n = c.args.n in
    let ls = rows_lines line t in
    let h = named top i c.in-Some.n w k n c.in-Some.ensures in
    let new = counted joins n in
    let order = writes line t i w k c.counted_to.new.cells new h.1 (search rules) (c.counted_to.ensures ∙ ap (counted joins) h.2)
    ∙ chosen (takes top w n) (with_line ls w k new) ls h.0 in
    record {
      answer = sym h.0;
      after = told_fill top ls w k joins g.met.S.CellSet.adds n order;
      order = order;
    }
