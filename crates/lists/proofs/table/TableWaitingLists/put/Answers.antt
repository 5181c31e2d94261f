use Rattle.std.proofs.Common.{◌≡◌, cond, get_or, sym, ap, ◌∙◌, rules}
use Rattle.lines.specs.Lines.{joined}
use Rattle.lists.specs.Sets.{in_range, takes}
use Rattle.lists.specs.Tables.{with_line, rows_lines}
use Rattle.lists.proofs.Rows.{named, takes_carried, reads, writes, chosen}
use Rattle.lists.proofs.Told.{told_put}
use Rattle.lists.proofs.table.TableWaitingLists.put.Goals as goal

pub returns : goal.returns
returns g c =
    let line = g.S.CellSet.line in let joins = g.S.CellSet.joins in let top = g.S.CellSet.HIGHEST in
    let t = c.args.self.now.rows in let i = c.in-Some.row in let w = c.args.worker in let k = c.args.set in let x = c.args.cell in
    let ls = rows_lines line t in
    let h = named top i c.in-Some.cell w k x c.in-Some.ensures in
    let old = line (get_or t i c.index-self-row.result) in
    let new = joined joins (ls w k) x in
    let is : line c.put.new.self ≡ new =
    c.put.ensures ∙ ap (λ v. cond (in_range v top) (joined joins old v) old) h.2
    ∙ sym (chosen (in_range x top) (joined joins old x) old (takes_carried top w x h.0))
    ∙ ap (λ l. joined joins l x) (sym (reads line t i w k c.index-self-row.result h.1 (search rules))) in
    let order = writes line t i w k c.put.new.self new h.1 (search rules) is ∙ chosen (takes top w x) (with_line ls w k new) ls h.0 in
    record {
      answer = sym h.0;
      after = told_put top ls w k joins g.met.S.CellSet.adds x order;
      order = order;
    }
