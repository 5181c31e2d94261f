use Rattle.std.proofs.Common.{replicate, ap, ◌∙◌}
use Rattle.std.proofs.lemmas.List.{get_or-replicate}
use Rattle.lists.proofs.Rows.{none_in}
use Rattle.lists.proofs.table.Table.new.Goals as goal

pub returns : goal.returns
returns g c =
    let line = g.S.CellSet.line in let s = c.empty-empty.result in
    none_in line (replicate 24 s) (λ i d lt. ap line (get_or-replicate 24 i s d lt) ∙ c.empty-empty.ensures)
