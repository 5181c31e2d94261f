-- The members of a set in the order in which they were put. Assumes nothing.
use Rattle.std.specs.Prelude.{ℕ, List, take}
use Rattle.lines.specs.declared.order.Order.{Order}

-- The one put first stands first.
abbrev pub order : Order → List ℕ
order o = take o.count o.cells
