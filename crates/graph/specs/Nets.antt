-- What a graph stands for: a number of cells, and for each cell its arrows, both counted from 1. Assumes nothing.
use Rattle.std.specs.Prelude.{◌≡◌, ℕ, zero, suc, ◌+◌, ◌≤◌}

-- the number of cells, a cell's number of arrows, and where arrow j of a cell leads
pub record Net : Type 0 where
  pub cells : ℕ
  pub arrows : ℕ → ℕ
  pub leads : ℕ → ℕ → ℕ

-- x is one of the numbers 1 to n
abbrev pub Within : ℕ → ℕ → Type 0
Within n x = (1 ≤ x) × (x ≤ n)

-- x is a cell of the graph
abbrev pub CellOf : Net → ℕ → Type 0
CellOf g x = Within g.cells x

-- x has an arrow with the number j
abbrev pub ArrowOf : Net → ℕ → ℕ → Type 0
ArrowOf g x j = Within (g.arrows x) j

-- every arrow begins and ends at a cell of the graph
abbrev pub Closed : Net → Type 0
Closed g = (x j : ℕ) → ArrowOf g x j → CellOf g x × CellOf g (g.leads x j)

-- what is no arrow leads to 0
abbrev pub Silent : Net → Type 0
Silent g = (x j : ℕ) → (ArrowOf g x j → ⊥) → g.leads x j ≡ 0

-- zero or more arrows lead from x to a cell, one after the other
pub data Path (g : Net) (x : ℕ) : ℕ → Type 0 where
  stay : Path g x x
  walk : (y j : ℕ) → Path g x y → ArrowOf g y j → Path g x (g.leads y j)

-- some path leads to the goal from a cell of the graph that is a start
pub record Reached (g : Net) (Start : ℕ → Type 0) (goal : ℕ) : Type 0 where
  pub start : ℕ
  pub inside : CellOf g start
  pub starts : Start start
  pub path : Path g start goal

-- w at each of the n numbers after k, added up
abbrev pub sum_after : (ℕ → ℕ) → ℕ → ℕ → ℕ
sum_after w k zero = 0
sum_after w k (suc n) = w (suc k) + sum_after w (suc k) n

-- the number of arrows of the whole graph
abbrev pub all_arrows : Net → ℕ
all_arrows g = sum_after g.arrows 0 g.cells
