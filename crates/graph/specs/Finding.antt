-- How far a search has come: the marks, one byte a cell, and beside them the cells found, in the order of their finding.
use Rattle.std.specs.Prelude.{◌≡◌, ℕ, ◌≤◌, ◌⊎◌, List, ◌++◌, length}
use Rattle.std.specs.List.{sum_by}
use Rattle.graph.specs.Nets.{Net, Within}
use Rattle.graph.specs.Searches.{Marked}
use Rattle.graph.specs.Costs.{sum_marked}

-- the marks are one byte a cell, and the starts are no fewer
abbrev pub ByteEach : Net → List ℕ → List ℕ → Type 0
ByteEach g starts marks = (length marks ≡ g.cells) × (length marks ≤ length starts) × (length marks ≤ 255)

-- the cells found are those with a mark, each once: every sum over the one is that over the other
abbrev pub Lists : List ℕ → List ℕ → Type 0
Lists marks cells = (w : ℕ → ℕ) → sum_by w cells ≡ sum_marked w 0 marks

-- P holds of each of the cells 1 to n that has a mark
abbrev pub OnlyAt : ℕ → (ℕ → Type 0) → List ℕ → Type 0
OnlyAt n P marks = (x : ℕ) → Within n x → Marked marks x → P x

-- every start among the cells 1 to n is marked
abbrev pub Covers : ℕ → List ℕ → List ℕ → Type 0
Covers n starts marks = (x : ℕ) → Within n x → Marked starts x → Marked marks x

-- the starts are marked, and nothing else
pub record JustStarts (starts marks : List ℕ) : Type 0 where
  pub only : OnlyAt (length marks) (Marked starts) marks
  pub covers : Covers (length marks) starts marks

-- no mark is lost, and what was found stands where it stood
pub record Grows (marks cells marks' cells' : List ℕ) : Type 0 where
  pub long : length marks' ≡ length marks
  pub lasts : (x : ℕ) → Marked marks x → Marked marks' x
  pub more : List ℕ
  pub stands : cells' ≡ cells ++ more

-- x has a mark, and no other cell got one
pub record Notes (x : ℕ) (marks cells marks' cells' : List ℕ) : Type 0 where
  pub grows : Grows marks cells marks' cells'
  pub marked : Marked marks' x
  pub only : OnlyAt (length marks) (λ y. (y ≡ x) ⊎ Marked marks y) marks'
