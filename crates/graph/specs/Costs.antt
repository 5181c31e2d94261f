-- What a search costs: how many arrows it asks for.
use Rattle.std.specs.Prelude.{◌≡◌, ℕ, zero, suc, ◌+◌, ◌≤◌, List, [], ◌∷◌, Result, IfOk}
use Rattle.std.specs.Bool.{OnFalse}
use Rattle.graph.specs.declared.refusal.SearchRefusal.{SearchRefusal}
use Rattle.graph.specs.declared.outcome.Outcome.{Outcome}
use Rattle.graph.specs.Nets.{Net, CellOf, Reached, all_arrows}
use Rattle.graph.specs.Searches.{Marked}

-- w at each marked cell, added up, for a strip whose first byte is that of the cell after k
abbrev pub sum_marked : (ℕ → ℕ) → ℕ → List ℕ → ℕ
sum_marked w k [] = 0
sum_marked w k (zero ∷ bs) = sum_marked w (suc k) bs
sum_marked w k (suc b ∷ bs) = w (suc k) + sum_marked w (suc k) bs

-- so many arrows leave the cells that are reached: a strip that marks just these cells tells the sum
pub record ArrowsOfReached (g : Net) (Start : ℕ → Type 0) (asked : ℕ) : Type 0 where
  pub strip : List ℕ
  pub only : (x : ℕ) → CellOf g x → Marked strip x → Reached g Start x
  pub all : (x : ℕ) → Reached g Start x → Marked strip x
  pub sum : asked ≡ sum_marked g.arrows 0 strip

-- the arrows asked for are no more than the graph has; if the answer is no, they are those of the cells reached, each once
pub record Cost (g : Net) (starts : List ℕ) (outcome : Outcome) : Type 0 where
  pub most : outcome.asked ≤ all_arrows g
  pub exact : OnFalse outcome.reached (ArrowsOfReached g (Marked starts) outcome.asked)

-- a search that is not refused costs no more than the arrows of the graph
abbrev pub Linear : Net → List ℕ → Result Outcome SearchRefusal → Type 0
Linear g starts result = IfOk result (Cost g starts)
