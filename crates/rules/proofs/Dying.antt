-- What is known of the cells D that were dead when the round number was r, and have not been white since.
use Rattle.std.proofs.Common.{◌≡◌, ℕ, ◌+◌, ◌≤◌, ◌⊎◌}
use Rattle.rules.proofs.Heap.{white, grey, none, Fresh, Is, Child}
use Rattle.rules.proofs.Moves.{View}
use Rattle.rules.proofs.Invariant.{root_count, box_count}

pub record Track (m r : ℕ) (D : ℕ → Type 0) (s : View) : Type 0 where
  pub since : r ≤ s.cells.rnd
  pub nonwhite : (u : ℕ) → D u → Is s.cells white u → ⊥
  pub unheld : (u : ℕ) → D u → root_count m s.roots u + box_count m s.box u ≡ 0
  pub parents : (x z : ℕ) → D z → Child s.cells x z → (Is s.cells white x → ⊥) → D x
  pub line1 : s.cells.rnd ≡ r + 1 → (u : ℕ) → D u → Fresh s.cells u → Is s.cells grey u ⊎ (s.cells.sources u ≡ 0)
  pub line2 : s.cells.rnd ≡ r + 2 → (u : ℕ) → D u → (s.cells.sources u ≡ 0) × (Fresh s.cells u → Is s.cells grey u × (s.cells.father u ≡ none))
  pub line3 : r + 3 ≤ s.cells.rnd → (u : ℕ) → D u → ⊥
