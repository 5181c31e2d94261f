-- The invariant of a store, with the balance of its counts.
use Rattle.std.proofs.Common.{◌≡◌, ℕ, zero, suc, ◌+◌, ◌≤◌, Bool, true, false, eqb}
use Rattle.rules.proofs.Heap.{Cells}
use Rattle.rules.proofs.Moves.{View, Range}
use Rattle.rules.proofs.CellInvariant.{Global}
use Rattle.rules.proofs.WalkerInvariant.{Local}

abbrev pub bit : Bool → ℕ
bit true = 1
bit false = 0

unfoldable pub sum : (ℕ → ℕ) → ℕ → ℕ
sum f zero = 0
sum f (suc n) = sum f n + f (suc n)

abbrev pub root_count : ℕ → (ℕ → ℕ → Bool) → ℕ → ℕ
root_count m roots x = sum (λ p. bit (roots p x)) m

abbrev pub box_count : ℕ → (ℕ → ℕ → ℕ) → ℕ → ℕ
box_count m box x = sum (λ p. sum (λ r. bit (eqb (box p r) x)) m) m

abbrev pub Balance : ℕ → Cells → (ℕ → ℕ → Bool) → (ℕ → ℕ → ℕ) → Type 0
Balance m c roots box = (x : ℕ) → 1 ≤ x → c.sources x ≡ c.putoff x + (root_count m roots x + box_count m box x)

pub record Inv (n m : ℕ) (s : View) : Type 0 where
  pub global : Global (Range n) s.cells
  pub locals : (p : ℕ) → Local (Range n) s.cells (s.workers p)
  pub balance : Balance m s.cells s.roots s.box
  pub roots_low : (p x : ℕ) → s.roots p x ≡ true → 1 ≤ x
