-- The store, the calls and steps as moves between stores, runs, and what the theorem says of them.
use Rattle.std.proofs.Common.{◌≡◌, ℕ, suc, ◌≤◌, Bool, true, false}
use Rattle.rules.proofs.Heap.{upd, white, Cells, Is, Child}
use Rattle.rules.proofs.HeapChanges.{made, add, counts}
use Rattle.rules.proofs.Walkers.{idle, Worker, begun}
use Rattle.rules.proofs.WalkerSteps.{Step, Fills}

pub record View : Type 0 where
  pub cells : Cells
  pub workers : ℕ → Worker
  pub roots : ℕ → ℕ → Bool
  pub box : ℕ → ℕ → ℕ

abbrev pub Range : ℕ → ℕ → Type 0
Range n x = (1 ≤ x) × (x ≤ n)

pub data Reach (c : Cells) (root : ℕ → Bool) : ℕ → Type 0 where
  at_root : {x : ℕ} → root x ≡ true → Reach c root x
  on : {x z : ℕ} → Reach c root x → Child c x z → Reach c root z

-- live: reached from a root or a box of some worker
pub data Live (workers : ℕ) (s : View) : ℕ → Type 0 where
  live_root : {x : ℕ} (p : ℕ) → Range workers p → s.roots p x ≡ true → 1 ≤ x → Live workers s x
  live_box : {x : ℕ} (p r : ℕ) → Range workers p → Range workers r → s.box p r ≡ x → 1 ≤ x → Live workers s x
  live_child : {x z : ℕ} → Live workers s x → Child s.cells x z → Live workers s z

abbrev pub moved : View → Cells → (ℕ → Worker) → View
moved s c ws = record { cells = c; workers = ws; roots = s.roots; box = s.box }

abbrev pub called : View → Cells → (ℕ → ℕ → Bool) → (ℕ → ℕ → ℕ) → View
called s c rs bs = record { cells = c; workers = s.workers; roots = rs; box = bs }

abbrev pub root : View → ℕ → ℕ → Bool → ℕ → ℕ → Bool
root s p x b = upd s.roots p (upd (s.roots p) x b)

abbrev pub boxed : View → ℕ → ℕ → ℕ → ℕ → ℕ → ℕ
boxed s p r x = upd s.box p (upd (s.box p) r x)

abbrev pub more : (ℕ → ℕ) → ℕ → ℕ → ℕ
more f x = upd f x (suc (f x))

pub data Move (n m : ℕ) : View → View → Type 0 where
  step : {s : View} {d : Cells} {w : Worker} (p : ℕ) → Range m p → Step (Range n) s.cells (s.workers p) d w → Move n m s (moved s d (upd s.workers p w))
  begin : {s : View} (p : ℕ) (all : ℕ → Bool) → Fills (Range n) all → Range m p → (s.workers p).label ≡ idle → Move n m s (moved s s.cells (upd s.workers p (begun (s.workers p) s.cells.rnd all)))
  -- Create (k = 0) and Make
  make : {s : View} (p x k : ℕ) (to : ℕ → ℕ) → Range m p → Range n x → Is s.cells white x → ((j : ℕ) → 1 ≤ j → j ≤ k → Reach s.cells (s.roots p) (to j))
      → Move n m s (called s (made s.cells x k to) (root s p x true) s.box)
  append_child : {s : View} (p x y : ℕ) → Range m p → Reach s.cells (s.roots p) x → Reach s.cells (s.roots p) y → Move n m s (called s (add s.cells x y) s.roots s.box)
  protect : {s : View} (p x : ℕ) → Range m p → Range n x → Reach s.cells (s.roots p) x → s.roots p x ≡ false
      → Move n m s (called s (counts s.cells (more s.cells.sources x) s.cells.putoff) (root s p x true) s.box)
  un_protect : {s : View} (p x : ℕ) → Range m p → Range n x → s.roots p x ≡ true
      → Move n m s (called s (counts s.cells s.cells.sources (more s.cells.putoff x)) (root s p x false) s.box)
  send : {s : View} (p x r : ℕ) → Range m p → Range m r → Range n x → Reach s.cells (s.roots p) x → s.box p r ≡ 0
      → Move n m s (called s (counts s.cells (more s.cells.sources x) s.cells.putoff) s.roots (boxed s p r x))
  receive : {s : View} (p r x : ℕ) → Range m p → Range m r → Range n x → s.box r p ≡ x → s.roots p x ≡ false
      → Move n m s (called s s.cells (root s p x true) (boxed s r p 0))
  receive_again : {s : View} (p r x : ℕ) → Range m p → Range m r → Range n x → s.box r p ≡ x → s.roots p x ≡ true
      → Move n m s (called s (counts s.cells s.cells.sources (more s.cells.putoff x)) s.roots (boxed s r p 0))

-- the same where numbers past the table count as cells of round 0
pub record Starts (n : ℕ) (s : View) : Type 0 where
  pub all_white : (x : ℕ) → Is s.cells white x
  pub no_source : (x : ℕ) → s.cells.sources x ≡ 0
  pub no_putoff : (x : ℕ) → s.cells.putoff x ≡ 0
  pub rounds : (x : ℕ) → s.cells.round x ≤ s.cells.rnd
  pub rounds_in : (x : ℕ) → Range n x → s.cells.round x ≡ s.cells.rnd
  pub all_idle : (p : ℕ) → (s.workers p).label ≡ idle
  pub own : (p : ℕ) → (s.workers p).own ≡ 0
  pub no_root : (p x : ℕ) → s.roots p x ≡ false
  pub no_box : (p r : ℕ) → s.box p r ≡ 0
