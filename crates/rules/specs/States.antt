-- What a store is, with its waiting lists told by what they hold. Assumes nothing.
use Rattle.std.specs.Prelude.{◌≡◌, ℕ, Bool, true, false, ◌⊎◌, List, replicate, ◌==◌, slice_index, slice_index_or, slice_set}
use Rattle.lists.specs.Sets.{Sets}
use Rattle.graph.specs.Nets.{Net, Within, Reached}
use Rattle.rules.specs.declared.cell.Cell.{Cell}
use Rattle.rules.specs.declared.worker.Worker.{Worker}
use Rattle.rules.specs.Cells.{no_cell, free, children, traced}
use Rattle.rules.specs.Workers.{label_number, no_worker, resting}

-- the tables of cells and workers by their numbers, how many of each there are, the round number, the
-- waiting sets, and the highest cell number that the waiting lists can carry
pub record State : Type 0 where
  pub cells : List Cell
  pub workers : List Worker
  pub ncells : ℕ
  pub nworkers : ℕ
  pub round : ℕ
  pub sets : Sets
  pub top : ℕ

abbrev pub cell : State → ℕ → Cell
cell s x = slice_index_or s.cells x no_cell

abbrev pub worker : State → ℕ → Worker
worker s p = slice_index_or s.workers p no_worker

abbrev pub with_cell : State → ℕ → Cell → State
with_cell s x c = record s { cells = slice_set s.cells x c }

abbrev pub with_worker : State → ℕ → Worker → State
with_worker s p w = record s { workers = slice_set s.workers p w }

abbrev pub with_sets : State → Sets → State
with_sets s t = record s { sets = t }

abbrev pub with_round : State → ℕ → State
with_round s n = record s { round = n }

-- a cell, a worker of the store
abbrev pub HasCell : State → ℕ → Type 0
HasCell s x = Within s.ncells x

abbrev pub HasWorker : State → ℕ → Type 0
HasWorker s p = Within s.nworkers p

abbrev pub idle : State → ℕ → Bool
idle s p = label_number (worker s p).label == 0

abbrev pub root : State → ℕ → ℕ → Bool
root s p x = slice_index_or (worker s p).roots x false

-- what the box from p to r holds
abbrev pub boxed : State → ℕ → ℕ → ℕ
boxed s p r = slice_index (worker s p).boxes r

abbrev pub children_of : State → Net
children_of s = children s.ncells s.cells

abbrev pub traced_of : State → Net
traced_of s = traced s.ncells s.cells

-- what the worker p reaches: a path of children leads there from a root of p
abbrev pub Reach : State → ℕ → ℕ → Type 0
Reach s p x = Reached (children_of s) (λ z. root s p z ≡ true) x

-- a root of some worker, or in some box
abbrev pub SourceOf : State → ℕ → Type 0
SourceOf s x = (p : ℕ) × (HasWorker s p × ((root s p x ≡ true) ⊎ ((r : ℕ) × (HasWorker s r × (boxed s p r ≡ x)))))

-- no set has a member
abbrev pub no_sets : Sets
no_sets _ _ _ = false

-- a newly opened store
abbrev pub opened : ℕ → ℕ → ℕ → ℕ → State
opened n w first top = record { cells = replicate 256 (free first); workers = replicate 9 resting; ncells = n; nworkers = w; round = first; sets = no_sets; top = top }
