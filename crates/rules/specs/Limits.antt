-- The limits of the counts, the stacks and the rounds. Assumes nothing.
use Rattle.std.specs.Prelude.{ℕ, ◌≤◌}
use Rattle.rules.specs.States.{cell, worker, HasCell, HasWorker}
use Rattle.rules.specs.Laws.{Moment}

-- no source count passes the limit, and no more is put off than there are sources
abbrev pub CountsWithin : ℕ → Moment → Type 0
CountsWithin limit m =
    (x : ℕ) → HasCell m.store x
    → ((cell m.store x).sources ≤ limit) × ((cell m.store x).putoff ≤ (cell m.store x).sources)

-- no cell has more children, now or when it was scanned
abbrev pub ChildrenWithin : ℕ → Moment → Type 0
ChildrenWithin limit m =
    (x : ℕ) → HasCell m.store x
    → ((cell m.store x).arity ≤ limit) × ((cell m.store x).first ≤ limit)

-- no stack is deeper than there are cells
abbrev pub StacksFit : Moment → Type 0
StacksFit m = (p : ℕ) → HasWorker m.store p → (worker m.store p).depth ≤ m.store.ncells

-- the round number, the cells' rounds and the workers' own rounds do not pass the limit
abbrev pub RoundsWithin : ℕ → Moment → Type 0
RoundsWithin limit m =
    (m.store.round ≤ limit)
    × ((x : ℕ) → HasCell m.store x → (cell m.store x).round ≤ limit)
    × ((p : ℕ) → HasWorker m.store p → (worker m.store p).own ≤ limit)
