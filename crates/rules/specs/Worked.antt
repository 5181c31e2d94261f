-- A worked example: three cells, two workers, and two collections after which all three cells are free. Assumes nothing.
use Rattle.std.specs.Prelude.{◌≡◌, ℕ, true, List, [], ◌∷◌, Ok, Err}
use Rattle.rules.specs.declared.cell.Colour.TheVariants.{White}
use Rattle.rules.specs.declared.refusal.Refusal.TheVariants.{OutsideReach}
use Rattle.rules.specs.States.{State, cell, HasCell}
use Rattle.rules.specs.Laws.{Event, create, add_child, unprotect, send, begin, run, Moment, History}

-- the calls before the collections, the newest first: worker 1 makes cells 1 and 2, joins them and lets both go; worker 2 may not send cell 2
abbrev pub made_and_left : List Event
made_and_left =
    unprotect 1 1 (Ok tt)
    ∷ send 2 2 1 (Err OutsideReach)
    ∷ unprotect 1 2 (Ok tt)
    ∷ add_child 1 1 2 (Ok true)
    ∷ create 1 2 (Ok 2)
    ∷ create 1 1 (Ok 1)
    ∷ []

-- then two collections of so many steps
abbrev pub worked : ℕ → ℕ → List Event
worked first second = run 2 1000 (Ok second) ∷ begin 2 (Ok tt) ∷ run 2 1000 (Ok first) ∷ begin 2 (Ok tt) ∷ made_and_left

-- these calls may have these answers, and then the round number is 3 and every cell is free
pub record WorkedExample (first second : ℕ) : Type 0 where
  pub moments : List Moment
  pub store : State
  pub history : History (worked first second) moments store
  pub cells : store.ncells ≡ 3
  pub round : store.round ≡ 3
  pub free : (x : ℕ) → HasCell store x → (cell store x).colour ≡ White
