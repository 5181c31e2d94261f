-- A row of tests that are tried in order, each with the fault that it gives where it fails. Assumes nothing.
use Rattle.std.specs.Prelude.{◌≡◌, ◌⊎◌, List, [], ◌∷◌}
use Rattle.schedule.specs.declared.fault.Fault.{Fault}

-- what is asked, and the fault where it does not hold
pub record Test : Type 1 where
  pub fault : Fault
  pub asks : Type 0

abbrev pub test : Fault → Type 0 → Test
test f P = record { fault = f; asks = P }

-- every test is met
abbrev pub Passes : List Test → Type 0
Passes [] = Unit {0}
Passes (t ∷ ts) = t.asks × Passes ts

-- the first test that is not met has the fault f
abbrev pub FailsFirst : List Test → Fault → Type 0
FailsFirst [] f = ⊥
FailsFirst (t ∷ ts) f = ((t.asks → ⊥) × (f ≡ t.fault)) ⊎ (t.asks × FailsFirst ts f)
