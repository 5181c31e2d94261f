-- The eleven operations and their numbers. Assumes nothing.
use Rattle.std.specs.Prelude.{◌≡◌, ℕ, ◌≤◌, Ok, Err, Result}
use Rattle.schedule.specs.declared.fault.Fault.{Fault}
use Rattle.schedule.specs.declared.fault.Fault.TheVariants.{UnknownOperation}
use Rattle.schedule.specs.declared.operation.Operation.{Operation}
use Rattle.schedule.specs.declared.operation.Operation.TheVariants.{Create, AddChild, GetChild, Make, Protect, UnProtect, Send, Receive, Begin, Step, Run}

-- the number that an operation is known by
abbrev pub number : Operation → ℕ
number Create = 1
number AddChild = 2
number GetChild = 3
number Make = 4
number Protect = 5
number UnProtect = 6
number Send = 7
number Receive = 8
number Begin = 9
number Step = 10
number Run = 11

-- the number of one of them
abbrev pub Known : ℕ → Type 0
Known o = (1 ≤ o) × (o ≤ 11)

-- the operation of a number, or the fault of a number that is none of theirs
abbrev pub Names : ℕ → Result Operation Fault → Type 0
Names n (Ok o) = number o ≡ n
Names n (Err f) = (f ≡ UnknownOperation) × (Known n → ⊥)
