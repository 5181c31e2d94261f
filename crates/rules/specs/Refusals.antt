-- The number of each refusal. Assumes nothing.
use Rattle.std.specs.Prelude.{ℕ}
use Rattle.rules.specs.declared.refusal.Refusal.{Refusal}
use Rattle.rules.specs.declared.refusal.Refusal.TheVariants.{Cells, Workers, FirstRound, NoWorker, NotIdle, Idle, ListLength, NoCell, OutsideReach, NotWhite, AlreadyRoot, NotRoot, BoxFull, BoxEmpty, SourcesFull, LastRound}

-- the number that a refusal is known by
abbrev pub number : Refusal → ℕ
number Cells = 1
number Workers = 2
number FirstRound = 3
number NoWorker = 4
number NotIdle = 5
number Idle = 6
number ListLength = 7
number NoCell = 8
number OutsideReach = 9
number NotWhite = 10
number AlreadyRoot = 11
number NotRoot = 12
number BoxFull = 13
number BoxEmpty = 14
number SourcesFull = 15
number LastRound = 16
