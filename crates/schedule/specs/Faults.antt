-- The number of each fault, and how a fault is written with its place. Assumes nothing.
use Rattle.std.specs.Prelude.{ℕ, List, ◌++◌, codes, decimal}
use Rattle.schedule.specs.declared.fault.Fault.{Fault}
use Rattle.schedule.specs.declared.fault.Fault.TheVariants.{ShortStrip, Length, PastEnd, UnknownOperation, WrongMap, ListCount}
use Rattle.schedule.specs.declared.fault.Placed.{Placed}

-- the number that a fault is known by
abbrev pub number : Fault → ℕ
number ShortStrip = 19
number Length = 20
number PastEnd = 21
number UnknownOperation = 22
number WrongMap = 23
number ListCount = 24

-- a fault by its number, with the place where it came up
abbrev pub placed_words : Placed Fault → List ℕ
placed_words p = codes "fault " ++ (decimal (number p.fault) ++ (codes " record " ++ (decimal p.«record» ++ (codes " byte " ++ decimal p.byte))))
