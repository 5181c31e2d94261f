-- How reading a schedule goes on from call to call. Assumes nothing.
use Rattle.std.specs.Prelude.{◌≡◌, ℕ, ◌+◌, ◌<◌, ◌≤◌, List, [], ◌++◌, length, Some, None, Ok, Err, Option, Result}
use Rattle.schedule.specs.declared.call.Call.{Call}
use Rattle.schedule.specs.declared.call.Opening.{Opening}
use Rattle.schedule.specs.declared.fault.Fault.{Fault}
use Rattle.schedule.specs.declared.fault.Fault.TheVariants.{Length}
use Rattle.schedule.specs.declared.fault.Placed.{Placed}
use Rattle.schedule.specs.Calls.{worker}
use Rattle.schedule.specs.Format.{opening_bytes}
use Rattle.schedule.specs.Tests.{FailsFirst}
use Rattle.schedule.specs.Reading.{tests, RecordRead}

-- where reading stands: the opening numbers, the bytes still to be read, the worker of the record
-- before, how many records were read, and the place of the next record's map byte
pub record Progress : Type 0 where
  pub opening : Option Opening
  pub rest : List ℕ
  pub before : Option ℕ
  pub records : ℕ
  pub place : ℕ

-- a fault with its place
abbrev pub placed : Fault → ℕ → ℕ → Placed Fault
placed f n at = record { fault = f; «record» = n; byte = at }

-- a schedule has 6 to 4,096 bytes
abbrev pub Sized : List ℕ → Type 0
Sized bs = (6 ≤ length bs) × (length bs ≤ 4096)

-- the opening numbers are read where the length is right, and no record yet
abbrev pub Opens : List ℕ → Option Opening → List ℕ → Type 0
Opens bs (Some o) rest = Sized bs × (bs ≡ opening_bytes o ++ rest)
Opens bs None rest = Sized bs → ⊥

pub record Begun (bs : List ℕ) (p : Progress) : Type 0 where
  pub opens : Opens bs p.opening p.rest
  pub first : p.before ≡ None
  pub none : p.records ≡ 0
  pub sixth : p.place ≡ 6

-- the opening numbers, or the fault of a schedule that is too short or too long
abbrev pub opening_or_fault : Option Opening → Result Opening (Placed Fault)
opening_or_fault (Some o) = Ok o
opening_or_fault None = Err (placed Length 0 0)

-- one call was read
pub record Onward (p q : Progress) (c : Call) : Type 0 where
  pub same_opening : q.opening ≡ p.opening
  pub read : RecordRead p.before p.rest c q.rest
  pub latest : q.before ≡ Some (worker c)
  pub one_more : q.records ≡ p.records + 1
  pub further : q.place + length q.rest ≡ p.place + length p.rest

-- a record was refused: its first failing test gives the fault, and the reader stays
pub record Stopped (p q : Progress) (e : Placed Fault) : Type 0 where
  pub stays : q ≡ p
  pub more : 0 < length p.rest
  pub why : FailsFirst (tests p.before p.rest) e.fault
  pub number : e.«record» ≡ p.records + 1
  pub place : e.byte ≡ p.place

-- what the next call is, and where reading then stands
abbrev pub Goes : Progress → Progress → Result (Option Call) (Placed Fault) → Type 0
Goes p q (Ok None) = (p.rest ≡ []) × (q ≡ p)
Goes p q (Ok (Some c)) = Onward p q c
Goes p q (Err e) = Stopped p q e

abbrev pub AdvancesFrom : Option Opening → Progress → Progress → Result (Option Call) (Placed Fault) → Type 0
AdvancesFrom (Some o) p q r = Goes p q r
AdvancesFrom None p q r = (r ≡ Err (placed Length 0 0)) × (q ≡ p)

-- a schedule of the wrong length has no call to read
abbrev pub Advances : Progress → Progress → Result (Option Call) (Placed Fault) → Type 0
Advances p q r = AdvancesFrom p.opening p q r
