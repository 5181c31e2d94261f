-- What reading a whole schedule answers. Assumes nothing.
use Rattle.std.specs.Prelude.{◌≡◌, ℕ, ◌+◌, ◌<◌, ◌⊎◌, List, [], ◌∷◌, ◌++◌, map, length, Some, None, Ok, Err, vec_items, Option, Result}
use Rattle.schedule.specs.declared.call.Call.{Call}
use Rattle.schedule.specs.declared.call.CallRecord.{CallRecord}
use Rattle.schedule.specs.declared.call.Opening.{Opening}
use Rattle.schedule.specs.declared.fault.Fault.{Fault}
use Rattle.schedule.specs.declared.fault.Fault.TheVariants.{Length}
use Rattle.schedule.specs.declared.fault.Placed.{Placed}
use Rattle.schedule.specs.declared.whole.Schedule.{Schedule}
use Rattle.schedule.specs.declared.whole.ReadError.{ReadError}
use Rattle.schedule.specs.declared.whole.ReadError.TheVariants.{Faulty, Memory}
use Rattle.schedule.specs.Calls.{worker, record_of, said, Writable}
use Rattle.schedule.specs.Format.{opening_bytes, records_bytes, schedule}
use Rattle.schedule.specs.Tests.{FailsFirst}
use Rattle.schedule.specs.Reading.{tests, Written}
use Rattle.schedule.specs.Progress.{Sized, placed}

-- every record can be written
abbrev pub AllWritable : List CallRecord → Type 0
AllWritable [] = Unit {0}
AllWritable (r ∷ rs) = Writable r × AllWritable rs

-- every call is as a schedule can hold it
abbrev pub AllWritten : List Call → Type 0
AllWritten [] = Unit {0}
AllWritten (c ∷ cs) = Written c × AllWritten cs

-- the worker of the last of the calls, or else `before`
abbrev pub last_worker : Option ℕ → List Call → Option ℕ
last_worker before [] = before
last_worker before (c ∷ cs) = last_worker (Some (worker c)) cs

-- the calls cs were read from bs, and the bytes `rest` are left
pub record ReadSoFar (bs : List ℕ) (o : Opening) (cs : List Call) (rest : List ℕ) : Type 0 where
  pub bytes : bs ≡ opening_bytes o ++ (records_bytes None (map record_of cs) ++ rest)
  pub written : AllWritten cs

-- reading stopped at the record after the calls cs: its first failing test gives the fault, its number
-- follows theirs, and its map byte stands where the bytes that are left begin
pub record StoppedAfter (bs : List ℕ) (o : Opening) (cs : List Call) (rest : List ℕ) (e : Placed Fault) : Type 0 where
  pub read : ReadSoFar bs o cs rest
  pub more : 0 < length rest
  pub why : FailsFirst (tests (last_worker None cs) rest) e.fault
  pub number : e.«record» ≡ length cs + 1
  pub place : e.byte + length rest ≡ length bs

-- the fault of a schedule and its place
abbrev pub FaultAt : List ℕ → Placed Fault → Type 0
FaultAt bs e =
    ((Sized bs → ⊥) × (e ≡ placed Length 0 0))
    ⊎ (Sized bs × ((o : Opening) × (cs : List Call) × (rest : List ℕ) × StoppedAfter bs o cs rest e))

-- what reading answers: the numbers and calls whose bytes these are, or the fault with its place
abbrev pub Reads : List ℕ → Result Schedule ReadError → Type 0
Reads bs (Ok s) = Sized bs × ReadSoFar bs s.opening (vec_items s.calls) []
Reads bs (Err (Faulty e)) = FaultAt bs e
Reads bs (Err Memory) = Unit {0}

-- the answer is these numbers and just the calls that these records say, unless memory ran out
abbrev pub ReadAs : Opening → List CallRecord → Result Schedule ReadError → Type 0
ReadAs o rs (Ok s) = (s.opening ≡ o) × (map said rs ≡ map Some (vec_items s.calls))
ReadAs o rs (Err (Faulty e)) = ⊥
ReadAs o rs (Err Memory) = Unit {0}

-- the bytes of any records that can be written read back as the calls that the records say
abbrev pub ReadsBack : List ℕ → Result Schedule ReadError → Type 0
ReadsBack bs r = (o : Opening) (rs : List CallRecord) → Sized bs → AllWritable rs → bs ≡ schedule o rs → ReadAs o rs r
