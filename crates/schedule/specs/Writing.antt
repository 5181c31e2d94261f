-- What writing a schedule answers, and what it leaves in the strip. Assumes nothing.
use Rattle.std.specs.Prelude.{◌≡◌, ℕ, ◌≤◌, List, [], ◌∷◌, ◌++◌, map, length, take, Ok, Err, vec_items, Result}
use Rattle.schedule.specs.declared.call.CallRecord.{CallRecord}
use Rattle.schedule.specs.declared.call.Opening.{Opening}
use Rattle.schedule.specs.declared.fault.Fault.{Fault}
use Rattle.schedule.specs.declared.fault.Fault.TheVariants.{ShortStrip, Length}
use Rattle.schedule.specs.declared.whole.Schedule.{Schedule}
use Rattle.schedule.specs.declared.whole.ReadError.{ReadError}
use Rattle.schedule.specs.Tests.{Test, test, Passes, FailsFirst}
use Rattle.schedule.specs.Calls.{record_of, record_tests}
use Rattle.schedule.specs.Format.{schedule}
use Rattle.schedule.specs.Strip.{put}
use Rattle.schedule.specs.Whole.{Reads, ReadAs}

-- the tests of records in a row: those of the first, then those of the next
abbrev pub records_tests : List CallRecord → List Test
records_tests [] = []
records_tests (r ∷ rs) = record_tests r ++ records_tests rs

-- the tests of a schedule that is to be written into a strip of so many bytes, in their order
abbrev pub write_tests : Opening → List CallRecord → ℕ → List Test
write_tests o rs room =
    records_tests rs ++ (test Length (length (schedule o rs) ≤ 4096) ∷ test ShortStrip (length (schedule o rs) ≤ room) ∷ [])

-- what writing answers and leaves: the schedule's length with its bytes in front of the strip, or the
-- fault of the first test that fails with the strip as it was
abbrev pub Writes : Opening → List CallRecord → List ℕ → Result ℕ Fault → List ℕ → Type 0
Writes o rs old (Ok n) new = Passes (write_tests o rs (length old)) × (n ≡ length (schedule o rs)) × (new ≡ put 0 (schedule o rs) old)
Writes o rs old (Err f) new = FailsFirst (write_tests o rs (length old)) f × (new ≡ old)

-- whatever reading answers of the bytes that were written, it is these numbers and calls
abbrev pub WrittenReadsBack : Opening → List CallRecord → Result ℕ Fault → List ℕ → Type 0
WrittenReadsBack o rs (Ok n) new = (a : Result Schedule ReadError) → Reads (take n new) a → ReadAs o rs a
WrittenReadsBack o rs (Err f) new = Unit {0}

-- accepted bytes are written back the same, into any strip that has room for them
abbrev pub WrittenBack : List ℕ → Result Schedule ReadError → Type 0
WrittenBack bs (Ok s) =
    (old new : List ℕ) (r : Result ℕ Fault) → length bs ≤ length old → Writes s.opening (map record_of (vec_items s.calls)) old r new → (r ≡ Ok (length bs)) × (new ≡ put 0 bs old)
WrittenBack bs (Err e) = Unit {0}
