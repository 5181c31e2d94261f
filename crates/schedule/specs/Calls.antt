-- The eleven calls and the records that say them by numbers. Assumes nothing.
use Rattle.std.specs.Prelude.{◌≡◌, ℕ, ◌≤◌, List, [], ◌∷◌, ◌++◌, take, replicate, Some, None, Ok, Err, Option, Result, slice_index_or}
use Rattle.schedule.specs.declared.fault.Fault.{Fault}
use Rattle.schedule.specs.declared.fault.Fault.TheVariants.{UnknownOperation, ListCount}
use Rattle.schedule.specs.declared.call.Call.{Call}
use Rattle.schedule.specs.declared.call.Call.TheVariants.{Create, AddChild, GetChild, Make, Protect, UnProtect, Send, Receive, Begin, Step, Run}
use Rattle.schedule.specs.declared.call.CallRecord.{CallRecord}
use Rattle.schedule.specs.declared.call.Children.{Children}
use Rattle.schedule.specs.declared.operation.Operation.{Operation}
use Rattle.schedule.specs.declared.operation.Operation.TheVariants as Op
use Rattle.schedule.specs.Operations.{Known}
use Rattle.schedule.specs.Tests.{Test, test, Passes, FailsFirst}

-- the operation of a call
abbrev pub operation : Call → Operation
operation (Create w x) = Op.Create
operation (AddChild w x y) = Op.AddChild
operation (GetChild w x j) = Op.GetChild
operation (Make w x l) = Op.Make
operation (Protect w x) = Op.Protect
operation (UnProtect w x) = Op.UnProtect
operation (Send w x r) = Op.Send
operation (Receive w r) = Op.Receive
operation (Begin w) = Op.Begin
operation (Step w) = Op.Step
operation (Run w n) = Op.Run

-- the worker that makes the call
abbrev pub worker : Call → ℕ
worker (Create w x) = w
worker (AddChild w x y) = w
worker (GetChild w x j) = w
worker (Make w x l) = w
worker (Protect w x) = w
worker (UnProtect w x) = w
worker (Send w x r) = w
worker (Receive w r) = w
worker (Begin w) = w
worker (Step w) = w
worker (Run w n) = w

-- the first n cells of a list in eight places; a place that xs does not have counts as 0
abbrev pub listed : ℕ → List ℕ → List ℕ
listed n xs = take n (xs ++ replicate 8 0)

-- those cells, and then 0s
abbrev pub padded : ℕ → List ℕ → List ℕ
padded n xs = listed n xs ++ replicate 8 0

-- a list that says n: the first n of xs in its eight places, and 0 in those past them
abbrev pub children : ℕ → List ℕ → Children
children n xs = record { count = n; cells = take 8 (padded n xs) }

-- the same list with 0 past its count, so that two lists of the same cells are equal
abbrev pub tidy : Children → Children
tidy l = children l.count l.cells

abbrev pub no_list : Children
no_list = record { count = 0; cells = replicate 8 0 }

-- a record by its numbers in the order of the fields
abbrev pub by_numbers : ℕ → ℕ → ℕ → ℕ → Children → ℕ → CallRecord
by_numbers o w x y l n = record { operation = o; worker = w; cell = x; second = y; list = l; steps = n }

-- the record of a call: what the call does not have is 0
abbrev pub record_of : Call → CallRecord
record_of (Create w x) = by_numbers 1 w x 0 no_list 0
record_of (AddChild w x y) = by_numbers 2 w x y no_list 0
record_of (GetChild w x j) = by_numbers 3 w x j no_list 0
record_of (Make w x l) = by_numbers 4 w x 0 l 0
record_of (Protect w x) = by_numbers 5 w x 0 no_list 0
record_of (UnProtect w x) = by_numbers 6 w x 0 no_list 0
record_of (Send w x r) = by_numbers 7 w x r no_list 0
record_of (Receive w r) = by_numbers 8 w 0 r no_list 0
record_of (Begin w) = by_numbers 9 w 0 0 no_list 0
record_of (Step w) = by_numbers 10 w 0 0 no_list 0
record_of (Run w n) = by_numbers 11 w 0 0 no_list n

-- the call that a record says, if its operation is one of the eleven
abbrev pub said : CallRecord → Option Call
said r =
    slice_index_or
    (None
    ∷ Some (Create r.worker r.cell)
    ∷ Some (AddChild r.worker r.cell r.second)
    ∷ Some (GetChild r.worker r.cell r.second)
    ∷ Some (Make r.worker r.cell (tidy r.list))
    ∷ Some (Protect r.worker r.cell)
    ∷ Some (UnProtect r.worker r.cell)
    ∷ Some (Send r.worker r.cell r.second)
    ∷ Some (Receive r.worker r.second)
    ∷ Some (Begin r.worker)
    ∷ Some (Step r.worker)
    ∷ Some (Run r.worker r.steps)
    ∷ [])
    r.operation
    None

-- a list of one to eight cells
abbrev pub Counted : Children → Type 0
Counted l = (1 ≤ l.count) × (l.count ≤ 8)

-- the tests of a record that is to be written: its operation, then the count of a Make's list
abbrev pub record_tests : CallRecord → List Test
record_tests r = test UnknownOperation (Known r.operation) ∷ test ListCount (r.operation ≡ 4 → Counted r.list) ∷ []

-- a record that can be written
abbrev pub Writable : CallRecord → Type 0
Writable r = Passes (record_tests r)

-- the call that a record says, or the fault of the first test that it does not pass
abbrev pub Says : CallRecord → Result Call Fault → Type 0
Says r (Ok c) = Writable r × (said r ≡ Some c)
Says r (Err f) = FailsFirst (record_tests r) f
