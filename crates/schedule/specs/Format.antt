-- Which bytes a schedule is: the one definition that reading and writing are held to. Assumes nothing.
use Rattle.std.specs.Prelude.{ℕ, ◌+◌, ◌*◌, ◌/◌, ◌%◌, Bool, true, false, cond, List, [], ◌∷◌, ◌++◌, Some, None, Option, ◌==◌, slice_index_or}
use Rattle.schedule.specs.declared.call.CallRecord.{CallRecord}
use Rattle.schedule.specs.declared.call.Children.{Children}
use Rattle.schedule.specs.declared.call.Opening.{Opening}
use Rattle.schedule.specs.declared.record.Fields.{Fields}
use Rattle.schedule.specs.Calls.{listed}

-- a byte's bit as a number: 1 where the field stands
abbrev pub bit : Bool → ℕ
bit b = cond b 1 0

-- the bytes of a field that may be absent
abbrev pub when : Bool → List ℕ → List ℕ
when true bs = bs
when false bs = []

-- the fields, in the order in which they follow the worker: cell, second, list, steps
abbrev pub fields_by : Bool → Bool → Bool → Bool → Fields
fields_by x y l n = record { cell = x; second = y; list = l; steps = n }

abbrev pub cell_alone : Fields
cell_alone = fields_by true false false false

abbrev pub cell_and_second : Fields
cell_and_second = fields_by true true false false

abbrev pub cell_and_list : Fields
cell_and_list = fields_by true false true false

abbrev pub second_alone : Fields
second_alone = fields_by false true false false

abbrev pub no_fields : Fields
no_fields = fields_by false false false false

abbrev pub steps_alone : Fields
steps_alone = fields_by false false false true

-- the fields of operations 1 to 11, in the order of their numbers
abbrev pub own_fields : ℕ → Fields
own_fields o =
    slice_index_or
    (no_fields
    ∷ cell_alone
    ∷ cell_and_second
    ∷ cell_and_second
    ∷ cell_and_list
    ∷ cell_alone
    ∷ cell_alone
    ∷ cell_and_second
    ∷ second_alone
    ∷ no_fields
    ∷ no_fields
    ∷ steps_alone
    ∷ [])
    o
    no_fields

-- the map byte: bit 1 for the operation, 2 worker, 4 cell, 8 second, 16 list, 32 steps
abbrev pub map_byte : Fields → Bool → ℕ
map_byte f given = 1 + 2 * bit given + 4 * bit f.cell + 8 * bit f.second + 16 * bit f.list + 32 * bit f.steps

-- a list: its count, then its cells
abbrev pub list_bytes : Children → List ℕ
list_bytes l = l.count ∷ listed l.count l.cells

-- a number of two bytes, high first
abbrev pub two_bytes : ℕ → List ℕ
two_bytes n = n / 256 ∷ n % 256 ∷ []

-- a number of four bytes, high first
abbrev pub four_bytes : ℕ → List ℕ
four_bytes n = n / 16777216 ∷ n / 65536 % 256 ∷ n / 256 % 256 ∷ n % 256 ∷ []

-- the bytes of those fields of a record that follow the worker
abbrev pub field_bytes : Fields → CallRecord → List ℕ
field_bytes f r = when f.cell (r.cell ∷ []) ++ (when f.second (r.second ∷ []) ++ (when f.list (list_bytes r.list) ++ when f.steps (two_bytes r.steps)))

-- whether a record's worker has to be given: it is not that of the record before
abbrev pub differs : Option ℕ → ℕ → Bool
differs None w = true
differs (Some v) w = cond (v == w) false true

-- the bytes of a record with its own fields, the worker among them or not
abbrev pub spelled : Bool → CallRecord → List ℕ
spelled given r = map_byte (own_fields r.operation) given ∷ r.operation ∷ (when given (r.worker ∷ []) ++ field_bytes (own_fields r.operation) r)

-- the bytes of a record that follows one of the worker `before`
abbrev pub record_bytes : Option ℕ → CallRecord → List ℕ
record_bytes before r = spelled (differs before r.worker) r

-- the bytes of records in a row
abbrev pub records_bytes : Option ℕ → List CallRecord → List ℕ
records_bytes before [] = []
records_bytes before (r ∷ rs) = record_bytes before r ++ records_bytes (Some r.worker) rs

-- the six bytes that a schedule begins with: cells, workers, first round
abbrev pub opening_bytes : Opening → List ℕ
opening_bytes o = o.cells ∷ o.workers ∷ four_bytes o.first_round

-- the bytes of a schedule
abbrev pub schedule : Opening → List CallRecord → List ℕ
schedule o rs = opening_bytes o ++ records_bytes None rs
