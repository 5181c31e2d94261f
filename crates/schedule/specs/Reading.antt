-- When a record is refused, and what reading a schedule answers. Assumes nothing.
use Rattle.std.specs.Prelude.{◌≡◌, ℕ, ◌+◌, ◌*◌, ◌/◌, ◌%◌, ◌<◌, ◌≤◌, Bool, true, cond, List, [], ◌∷◌, ◌++◌, length, drop, Some, None, Option, ◌==◌, slice_index}
use Rattle.schedule.specs.declared.fault.Fault.TheVariants.{PastEnd, UnknownOperation, WrongMap, ListCount}
use Rattle.schedule.specs.declared.record.Fields.{Fields}
use Rattle.schedule.specs.Tests.{Test, test}
use Rattle.schedule.specs.declared.call.Call.{Call}
use Rattle.schedule.specs.Operations.{Known}
use Rattle.schedule.specs.Calls.{Writable, record_of, said}
use Rattle.schedule.specs.Format.{bit, own_fields, map_byte, record_bytes}

-- the operation's bit stands, and the two top bits do not
abbrev pub Plain : ℕ → Type 0
Plain m = (m % 2 ≡ 1) × (m < 64)

-- whether a map's bit for the worker stands
abbrev pub gives_worker : ℕ → Bool
gives_worker m = m / 2 % 2 == 1

-- the map is that of operation o, with or without the worker; the first record gives its worker
abbrev pub Fits : Option ℕ → ℕ → ℕ → Type 0
Fits before o m = (m ≡ map_byte (own_fields o) (gives_worker m)) × (before ≡ None → gives_worker m ≡ true)

-- how many bytes the map, the operation and the worker take
abbrev pub lead : ℕ → ℕ
lead m = 2 + bit (gives_worker m)

-- how many bytes the fields f ask for, where the bytes from the first field on are bs
abbrev pub span : Fields → List ℕ → ℕ
span f bs = bit f.cell + bit f.second + cond f.list (1 + slice_index bs (bit f.cell + bit f.second)) 0 + 2 * bit f.steps

-- how many bytes the record that bs begins with asks for
abbrev pub size : List ℕ → ℕ
size bs = lead (slice_index bs 0) + span (own_fields (slice_index bs 1)) (drop (lead (slice_index bs 0)) bs)

-- the worker is given, and it is that of the record before
abbrev pub Needless : Option ℕ → List ℕ → Type 0
Needless before bs = (gives_worker (slice_index bs 0) ≡ true) × (before ≡ Some (slice_index bs 2))

-- the count that a Make's list says: it stands after the cell
abbrev pub said_count : List ℕ → ℕ
said_count bs = slice_index bs (lead (slice_index bs 0) + 1)

-- the tests of a record, in their order, of the bytes from its map byte on
abbrev pub tests : Option ℕ → List ℕ → List Test
tests before bs =
    test WrongMap (Plain (slice_index bs 0))
    ∷ test PastEnd (2 ≤ length bs)
    ∷ test UnknownOperation (Known (slice_index bs 1))
    ∷ test WrongMap (Fits before (slice_index bs 1) (slice_index bs 0))
    ∷ test PastEnd (size bs ≤ length bs)
    ∷ test WrongMap (Needless before bs → ⊥)
    ∷ test ListCount (slice_index bs 1 ≡ 4 → (1 ≤ said_count bs) × (said_count bs ≤ 8))
    ∷ []

-- a call as a schedule can hold it: its record can be written and says the call itself
abbrev pub Written : Call → Type 0
Written c = Writable (record_of c) × (said (record_of c) ≡ Some c)

-- a record was read: its bytes are those of the call, and the rest
abbrev pub RecordRead : Option ℕ → List ℕ → Call → List ℕ → Type 0
RecordRead before bs c rest = Written c × (bs ≡ record_bytes before (record_of c) ++ rest)
