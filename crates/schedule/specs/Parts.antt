-- What the readers of a record's parts promise one another. Assumes nothing.
use Rattle.std.specs.Prelude.{◌≡◌, ℕ, ◌+◌, ◌<◌, ◌≤◌, true, false, List, [], ◌∷◌, ◌++◌, length, Some, MatchResult, Option, Result, slice_index}
use Rattle.std.specs.Borrow.{Bor}
use Rattle.schedule.specs.declared.fault.Fault.{Fault}
use Rattle.schedule.specs.declared.fault.Fault.TheVariants.{PastEnd}
use Rattle.schedule.specs.declared.call.CallRecord.{CallRecord}
use Rattle.schedule.specs.declared.call.Children.{Children}
use Rattle.schedule.specs.declared.record.Fields.{Fields}
use Rattle.schedule.specs.Operations.{Known}
use Rattle.schedule.specs.Format.{bit, when, list_bytes, own_fields, field_bytes}
use Rattle.schedule.specs.Reading.{Plain, Fits, span, gives_worker}

-- a part was taken from the front of bs, as P says of it and the bytes after it; or bs has fewer bytes than it asks for
abbrev pub Takes : {T : Type 0} → List ℕ → ℕ → (T → List ℕ → Type 0) → Result (T × Bor (List ℕ)) Fault → Type 0
Takes bs asks P r = MatchResult r (λ p. P p.0 p.1.now) (λ f. (f ≡ PastEnd) × (length bs < asks))

-- how many bytes a list asks for
abbrev pub list_span : List ℕ → ℕ
list_span bs = 1 + slice_index bs 0

-- a list was read: its count is the first byte, and one of at most eight is there whole
pub record ListRead (bs : List ℕ) (l : Children) (rest : List ℕ) : Type 0 where
  pub counted : l.count ≡ slice_index bs 0
  pub there : length bs ≡ list_span bs + length rest
  pub whole : l.count ≤ 8 → bs ≡ list_bytes l ++ rest

-- the fields after the worker were read
pub record FieldsRead (f : Fields) (o w : ℕ) (bs : List ℕ) (r : CallRecord) (rest : List ℕ) : Type 0 where
  pub by_operation : r.operation ≡ o
  pub by_worker : r.worker ≡ w
  pub counted : f.list ≡ true → r.list.count ≡ slice_index bs (bit f.cell + bit f.second)
  pub there : span f bs ≤ length bs
  pub whole : (f.list ≡ true → r.list.count ≤ 8) → bs ≡ field_bytes f r ++ rest

-- the map passed its tests, and these are the fields that it has
pub record Chosen (before : Option ℕ) (m : ℕ) (after : List ℕ) (f : Fields) : Type 0 where
  pub own : f ≡ own_fields (slice_index after 0)
  pub plain : Plain m
  pub present : 1 ≤ length after
  pub known : Known (slice_index after 0)
  pub fits : Fits before (slice_index after 0) m

-- the worker was read, or it is that of the record before
abbrev pub WorkerRead : Option ℕ → ℕ → List ℕ → ℕ → List ℕ → Type 0
WorkerRead before m bs w rest = (bs ≡ when (gives_worker m) (w ∷ []) ++ rest) × (gives_worker m ≡ false → before ≡ Some w)
