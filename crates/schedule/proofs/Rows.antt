-- Tests in a row, and the records of a schedule in a row.
use Rattle.std.proofs.Common.{◌≡◌, ℕ, ◌+◌, List, [], ◌∷◌, ◌++◌, length, Some, Option, ap, ◌∙◌, inl, inr}
use Rattle.std.proofs.lemmas.List.{length-append}
use Rattle.schedule.specs.declared.call.CallRecord.{CallRecord}
use Rattle.schedule.specs.declared.fault.Fault.{Fault}
use Rattle.schedule.specs.Tests.{Test, Passes, FailsFirst}
use Rattle.schedule.specs.Calls.{by_numbers}
use Rattle.schedule.specs.Format.{record_bytes, records_bytes}
use Rattle.schedule.specs.Whole.{AllWritable}
use Rattle.schedule.specs.Writing.{records_tests}

pub passes_both : (ts us : List Test) → Passes ts → Passes us → Passes (ts ++ us)
passes_both [] us p q = q
passes_both (t ∷ ts) us p q = (p.0, passes_both ts us p.1 q)

pub fails_before : (ts us : List Test) (f : Fault) → FailsFirst ts f → FailsFirst (ts ++ us) f
fails_before [] us f h = absurd h
fails_before (t ∷ ts) us f (inl h) = inl h
fails_before (t ∷ ts) us f (inr h) = inr (h.0, fails_before ts us f h.1)

pub fails_after : (ts us : List Test) (f : Fault) → Passes ts → FailsFirst us f → FailsFirst (ts ++ us) f
fails_after [] us f p h = h
fails_after (t ∷ ts) us f p h = inr (p.0, fails_after ts us f p.1 h)

pub all_pass : (rs : List CallRecord) → AllWritable rs → Passes (records_tests rs)
all_pass [] ok = tt
all_pass (r ∷ rs) ok = (ok.0.0, (ok.0.1.0, all_pass rs ok.1))

pub pass_all : (rs : List CallRecord) → Passes (records_tests rs) → AllWritable rs
pass_all [] ok = tt
pass_all (r ∷ rs) ok = ((ok.0, (ok.1.0, tt)), pass_all rs ok.1.1)

-- what stands past the end of a slice of records
abbrev pub blank : CallRecord
blank = by_numbers 0 0 0 0 (record { count = 0; cells = [] }) 0

-- the length of what is left, with its first record split off
pub split_length : (before : Option ℕ) (left : List CallRecord) (r : CallRecord) (rs : List CallRecord) → left ≡ r ∷ rs
    → length (records_bytes before left) ≡ length (record_bytes before r) + length (records_bytes (Some r.worker) rs)
split_length before left r rs e = ap (λ (l : List CallRecord). length (records_bytes before l)) e ∙ length-append (record_bytes before r) (records_bytes (Some r.worker) rs)

-- the parts of what passes
pub passes_first : (ts us : List Test) → Passes (ts ++ us) → Passes ts
passes_first [] us p = tt
passes_first (t ∷ ts) us p = (p.0, passes_first ts us p.1)

pub passes_rest : (ts us : List Test) → Passes (ts ++ us) → Passes us
passes_rest [] us p = p
passes_rest (t ∷ ts) us p = passes_rest ts us p.1
