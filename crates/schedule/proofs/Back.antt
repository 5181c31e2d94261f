-- A whole schedule has one reading.
use Rattle.std.proofs.Common.{◌≡◌, ℕ, ◌/◌, ◌%◌, ◌<◌, List, [], ◌∷◌, ◌++◌, map, length, get_or, drop, Some, None, Ok, Err, vec_items, Option, Result, sym, refl, ap, ◌∙◌, inl, inr, append_assoc, arith}
use Rattle.std.proofs.lemmas.List.{length-append}
use Rattle.schedule.specs.declared.call.Call.{Call}
use Rattle.schedule.specs.declared.call.CallRecord.{CallRecord}
use Rattle.schedule.specs.declared.call.Opening.{Opening}
use Rattle.schedule.specs.declared.fault.Fault.{Fault}
use Rattle.schedule.specs.declared.whole.Schedule.{Schedule}
use Rattle.schedule.specs.declared.whole.ReadError.{ReadError}
use Rattle.schedule.specs.declared.whole.ReadError.TheVariants.{Faulty, Memory}
use Rattle.schedule.specs.Calls.{worker, record_of, said, Writable}
use Rattle.schedule.specs.Format.{opening_bytes, record_bytes, records_bytes}
use Rattle.schedule.specs.Tests.{FailsFirst}
use Rattle.schedule.specs.Reading.{tests}
use Rattle.schedule.specs.Whole.{AllWritable, AllWritten, last_worker, Reads, ReadsBack}
use Rattle.schedule.proofs.Sofar.{worker_of_record}
use Rattle.schedule.proofs.Passing.{never_both, passes}
use Rattle.schedule.proofs.Unique.{one_record}

not_empty : (b : Option ℕ) (r : CallRecord) (t : List ℕ) → [] ≡ record_bytes b r ++ t → ⊥
not_empty b r t e = omega (arith, ap length e, length-append (record_bytes b r) t)

-- what begins records and calls that begin the same bytes
heads : (b : Option ℕ) (r : CallRecord) (c : Call) (t u v : List ℕ) → Writable r → Writable (record_of c) → record_bytes b r ++ t ≡ (record_bytes b (record_of c) ++ u) ++ v
    → (said r ≡ said (record_of c)) × (r.worker ≡ worker c) × (t ≡ u ++ v)
heads b r c t u v ok ok' e =
    let one = one_record b r (record_of c) t (u ++ v) ok ok' (e ∙ append_assoc (record_bytes b (record_of c)) u v) in
    (one.0, one.1 ∙ worker_of_record c, one.2)

-- the records and the calls that have the same bytes say the same
same_calls : (b : Option ℕ) (rs : List CallRecord) (cs : List Call) → AllWritable rs → AllWritten cs → records_bytes b rs ≡ records_bytes b (map record_of cs) ++ [] → map said rs ≡ map Some cs
same_calls b [] [] ok read e = refl
same_calls b [] (c ∷ cs) ok read e =
    absurd (not_empty b (record_of c) _ (e ∙ append_assoc (record_bytes b (record_of c)) (records_bytes (Some (record_of c).worker) (map record_of cs)) []))
same_calls b (r ∷ rs) [] ok read e = absurd (not_empty b r _ (sym e))
same_calls b (r ∷ rs) (c ∷ cs) ok read e =
    let h = heads b r c (records_bytes (Some r.worker) rs) (records_bytes (Some (record_of c).worker) (map record_of cs)) [] ok.0 read.0.0 e in
    let rest = same_calls (Some (worker c)) rs cs ok.1 read.1
    (ap (λ w. records_bytes (Some w) rs) (sym h.1) ∙ h.2 ∙ ap (λ w. records_bytes (Some w) (map record_of cs) ++ []) (worker_of_record c)) in
    let first : said r ≡ Some c = h.0 ∙ read.0.1 in
    cc

-- records that can be written have no fault
no_fault : (b : Option ℕ) (rs : List CallRecord) (cs : List Call) (rest : List ℕ) (f : Fault) → AllWritable rs → AllWritten cs
    → records_bytes b rs ≡ records_bytes b (map record_of cs) ++ rest → 0 < length rest → FailsFirst (tests (last_worker b cs) rest) f → ⊥
no_fault b [] [] rest f ok read e some why = omega (arith, ap length e)
no_fault b (r ∷ rs) [] rest f ok read e some why = never_both (tests b rest) f (passes b r rest (records_bytes (Some r.worker) rs) ok.0 (sym e)) why
no_fault b [] (c ∷ cs) rest f ok read e some why =
    not_empty b (record_of c) _ (e ∙ append_assoc (record_bytes b (record_of c)) (records_bytes (Some (record_of c).worker) (map record_of cs)) rest)
no_fault b (r ∷ rs) (c ∷ cs) rest f ok read e some why =
    let h = heads b r c (records_bytes (Some r.worker) rs) (records_bytes (Some (record_of c).worker) (map record_of cs)) rest ok.0 read.0.0 e in
    no_fault (Some (worker c)) rs cs rest f ok.1 read.1
    (ap (λ w. records_bytes (Some w) rs) (sym h.1) ∙ h.2 ∙ ap (λ w. records_bytes (Some w) (map record_of cs) ++ rest) (worker_of_record c))
    some why

same_numbers : (o p : Opening) → o.cells ≡ p.cells → o.workers ≡ p.workers → o.first_round ≡ p.first_round → o ≡ p
same_numbers o p a b n =
    ap (λ k. record o { cells = k }) a
    ∙ ap (λ k. record o { cells = p.cells; workers = k }) b
    ∙ ap (λ k. record p { first_round = k }) n

-- the opening numbers that begin the same bytes
same_opening : (o p : Opening) (t u : List ℕ) → opening_bytes o ++ t ≡ opening_bytes p ++ u → (o ≡ p) × (t ≡ u)
same_opening o p t u e =
    let a : o.cells ≡ p.cells = ap (λ (l : List ℕ). get_or l 0 0) e in
    let b : o.workers ≡ p.workers = ap (λ (l : List ℕ). get_or l 1 0) e in
    let c : o.first_round / 16777216 ≡ p.first_round / 16777216 = ap (λ (l : List ℕ). get_or l 2 0) e in
    let d : o.first_round / 65536 % 256 ≡ p.first_round / 65536 % 256 = ap (λ (l : List ℕ). get_or l 3 0) e in
    let f : o.first_round / 256 % 256 ≡ p.first_round / 256 % 256 = ap (λ (l : List ℕ). get_or l 4 0) e in
    let g : o.first_round % 256 ≡ p.first_round % 256 = ap (λ (l : List ℕ). get_or l 5 0) e in
    (same_numbers o p a b (omega arith), ap (drop 6) e)

pub reads_back : (bs : List ℕ) (r : Result Schedule ReadError) → Reads bs r → ReadsBack bs r
reads_back bs (Ok s) h o rs sized ok e =
    let both = same_opening s.opening o _ _ (sym h.1.bytes ∙ e) in
    (both.0, same_calls None rs (vec_items s.calls) ok h.1.written (sym both.1))
reads_back bs (Err Memory) h o rs sized ok e = tt
reads_back bs (Err (Faulty p)) (inl h) o rs sized ok e = h.0 sized
reads_back bs (Err (Faulty p)) (inr (fine, (q, cs, rest, stop))) o rs sized ok e =
    no_fault None rs cs rest p.fault ok stop.read.written (sym (same_opening q o _ _ (sym stop.read.bytes ∙ e)).1) stop.more stop.why
