-- What was read is written back, and what was written is read back.
use Rattle.std.proofs.Common.{◌≡◌, ℕ, ◌+◌, ◌≤◌, List, [], ◌∷◌, ◌++◌, map, length, take, drop, None, Ok, Err, vec_items, Result, sym, ap, ◌∙◌, append-nil, arith}
use Rattle.std.proofs.lemmas.List.{take_at}
use Rattle.schedule.specs.declared.call.Call.{Call}
use Rattle.schedule.specs.declared.call.CallRecord.{CallRecord}
use Rattle.schedule.specs.declared.call.Opening.{Opening}
use Rattle.schedule.specs.declared.fault.Fault.{Fault}
use Rattle.schedule.specs.declared.whole.Schedule.{Schedule}
use Rattle.schedule.specs.declared.whole.ReadError.{ReadError}
use Rattle.schedule.specs.Tests.{Passes}
use Rattle.schedule.specs.Calls.{record_of}
use Rattle.schedule.specs.Format.{opening_bytes, records_bytes, schedule}
use Rattle.schedule.specs.Strip.{put}
use Rattle.schedule.specs.Whole.{AllWritable, AllWritten, Reads}
use Rattle.schedule.specs.Writing.{records_tests, write_tests, Writes, WrittenReadsBack, WrittenBack}
use Rattle.schedule.proofs.Back.{reads_back}
use Rattle.schedule.proofs.Passing.{never_both}
use Rattle.schedule.proofs.Rows.{passes_both, passes_first, passes_rest, all_pass, pass_all}

-- the calls that were read can be written
writable : (cs : List Call) → AllWritten cs → AllWritable (map record_of cs)
writable [] ok = tt
writable (c ∷ cs) ok = (ok.0.0, writable cs ok.1)

pub tests_pass : (o : Opening) (rs : List CallRecord) (room : ℕ) → AllWritable rs → length (schedule o rs) ≤ 4096 → length (schedule o rs) ≤ room → Passes (write_tests o rs room)
tests_pass o rs room ok short fits = passes_both (records_tests rs) _ (all_pass rs ok) (short, (fits, tt))

take_put : (n : ℕ) (bs old : List ℕ) → n ≡ length bs → take n (put 0 bs old) ≡ bs
unfolding put
take_put n bs old e = take_at bs (drop (0 + length bs) old) n (sym e)

pub written_reads_back : (o : Opening) (rs : List CallRecord) (old new : List ℕ) (r : Result ℕ Fault) → Writes o rs old r new → WrittenReadsBack o rs r new
written_reads_back o rs old new (Ok n) h =
    let bytes : take n new ≡ schedule o rs = ap (take n) h.2 ∙ take_put n (schedule o rs) old h.1 in
    let ends = passes_rest (records_tests rs) _ h.0 in
    let size : length (take n new) ≡ length (schedule o rs) = ap length bytes in
    λ a reads.
    reads_back (take n new) a reads o rs (omega (arith, size), omega (arith, size, ends.0)) (pass_all rs (passes_first (records_tests rs) _ h.0)) bytes
written_reads_back o rs old new (Err f) h = tt

-- writing what passes its tests cannot be refused
same_written : (bs old new : List ℕ) (o : Opening) (rs : List CallRecord) (r : Result ℕ Fault) → Passes (write_tests o rs (length old)) → bs ≡ schedule o rs → Writes o rs old r new
    → (r ≡ Ok (length bs)) × (new ≡ put 0 bs old)
same_written bs old new o rs (Ok n) pass bytes w = (ap Ok (w.1 ∙ sym (ap length bytes)), w.2 ∙ ap (λ (l : List ℕ). put 0 l old) (sym bytes))
same_written bs old new o rs (Err f) pass bytes w = absurd (never_both (write_tests o rs (length old)) f pass w.0)

pub written_back : (bs : List ℕ) (r : Result Schedule ReadError) → Reads bs r → WrittenBack bs r
written_back bs (Err e) h = tt
written_back bs (Ok s) h = λ old new r room w.
    let o = s.opening in
    let rs = map record_of (vec_items s.calls) in
    let bytes : bs ≡ schedule o rs = h.1.bytes ∙ ap (λ (l : List ℕ). opening_bytes o ++ l) (append-nil (records_bytes None rs)) in
    let size : length bs ≡ length (schedule o rs) = ap length bytes in
    let pass = tests_pass o rs (length old) (writable (vec_items s.calls) h.1.written) (omega (arith, size, h.0.1)) (omega (arith, size, room)) in
    same_written bs old new o rs r pass bytes w
