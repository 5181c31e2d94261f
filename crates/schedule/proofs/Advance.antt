-- How a reader goes on.
use Rattle.std.proofs.Common.{◌≡◌, ℕ, ◌+◌, ◌-◌, ◌≤◌, List, ◌∷◌, ◌++◌, length, get_or, take, drop, Some, None, Ok, Option, Result, sym, ap, ◌∙◌, subst, arith}
use Rattle.std.proofs.lemmas.List.{length-append}
use Rattle.schedule.specs.declared.call.Call.{Call}
use Rattle.schedule.specs.declared.call.CallRecord.{CallRecord}
use Rattle.schedule.specs.declared.call.Opening.{Opening}
use Rattle.schedule.specs.declared.fault.Fault.{Fault}
use Rattle.schedule.specs.declared.fault.Placed.{Placed}
use Rattle.schedule.specs.Calls.{record_of}
use Rattle.schedule.specs.Format.{record_bytes}
use Rattle.schedule.specs.Tests.{FailsFirst}
use Rattle.schedule.specs.Reading.{tests, RecordRead}
use Rattle.schedule.specs.Progress.{Progress, opening_or_fault, Goes, AdvancesFrom, Advances}
use Rattle.schedule.proofs.Slices.{first_one}

pub opened : (x : Option Opening) (o : Opening) → Ok o ≡ opening_or_fault x → x ≡ Some o
opened (Some a) o e = cc
opened None o e = let z : ◌≡◌ {A = ℕ} 0 1 = cc in absurd (omega arith)

-- with the opening numbers at hand the next record is read
pub goes : (p q : Progress) (o : Opening) (r : Result (Option Call) (Placed Fault)) → Ok o ≡ opening_or_fault p.opening → Goes p q r → Advances p q r
goes p q o r e h = let P : Option Opening → Type 0 = λ x. AdvancesFrom x p q r in subst P (sym (opened p.opening o e)) h

-- a record has two bytes at least
pub shorter : (before : Option ℕ) (bs rest : List ℕ) (r : CallRecord) → bs ≡ record_bytes before r ++ rest → 2 + length rest ≤ length bs
shorter before bs rest r e = omega (arith, ap length e, length-append (record_bytes before r) rest)

pub record_read : (before : Option ℕ) (bs : List ℕ) (c : Call) (rest : List ℕ) → 1 ≤ length bs
    → RecordRead before (get_or bs 0 0 ∷ take (length bs - 1) (drop 1 bs)) c rest → RecordRead before bs c rest
record_read before bs c rest h r = (r.0, first_one bs h ∙ r.1)

pub less : (before : Option ℕ) (bs : List ℕ) (c : Call) (rest : List ℕ) → RecordRead before bs c rest → 2 + length rest ≤ length bs
less before bs c rest r = shorter before bs rest (record_of c) r.1

pub why_at : (before : Option ℕ) (bs : List ℕ) (f : Fault) → 1 ≤ length bs
    → FailsFirst (tests before (get_or bs 0 0 ∷ take (length bs - 1) (drop 1 bs))) f → FailsFirst (tests before bs) f
why_at before bs f h w = let P : List ℕ → Type 0 = λ l. FailsFirst (tests before l) f in subst P (sym (first_one bs h)) w
