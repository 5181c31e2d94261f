-- What holds of a reader after some calls: the invariant of reading a whole schedule.
use Rattle.std.proofs.Common.{◌≡◌, ℕ, ◌+◌, ◌<◌, List, [], ◌∷◌, ◌++◌, map, length, Some, None, Ok, Option, Result, sym, refl, ap, ◌∙◌, subst, append_assoc, append-nil, arith, Err, inr}
use Rattle.std.proofs.lemmas.List.{length-append, length_push}
use Rattle.schedule.specs.declared.call.Call.{Call}
use Rattle.schedule.specs.declared.call.Call.TheVariants.{Create, AddChild, GetChild, Make, Protect, UnProtect, Send, Receive, Begin, Step, Run}
use Rattle.schedule.specs.declared.call.Opening.{Opening}
use Rattle.schedule.specs.declared.fault.Fault.{Fault}
use Rattle.schedule.specs.declared.fault.Placed.{Placed}
use Rattle.schedule.specs.Calls.{worker, record_of}
use Rattle.schedule.specs.Format.{opening_bytes, record_bytes, records_bytes}
use Rattle.schedule.specs.Reading.{Written, tests}
use Rattle.schedule.specs.Progress.{Progress, Sized, Goes, AdvancesFrom, Advances, Onward}
use Rattle.schedule.specs.Whole.{AllWritten, last_worker, ReadSoFar, FaultAt}
use Rattle.schedule.specs.Tests.{FailsFirst}
use Rattle.schedule.proofs.Advance.{less}

pub record At (bs : List ℕ) (o : Opening) (p : Progress) (cs : List Call) : Type 0 where
  pub sized : Sized bs
  pub opens : p.opening ≡ Some o
  pub read : ReadSoFar bs o cs p.rest
  pub latest : p.before ≡ last_worker None cs
  pub many : p.records ≡ length cs
  pub place : p.place + length p.rest ≡ length bs

-- with the opening numbers at hand the next record is read
gone : (p q : Progress) (o : Opening) (r : Result (Option Call) (Placed Fault)) → p.opening ≡ Some o → Advances p q r → Goes p q r
gone p q o r e h = let P : Option Opening → Type 0 = λ x. AdvancesFrom x p q r in subst P e h

six : (o : Opening) (rest : List ℕ) → length (opening_bytes o ++ rest) ≡ 6 + length rest
six o rest = omega (arith, length-append (opening_bytes o) rest)

all_push : (cs : List Call) (c : Call) → AllWritten cs → Written c → AllWritten (cs ++ c ∷ [])
all_push [] c a g = (g, tt)
all_push (d ∷ cs) c a g = (a.0, all_push cs c a.1 g)

last_push : (b : Option ℕ) (cs : List Call) (c : Call) → last_worker b (cs ++ c ∷ []) ≡ Some (worker c)
last_push b [] c = refl
last_push b (d ∷ cs) c = last_push (Some (worker d)) cs c

-- a call and its record have one worker
pub worker_of_record : (c : Call) → (record_of c).worker ≡ worker c
worker_of_record (Create w x) = refl
worker_of_record (AddChild w x y) = refl
worker_of_record (GetChild w x j) = refl
worker_of_record (Make w x l) = refl
worker_of_record (Protect w x) = refl
worker_of_record (UnProtect w x) = refl
worker_of_record (Send w x r) = refl
worker_of_record (Receive w r) = refl
worker_of_record (Begin w) = refl
worker_of_record (Step w) = refl
worker_of_record (Run w n) = refl

pub bytes_push : (b : Option ℕ) (cs : List Call) (c : Call)
    → records_bytes b (map record_of (cs ++ c ∷ [])) ≡ records_bytes b (map record_of cs) ++ record_bytes (last_worker b cs) (record_of c)
bytes_push b [] c = append-nil (record_bytes b (record_of c))
bytes_push b (d ∷ cs) c =
    ap (λ w. record_bytes b (record_of d) ++ records_bytes (Some w) (map record_of (cs ++ c ∷ []))) (worker_of_record d)
    ∙ ap (λ (l : List ℕ). record_bytes b (record_of d) ++ l) (bytes_push (Some (worker d)) cs c)
    ∙ sym (append_assoc (record_bytes b (record_of d)) (records_bytes (Some (worker d)) (map record_of cs)) (record_bytes (last_worker (Some (worker d)) cs) (record_of c)))
    ∙ ap (λ w. (record_bytes b (record_of d) ++ records_bytes (Some w) (map record_of cs)) ++ record_bytes (last_worker (Some (worker d)) cs) (record_of c)) (sym (worker_of_record d))

-- one call more
pub at_next : (bs : List ℕ) (o : Opening) (p q : Progress) (cs : List Call) (c : Call) → At bs o p cs → Advances p q (Ok (Some c)) → At bs o q (cs ++ c ∷ [])
at_next bs o p q cs c a h =
    let on : Onward p q c = gone p q o (Ok (Some c)) a.opens h in
    let old = records_bytes None (map record_of cs) in
    let new = record_bytes (last_worker None cs) (record_of c) in
    record {
      sized = a.sized;
      opens = on.same_opening ∙ a.opens;
      read = record {
        bytes =
            a.read.bytes
            ∙ ap (λ (l : List ℕ). opening_bytes o ++ (old ++ l)) (on.read.1 ∙ ap (λ b. record_bytes b (record_of c) ++ q.rest) a.latest)
            ∙ ap (λ (l : List ℕ). opening_bytes o ++ l) (sym (append_assoc old new q.rest) ∙ ap (λ (l : List ℕ). l ++ q.rest) (sym (bytes_push None cs c)));
        written = all_push cs c a.read.written on.read.0;
      };
      latest = on.latest ∙ sym (last_push None cs c);
      many = on.one_more ∙ ap (λ n. n + 1) a.many ∙ sym (length_push cs c);
      place = on.further ∙ a.place;
    }

-- nothing is left
pub at_end : (bs : List ℕ) (o : Opening) (p q : Progress) (cs : List Call) → At bs o p cs → Advances p q (Ok None) → Sized bs × ReadSoFar bs o cs []
at_end bs o p q cs a h =
    let done = gone p q o (Ok None) a.opens h in
    let P : List ℕ → Type 0 = λ l. ReadSoFar bs o cs l in
    (a.sized, subst P done.0 a.read)

-- a record is refused
pub at_fault : (bs : List ℕ) (o : Opening) (p q : Progress) (cs : List Call) (e : Placed Fault) → At bs o p cs → Advances p q (Err e) → FaultAt bs e
at_fault bs o p q cs e a h =
    let stop = gone p q o (Err e) a.opens h in
    let P : Option ℕ → Type 0 = λ b. FailsFirst (tests b p.rest) e.fault in
    inr (
      a.sized,
      (
        o,
        cs,
        p.rest,
        record {
          read = a.read;
          more = stop.more;
          why = subst P a.latest stop.why;
          number = stop.number ∙ ap (λ n. n + 1) a.many;
          place = ap (λ n. n + length p.rest) stop.place ∙ a.place;
        },
      ),
    )

-- a call that was read leaves fewer bytes to read
pub falls : (p q : Progress) (c : Call) → Advances p q (Ok (Some c)) → length q.rest < length p.rest
falls p q c h = by_opening p.opening h where
  by_opening : (x : Option Opening) → AdvancesFrom x p q (Ok (Some c)) → length q.rest < length p.rest
  by_opening (Some o) on = omega (arith, less p.before p.rest c q.rest on.read)
  by_opening None e = let k = e.0 in let z : ◌≡◌ {A = ℕ} 0 1 = cc in absurd (omega arith)
