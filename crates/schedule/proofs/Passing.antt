-- The bytes of a record pass every test.
use Rattle.std.proofs.Common.{◌≡◌, ℕ, ◌/◌, ◌%◌, ◌≤◌, Bool, true, false, eqb, List, [], ◌∷◌, ◌++◌, Some, None, Option, sym, refl, ap, ◌∙◌, subst, inl, inr, append_assoc, arith}
use Rattle.std.proofs.lemmas.Bool.Decides.{nat_tests}
use Rattle.schedule.specs.declared.call.CallRecord.{CallRecord}
use Rattle.schedule.specs.declared.call.Children.{Children}
use Rattle.schedule.specs.declared.fault.Fault.{Fault}
use Rattle.schedule.specs.declared.record.Fields.{Fields}
use Rattle.schedule.specs.Tests.{Test, Passes, FailsFirst}
use Rattle.schedule.specs.Calls.{Writable, by_numbers}
use Rattle.schedule.specs.Format.{bit, when, own_fields, map_byte, field_bytes, record_bytes, differs}
use Rattle.schedule.specs.Reading.{Plain, gives_worker, tests}
use Rattle.schedule.specs.Parts.{Chosen, WorkerRead}
use Rattle.schedule.proofs.Fields.{fields_spelled}
use Rattle.schedule.proofs.Records.{list_of_make, no_both, same_worker, fits_in, third_is, make_count}

-- tests that are met do not fail
pub never_both : (ts : List Test) (f : Fault) → Passes ts → FailsFirst ts f → ⊥
never_both [] f p none = none
never_both (t ∷ ts) f p (inl h) = h.0 p.0
never_both (t ∷ ts) f p (inr h) = never_both ts f p.1 h.1

bit_small : (b : Bool) → bit b ≤ 1
bit_small true = omega arith
bit_small false = omega arith

module _ (f : Fields) (g : Bool) where
  map_plain : Plain (map_byte f g)
  map_plain =
      let a = bit_small g in let b = bit_small f.cell in let c = bit_small f.second in let d = bit_small f.list in let e = bit_small f.steps in
      (omega arith, omega arith)

  worker_bit : map_byte f g / 2 % 2 ≡ bit g
  worker_bit = let a = bit_small g in omega arith

bit_test : (g : Bool) → eqb (bit g) 1 ≡ g
bit_test true = refl
bit_test false = refl

pub gives_back : (f : Fields) (g : Bool) → gives_worker (map_byte f g) ≡ g
gives_back f g = ap (λ n. eqb n 1) (worker_bit f g) ∙ bit_test g

differs_true : (before : Option ℕ) (w : ℕ) → differs before w ≡ true → before ≡ Some w → ⊥
differs_true before w t e =
    let d : differs before w ≡ false = ap (λ b. differs b w) e ∙ sym (same_worker w w refl) in
    no_both (sym d ∙ t)

pub differs_false : (before : Option ℕ) (w : ℕ) → differs before w ≡ false → before ≡ Some w
differs_false None w e = no_both (sym e)
differs_false (Some v) w e = let q : v ≡ w = grind (arith, nat_tests) in ap Some q

pub few : (r : CallRecord) → Writable r → (own_fields r.operation).list ≡ true → r.list.count ≤ 8
few r ok has = (ok.1.0 (list_of_make r.operation ok.0 has)).1

-- the parts of a record that is spelled out, and that its bytes pass the tests
module _ (before : Option ℕ) (o w x y : ℕ) (l : Children) (n : ℕ) (t : List ℕ) (ok : Writable (by_numbers o w x y l n)) where
  abbrev r : CallRecord
  r = by_numbers o w x y l n

  abbrev f : Fields
  f = own_fields o

  abbrev g : Bool
  g = differs before w

  abbrev m : ℕ
  m = map_byte f g

  abbrev tail : List ℕ
  tail = field_bytes f r ++ t

  abbrev rest : List ℕ
  rest = (when g (w ∷ []) ++ field_bytes f r) ++ t

  chosen : Chosen before m (o ∷ rest) f
  chosen = record {
    own = refl;
    plain = map_plain f g;
    present = omega arith;
    known = ok.0;
    fits = (ap (map_byte f) (sym (gives_back f g)), λ e. gives_back f g ∙ ap (λ b. differs b w) e);
  }

  worker_read : WorkerRead before m rest w tail
  worker_read = (
    append_assoc (when g (w ∷ [])) (field_bytes f r) t ∙ ap (λ b. when b (w ∷ []) ++ tail) (sym (gives_back f g)),
    λ e. differs_false before w (sym (gives_back f g) ∙ e),
  )

  passes_spelled : Passes (tests before (record_bytes before r ++ t))
  passes_spelled =
      let read = fields_spelled f r t (few r ok) in (
        chosen.plain,
        (
          omega arith,
          (
            ok.0,
            (
              chosen.fits,
              (
                fits_in before m o w (o ∷ rest) rest tail f chosen refl worker_read r t read,
                (
                  (λ h. differs_true before w (sym (gives_back f g) ∙ h.0) (h.1 ∙ ap Some (third_is before m o w (o ∷ rest) rest tail f chosen refl worker_read h.0))),
                  (
                    (λ four. let c = make_count before m o w (o ∷ rest) rest tail f chosen refl worker_read r t read four in
                        let k = ok.1.0 four in
                        (omega (arith, c, k.0), omega (arith, c, k.1))),
                    tt,
                  ),
                ),
              ),
            ),
          ),
        ),
      )

pub passes : (before : Option ℕ) (r : CallRecord) (bs t : List ℕ) → Writable r → bs ≡ record_bytes before r ++ t → Passes (tests before bs)
passes before r bs t ok e =
    let P : List ℕ → Type 0 = λ b. Passes (tests before b) in
    subst P (sym e) (passes_spelled before r.operation r.worker r.cell r.second r.list r.steps t ok)
