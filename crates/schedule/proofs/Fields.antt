-- The fields of a record, one after another.
use Rattle.std.proofs.Common.{◌≡◌, ℕ, ◌+◌, ◌*◌, ◌≤◌, Bool, true, false, cond, List, [], ◌∷◌, ◌++◌, length, get_or, sym, refl, ap, ◌∙◌, append_assoc, arith}
use Rattle.std.proofs.lemmas.List.{length-append}
use Rattle.schedule.specs.declared.call.CallRecord.{CallRecord}
use Rattle.schedule.specs.declared.call.Children.{Children}
use Rattle.schedule.specs.declared.record.Fields.{Fields}
use Rattle.schedule.specs.Format.{bit, when, two_bytes, list_bytes, field_bytes}
use Rattle.schedule.specs.Parts.{FieldsRead}
use Rattle.schedule.proofs.Padded.{length-listed}

pub length-one : (b : Bool) (x : ℕ) → length (when b (x ∷ [])) ≡ bit b
length-one true x = refl
length-one false x = refl

pub length-number : (b : Bool) (n : ℕ) → length (when b (two_bytes n)) ≡ 2 * bit b
length-number true n = refl
length-number false n = refl

length-list : (b : Bool) (l : Children) (n : ℕ) → (b ≡ true → l.count ≡ n) → (b ≡ true → l.count ≤ 8) → length (when b (list_bytes l)) ≡ cond b (1 + n) 0
length-list true l n e h = omega (arith, length-listed l.count l.cells (h refl), e refl)
length-list false l n e h = refl

-- past two fields of one byte that may be absent
past_two : (b c : Bool) (x y : ℕ) (tail : List ℕ) → get_or (when b (x ∷ []) ++ (when c (y ∷ []) ++ tail)) (bit b + bit c) 0 ≡ get_or tail 0 0
past_two true true x y tail = refl
past_two true false x y tail = refl
past_two false true x y tail = refl
past_two false false x y tail = refl

first_of_list : (b : Bool) (l : Children) (tail : List ℕ) → b ≡ true → l.count ≡ get_or (when b (list_bytes l) ++ tail) 0 0
first_of_list true l tail e = refl
first_of_list false l tail e = let z : ◌≡◌ {A = ℕ} 0 1 = cc in absurd (omega arith)

pub fields_apart : (f : Fields) (r : CallRecord) (t : List ℕ)
    → field_bytes f r ++ t ≡ when f.cell (r.cell ∷ []) ++ (when f.second (r.second ∷ []) ++ (when f.list (list_bytes r.list) ++ (when f.steps (two_bytes r.steps) ++ t)))
fields_apart f r t = simp append_assoc

-- the fields of a record are read from its bytes
pub fields_spelled : (f : Fields) (r : CallRecord) (t : List ℕ) → (f.list ≡ true → r.list.count ≤ 8) → FieldsRead f r.operation r.worker (field_bytes f r ++ t) r t
fields_spelled f r t few =
    let x = when f.cell (r.cell ∷ []) in
    let y = when f.second (r.second ∷ []) in
    let l = when f.list (list_bytes r.list) in
    let n = when f.steps (two_bytes r.steps) in
    let counted : f.list ≡ true → r.list.count ≡ get_or (field_bytes f r ++ t) (bit f.cell + bit f.second) 0 =
    λ has.
    first_of_list f.list r.list (n ++ t) has
    ∙ sym (past_two f.cell f.second r.cell r.second (l ++ (n ++ t)))
    ∙ ap (λ (bs : List ℕ). get_or bs (bit f.cell + bit f.second) 0) (sym (fields_apart f r t)) in
    record {
      by_operation = refl;
      by_worker = refl;
      counted = counted;
      there = omega (
        arith,
        length-append (field_bytes f r) t,
        length-append x (y ++ (l ++ n)),
        length-append y (l ++ n),
        length-append l n,
        length-one f.cell r.cell,
        length-one f.second r.second,
        length-list f.list r.list _ counted few,
        length-number f.steps r.steps,
      );
      whole = λ _. refl;
    }
