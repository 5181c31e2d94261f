-- The bytes of a record are the bytes of no other call.
use Rattle.std.proofs.Common.{◌≡◌, ℕ, ◌/◌, ◌%◌, ◌≤◌, Bool, true, false, List, [], ◌∷◌, ◌++◌, length, get_or, take, drop, replicate, Option, sym, refl, ap, ◌∙◌, subst, append_assoc, arith}
use Rattle.std.proofs.lemmas.List.{take_at, drop_at}
use Rattle.schedule.specs.declared.call.CallRecord.{CallRecord}
use Rattle.schedule.specs.declared.call.Children.{Children}
use Rattle.schedule.specs.declared.record.Fields.{Fields}
use Rattle.schedule.specs.Operations.{Known}
use Rattle.schedule.specs.Calls.{Writable, said, by_numbers, tidy, listed}
use Rattle.schedule.specs.Format.{when, own_fields, field_bytes, list_bytes, two_bytes, record_bytes, differs}
use Rattle.schedule.specs.Reading.{gives_worker}
use Rattle.schedule.proofs.Padded.{length-listed}
use Rattle.schedule.proofs.Records.{by_operation, no_both}
use Rattle.schedule.proofs.Fields.{fields_apart}
use Rattle.schedule.proofs.Passing.{gives_back, differs_false, few}

-- peeling one field off two equal rows of bytes
peel_byte : (b : Bool) (x y : ℕ) (p q : List ℕ) → when b (x ∷ []) ++ p ≡ when b (y ∷ []) ++ q → (b ≡ true → x ≡ y) × (p ≡ q)
peel_byte true x y p q e = ((λ _. cc), cc)
peel_byte false x y p q e = ((λ h. no_both h), e)

peel_two : (b : Bool) (m n : ℕ) (p q : List ℕ) → when b (two_bytes m) ++ p ≡ when b (two_bytes n) ++ q → (b ≡ true → m ≡ n) × (p ≡ q)
peel_two true m n p q e =
    let h : m / 256 ≡ n / 256 = cc in
    let l : m % 256 ≡ n % 256 = cc in
    ((λ _. omega arith), cc)
peel_two false m n p q e = ((λ h. no_both h), e)

append_same : (a b p q : List ℕ) → length a ≡ length b → a ++ p ≡ b ++ q → (a ≡ b) × (p ≡ q)
append_same a b p q l e = (
  sym (take_at a p (length a) refl) ∙ ap (take (length a)) e ∙ take_at b q (length a) (sym l),
  sym (drop_at a p (length a) refl) ∙ ap (drop (length a)) e ∙ drop_at b q (length a) (sym l),
)

abbrev SameList : Children → Children → Type 0
SameList k l = (k.count ≡ l.count) × (listed k.count k.cells ≡ listed l.count l.cells)

peel_list : (b : Bool) (k l : Children) (p q : List ℕ) → (b ≡ true → k.count ≤ 8) → (b ≡ true → l.count ≤ 8) → when b (list_bytes k) ++ p ≡ when b (list_bytes l) ++ q
    → (b ≡ true → SameList k l) × (p ≡ q)
peel_list true k l p q a b e =
    let n : k.count ≡ l.count = cc in
    let rest : listed k.count k.cells ++ p ≡ listed l.count l.cells ++ q = cc in
    let both = append_same (listed k.count k.cells) (listed l.count l.cells) p q (length-listed k.count k.cells (a refl) ∙ n ∙ sym (length-listed l.count l.cells (b refl))) rest in
    ((λ _. (n, both.0)), both.1)
peel_list false k l p q a b e = ((λ h. no_both h), e)

abbrev from_cells : ℕ → List ℕ → Children
from_cells n xs = record { count = n; cells = take 8 (xs ++ replicate 8 0) }

same_tidy : (k l : Children) → SameList k l → tidy k ≡ tidy l
same_tidy k l e =
    ap (λ n. from_cells n (listed k.count k.cells)) e.0 ∙ ap (from_cells l.count) e.1

-- records with the same fields say the same call
abbrev SaysSame : ℕ → Type 0
SaysSame o =
    (w x y : ℕ) (k : Children) (m : ℕ) (v x' y' : ℕ) (l : Children) (n : ℕ)
    → w ≡ v
    → ((own_fields o).cell ≡ true → x ≡ x')
    → ((own_fields o).second ≡ true → y ≡ y')
    → ((own_fields o).list ≡ true → SameList k l)
    → ((own_fields o).steps ≡ true → m ≡ n)
    → said (by_numbers o w x y k m) ≡ said (by_numbers o v x' y' l n)

says_same : (o : ℕ) → Known o → SaysSame o
says_same =
    by_operation SaysSame
    (λ w x y k m v x' y' l n a b c d e. let p = b refl in cc)
    (λ w x y k m v x' y' l n a b c d e. let p = b refl in let q = c refl in cc)
    (λ w x y k m v x' y' l n a b c d e. let p = b refl in let q = c refl in cc)
    (λ w x y k m v x' y' l n a b c d e. let p = b refl in let q = same_tidy k l (d refl) in cc)
    (λ w x y k m v x' y' l n a b c d e. let p = b refl in cc)
    (λ w x y k m v x' y' l n a b c d e. let p = b refl in cc)
    (λ w x y k m v x' y' l n a b c d e. let p = b refl in let q = c refl in cc)
    (λ w x y k m v x' y' l n a b c d e. let q = c refl in cc)
    (λ w x y k m v x' y' l n a b c d e. cc)
    (λ w x y k m v x' y' l n a b c d e. cc)
    (λ w x y k m v x' y' l n a b c d e. let p = e refl in cc)

same_name : (before : Option ℕ) (g : Bool) (w v : ℕ) → differs before w ≡ g → differs before v ≡ g → (g ≡ true → w ≡ v) → w ≡ v
same_name before true w v a b h = h refl
same_name before false w v a b h = let p = differs_false before w a in let q = differs_false before v b in cc

-- two records of one operation that begin the same bytes
module _ (before : Option ℕ) (o w x y : ℕ) (k : Children) (m : ℕ) (v x' y' : ℕ) (l : Children) (n : ℕ) (t u : List ℕ)
    (ok : Writable (by_numbers o w x y k m)) (ok' : Writable (by_numbers o v x' y' l n))
    (e : record_bytes before (by_numbers o w x y k m) ++ t ≡ record_bytes before (by_numbers o v x' y' l n) ++ u) where
  abbrev r : CallRecord
  r = by_numbers o w x y k m

  abbrev s : CallRecord
  s = by_numbers o v x' y' l n

  abbrev f : Fields
  f = own_fields o

  same_given : differs before w ≡ differs before v
  same_given = sym (gives_back f (differs before w)) ∙ ap (λ (b : List ℕ). gives_worker (get_or b 0 0)) e ∙ gives_back f (differs before v)

  after_operation : when (differs before w) (w ∷ []) ++ (field_bytes f r ++ t) ≡ when (differs before w) (v ∷ []) ++ (field_bytes f s ++ u)
  after_operation =
      sym (append_assoc (when (differs before w) (w ∷ [])) (field_bytes f r) t)
      ∙ ap (drop 2) e
      ∙ append_assoc (when (differs before v) (v ∷ [])) (field_bytes f s) u
      ∙ ap (λ b. when b (v ∷ []) ++ (field_bytes f s ++ u)) (sym same_given)

  one_operation : (said r ≡ said s) × (w ≡ v) × (t ≡ u)
  one_operation =
      let p = peel_byte (differs before w) w v _ _ after_operation in
      let name = same_name before (differs before w) w v refl (sym same_given) p.0 in
      let a = peel_byte f.cell x x' _ _ (sym (fields_apart f r t) ∙ p.1 ∙ fields_apart f s u) in
      let b = peel_byte f.second y y' _ _ a.1 in
      let c = peel_list f.list k l _ _ (few r ok) (few s ok') b.1 in
      let d = peel_two f.steps m n t u c.1 in
      (says_same o ok.0 w x y k m v x' y' l n name a.0 b.0 c.0 d.0, name, d.1)

-- two records that begin the same bytes say the same call
pub one_record : (before : Option ℕ) (r s : CallRecord) (t u : List ℕ) → Writable r → Writable s → record_bytes before r ++ t ≡ record_bytes before s ++ u
    → (said r ≡ said s) × (r.worker ≡ s.worker) × (t ≡ u)
one_record before r s t u ok ok' e =
    let P : ℕ → Type 0 = λ o.
    Writable (by_numbers o r.worker r.cell r.second r.list r.steps)
    → record_bytes before (by_numbers o r.worker r.cell r.second r.list r.steps) ++ t ≡ record_bytes before s ++ u
    → (said (by_numbers o r.worker r.cell r.second r.list r.steps) ≡ said s) × (r.worker ≡ s.worker) × (t ≡ u) in
    let same : r.operation ≡ s.operation = ap (λ (b : List ℕ). get_or b 1 0) e in
    subst P (sym same)
    (λ ok e. one_operation before s.operation r.worker r.cell r.second r.list r.steps s.worker s.cell s.second s.list s.steps t u ok ok' e)
    ok e
