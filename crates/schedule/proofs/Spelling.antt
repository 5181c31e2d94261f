-- The bytes of a record, from its parts.
use Rattle.std.proofs.Common.{◌≡◌, ℕ, ◌/◌, ◌%◌, ◌^◌, ◌<◌, ◌≤◌, min, Bool, true, false, List, [], ◌∷◌, ◌++◌, length, take, Option, sym, refl, ap, ◌∙◌, arith}
use Rattle.schedule.specs.declared.call.CallRecord.{CallRecord}
use Rattle.schedule.specs.declared.record.Fields.{Fields}
use Rattle.schedule.specs.Calls.{listed, Writable}
use Rattle.schedule.specs.Format.{when, own_fields, map_byte, two_bytes, list_bytes, field_bytes, differs, record_bytes}
use Rattle.schedule.proofs.Padded.{listed_within}
use Rattle.schedule.proofs.Passing.{few}

-- a number of two bytes, as `to_be_bytes` has it
pub two : (n : ℕ) (bs : List ℕ) → n < 2 ^ 16 → bs ≡ (n / 256 % 256) ∷ (n % 256) ∷ [] → bs ≡ two_bytes n
two n bs h e = let top : n / 256 % 256 ≡ n / 256 = omega arith in e ∙ ap (λ k. k ∷ (n % 256) ∷ []) top

-- the cells that a list names, as `as_slice` has them
named : (n : ℕ) (xs : List ℕ) → length xs ≡ 8 → n ≤ 8 → take (min 8 n) xs ≡ listed n xs
named n xs len h = let k : min 8 n ≡ n = omega arith in ap (λ i. take i xs) k ∙ sym (listed_within n xs (omega arith))

-- a list's count, and its cells after it
counted : (b : Bool) (n : ℕ) (xs ys tail : List ℕ) → (b ≡ true → xs ≡ ys) → when b (n ∷ []) ++ (when b xs ++ tail) ≡ when b (n ∷ ys) ++ tail
counted true n xs ys tail e = ap (λ (l : List ℕ). n ∷ (l ++ tail)) (e refl)
counted false n xs ys tail e = refl

module _ (before : Option ℕ) (r : CallRecord) (f : Fields) (g : Bool) (own : f ≡ own_fields r.operation) (given : g ≡ differs before r.worker) (ok : Writable r) (eight : length r.list.cells ≡ 8) where
  cells : f.list ≡ true → take (min 8 r.list.count) r.list.cells ≡ listed r.list.count r.list.cells
  cells has = named r.list.count r.list.cells eight (few r ok (ap (λ (k : Fields). k.list) (sym own) ∙ has))

  -- the parts in the order in which they are written
  pub spelt : (m : ℕ) (xs steps : List ℕ) → m ≡ map_byte f g → xs ≡ take (min 8 r.list.count) r.list.cells → steps ≡ two_bytes r.steps
      → (m ∷ r.operation ∷ [])
      ++ (when g (r.worker ∷ []) ++ (when f.cell (r.cell ∷ []) ++ (when f.second (r.second ∷ []) ++ (when f.list (r.list.count ∷ []) ++ (when f.list xs ++ when f.steps steps)))))
      ≡ record_bytes before r
  spelt m xs steps e x n =
      ap (λ (l : List ℕ). m ∷ r.operation ∷ (when g (r.worker ∷ []) ++ (when f.cell (r.cell ∷ []) ++ (when f.second (r.second ∷ []) ++ l))))
      (counted f.list r.list.count xs (listed r.list.count r.list.cells) (when f.steps steps) (λ has. x ∙ cells has))
      ∙ ap (λ (l : List ℕ). m ∷ r.operation ∷ (when g (r.worker ∷ []) ++ (when f.cell (r.cell ∷ []) ++ (when f.second (r.second ∷ []) ++ (when f.list (list_bytes r.list) ++ when f.steps l))))) n
      ∙ ap (λ k. k ∷ r.operation ∷ (when g (r.worker ∷ []) ++ field_bytes f r)) e
      ∙ ap (λ (k : Fields). map_byte k g ∷ r.operation ∷ (when g (r.worker ∷ []) ++ field_bytes k r)) own
      ∙ ap (λ b. map_byte (own_fields r.operation) b ∷ r.operation ∷ (when b (r.worker ∷ []) ++ field_bytes (own_fields r.operation) r)) given
