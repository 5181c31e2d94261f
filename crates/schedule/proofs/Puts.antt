-- Bytes written into a strip, one row after another.
use Rattle.std.proofs.Common.{◌≡◌, ℕ, ◌+◌, ◌≤◌, List, [], ◌++◌, length, take, drop, sym, ap, ◌∙◌, append_assoc, arith}
use Rattle.std.proofs.lemmas.List.{length-append, length-take-le, length-drop, take_at, drop_at, drop-drop, take-append-drop}
use borrow.Rule.Slice.PartMut.{put_mid}
use Rattle.schedule.specs.Strip.{put}

pub put_nothing : (at : ℕ) (old : List ℕ) → put at [] old ≡ old
unfolding put
put_nothing at old = let z : at + 0 ≡ at = omega arith in rw (z, take-append-drop)

pub length-put : (at : ℕ) (bs old : List ℕ) → at + length bs ≤ length old → length (put at bs old) ≡ length old
unfolding put
length-put at bs old h = let a : at ≤ length old = omega arith in simp (length-append, length-take-le, length-drop) (omega arith)

-- the bytes xs, and ys after them
pub put_put : (at next : ℕ) (xs ys old : List ℕ) → next ≡ at + length xs → at + length xs + length ys ≤ length old → put next ys (put at xs old) ≡ put at (xs ++ ys) old
unfolding put
put_put at next xs ys old e h =
    let a : at ≤ length old = omega arith in
    let P : List ℕ = take at old in
    let Q : List ℕ = drop (at + length xs) old in
    let R : List ℕ = P ++ xs in
    let M : List ℕ = P ++ (xs ++ Q) in
    let Z : List ℕ = drop (at + length xs + length ys) old in
    let len : length R ≡ next = length-append P xs ∙ omega (arith, length-take-le at old a) in
    let m : M ≡ R ++ Q = sym (append_assoc P xs Q) in
    let t : take next M ≡ R = ap (take next) m ∙ take_at R Q next len in
    let d : drop (next + length ys) M ≡ Z =
    ap (drop (next + length ys)) m ∙ sym (drop-drop (length ys) next (R ++ Q)) ∙ ap (drop (length ys)) (drop_at R Q next len)
    ∙ drop-drop (length ys) (at + length xs) old in
    let k : at + length xs + length ys ≡ at + length (xs ++ ys) = omega (arith, length-append xs ys) in
    ap (λ v. v ++ (ys ++ drop (next + length ys) M)) t
    ∙ ap (λ z. R ++ (ys ++ z)) d
    ∙ append_assoc P xs (ys ++ Z)
    ∙ ap (λ v. P ++ v) (sym (append_assoc xs ys Z))
    ∙ ap (λ n. P ++ ((xs ++ ys) ++ drop n old)) k

-- where there is room, bs stands in the strip from `at` on, and `next` is the place after it
pub record Row (at : ℕ) (bs old : List ℕ) (next : ℕ) (new : List ℕ) : Type 0 where
  pub stands : at + length bs ≤ length old → (next ≡ at + length bs) × (new ≡ put at bs old)

pub row : (at : ℕ) (bs old : List ℕ) (next : ℕ) (new : List ℕ) → next ≡ at + length bs → new ≡ put at bs old → Row at bs old next new
row at bs old next new e f = record { stands = λ _. (e, f) }

-- a row, and another after it
pub row_then : {at mid next : ℕ} {xs ys old between new : List ℕ} → Row at xs old mid between → Row mid ys between next new → Row at (xs ++ ys) old next new
row_then {at = at} {mid = mid} {xs = xs} {ys = ys} {old = old} p q = record {
  stands = λ room.
      let n = length-append xs ys in
      let first = p.stands (omega (arith, n, room)) in
      let kept = ap length first.1 ∙ length-put at xs old (omega (arith, n, room)) in
      let second = q.stands (omega (arith, n, room, kept, first.0)) in
      (omega (arith, n, first.0, second.0), second.1 ∙ ap (put mid ys) first.1 ∙ put_put at mid xs ys old first.0 (omega (arith, n, room)));
}

-- what `strip[at..end].copy_from_slice(bytes)` leaves
pub put_middle : (at k : ℕ) (old ys bs : List ℕ) → ys ≡ bs → k ≡ length bs → put_mid at k old ys ≡ put at bs old
unfolding put
put_middle at k old ys bs e f = rw (e, f) (ap (λ z. take at old ++ (bs ++ z)) (drop-drop (length bs) at old))
