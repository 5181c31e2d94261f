-- The cells found are those with a mark, each once: so it is without marks, and so it stays as one more is marked.
use Rattle.std.proofs.Common.{◌≡◌, ℕ, zero, suc, ◌+◌, ◌-◌, ◌<◌, ◌≤◌, cond, List, [], ◌∷◌, ◌++◌, length, get_or, set, take, replicate, length-append, Some, sym, refl, ap, ◌∙◌, subst, inl, inr, arith}
use Rattle.std.specs.List.{sum_by, slice_get, Contains}
use Rattle.std.proofs.Math.Dec.{eqb}
use Rattle.std.proofs.lemmas.List.{length-set}
use Rattle.std.proofs.lemmas.Bool.{cases_eq}
use Rattle.std.proofs.lemmas.Bool.Decides.{nat_tests}
use Rattle.std.proofs.lemmas.List.Sums.{sum_by-cons, sum_by_push, sum_by-take-le, get_or-le-sum_by}
use Rattle.std.proofs.lemmas.Option.{slice_get_within}
use Rattle.graph.specs.Nets.{Within, sum_after}
use Rattle.graph.specs.Searches.{Marked}
use Rattle.graph.specs.Costs.{sum_marked}
use Rattle.graph.specs.Finding.{Lists}

sum_marked-replicate : (w : ℕ → ℕ) (k n : ℕ) → sum_marked w k (replicate n 0) ≡ 0
sum_marked-replicate w k zero = refl
sum_marked-replicate w k (suc n) = sum_marked-replicate w (suc k) n

-- one more mark adds w of its cell
sum_marked-set : (w : ℕ → ℕ) (k x : ℕ) (s : List ℕ) (i : ℕ) → x ≡ k + i + 1 → i < length s → get_or s i 0 ≡ 0 → sum_marked w k (set s i 1) ≡ sum_marked w k s + w x
sum_marked-set w k x [] i e h z = absurd (omega arith)
sum_marked-set w k x (zero ∷ bs) zero e h z = let q : w x ≡ w (suc k) = ap w (omega arith) in omega (arith, q)
sum_marked-set w k x (suc b ∷ bs) zero e h z = absurd (omega arith)
sum_marked-set w k x (zero ∷ bs) (suc i) e h z = sum_marked-set w (suc k) x bs i (omega arith) (omega arith) z
sum_marked-set w k x (suc b ∷ bs) (suc i) e h z = let q = sum_marked-set w (suc k) x bs i (omega arith) (omega arith) z in omega (arith, q)

sum_marked-le-sum_after : (w : ℕ → ℕ) (k : ℕ) (s : List ℕ) → sum_marked w k s ≤ sum_after w k (length s)
sum_marked-le-sum_after w k [] = omega arith
sum_marked-le-sum_after w k (zero ∷ bs) = let q = sum_marked-le-sum_after w (suc k) bs in omega (arith, q)
sum_marked-le-sum_after w k (suc b ∷ bs) = let q = sum_marked-le-sum_after w (suc k) bs in omega (arith, q)

-- each marked cell is in the sum, and what is in the sum is that of a marked cell
at-le-sum_marked : (w : ℕ → ℕ) (k : ℕ) (s : List ℕ) (i : ℕ) → i < length s → (get_or s i 0 ≡ 0 → ⊥) → w (k + i + 1) ≤ sum_marked w k s
at-le-sum_marked w k [] i h m = absurd (omega arith)
at-le-sum_marked w k (zero ∷ bs) zero h m = absurd (m refl)
at-le-sum_marked w k (suc b ∷ bs) zero h m = let q : w (k + 0 + 1) ≡ w (suc k) = ap w (omega arith) in omega (arith, q)
at-le-sum_marked w k (zero ∷ bs) (suc i) h m =
    let q = at-le-sum_marked w (suc k) bs i (omega arith) m in
    let e : w (k + suc i + 1) ≡ w (suc k + i + 1) = ap w (omega arith) in
    omega (arith, q, e)
at-le-sum_marked w k (suc b ∷ bs) (suc i) h m =
    let q = at-le-sum_marked w (suc k) bs i (omega arith) m in
    let e : w (k + suc i + 1) ≡ w (suc k + i + 1) = ap w (omega arith) in
    omega (arith, q, e)

in_sum : (w : ℕ → ℕ) (k : ℕ) (s : List ℕ) → 0 < sum_marked w k s → (i : ℕ) × (i < length s) × (get_or s i 0 ≡ 0 → ⊥) × (0 < w (k + i + 1))
in_sum w k [] h = absurd (omega arith)
in_sum w k (zero ∷ bs) h =
    let r = in_sum w (suc k) bs h in
    let e : suc k + r.0 + 1 ≡ k + suc r.0 + 1 = omega arith in
    (suc r.0, omega (arith, r.1), r.2, subst (λ n. 0 < w n) e r.3)
in_sum w k (suc b ∷ bs) h = elim (cases_eq (w (suc k)) 0) [
  | inl z ↦
      let r = in_sum w (suc k) bs (omega arith) in
      let e : suc k + r.0 + 1 ≡ k + suc r.0 + 1 = omega arith in
      (suc r.0, omega (arith, r.1), r.2, subst (λ n. 0 < w n) e r.3)
  | inr d ↦
      let e : suc k ≡ k + 0 + 1 = omega arith in
      (0, omega arith, λ z. absurd (omega arith), subst (λ n. 0 < w n) e (omega arith))
]

-- 1 at x, and 0 elsewhere
hit : ℕ → ℕ → ℕ
hit x y = cond (eqb y x) 1 0

hit_there : (x : ℕ) → hit x x ≡ 1
unfolding hit
hit_there x = grind (arith, nat_tests)

hit_here : (x y : ℕ) → 0 < hit x y → y ≡ x
unfolding hit
hit_here x y h = grind (arith, nat_tests)

in_cells : (x : ℕ) (cells : List ℕ) → 0 < sum_by (hit x) cells → Contains cells x
in_cells x [] h = absurd (omega arith)
in_cells x (y ∷ ys) h = elim (cases_eq y x) [
  | inl e ↦ (0, omega arith, e)
  | inr d ↦
      let none : hit x y ≡ 0 = elim (cases_eq (hit x y) 0) [ inl z ↦ z | inr n ↦ absurd (d (hit_here x y (omega arith))) ] in
      let r = in_cells x ys (omega (arith, sum_by-cons (hit x) y ys)) in
      (suc r.0, omega (arith, r.1), r.2)
]

pub lists_none : (n : ℕ) → Lists (replicate n 0) []
lists_none n w = sym (sum_marked-replicate w 0 n)

pub lists_more : (marks cells : List ℕ) (x i : ℕ) → Lists marks cells → x ≡ i + 1 → i < length marks → get_or marks i 0 ≡ 0 → Lists (set marks i 1) (cells ++ x ∷ [])
lists_more marks cells x i lists e h none w = omega (arith, sum_by_push w cells x, sum_marked-set w 0 x marks i (omega arith) h none, lists w)

-- what is added up over some of the cells found is no more than over all cells
pub sum_most : (marks cells : List ℕ) → Lists marks cells → (w : ℕ → ℕ) (i : ℕ) → sum_by w (take i cells) ≤ sum_after w 0 (length marks)
sum_most marks cells lists w i = omega (arith, sum_by-take-le w cells i, lists w, sum_marked-le-sum_after w 0 marks)

ones : (xs : List ℕ) → sum_by (λ x. 1) xs ≡ length xs
ones [] = refl
ones (x ∷ xs) = omega (arith, ones xs, sum_by-cons (λ (y : ℕ). 1) x xs)

ones_after : (k n : ℕ) → sum_after (λ x. 1) k n ≡ n
ones_after k zero = refl
ones_after k (suc n) = let q = ones_after (suc k) n in omega (arith, q)

-- there are no more cells found than marks, and fewer if a cell has no mark
pub cells_most : (marks cells : List ℕ) → Lists marks cells → length cells ≤ length marks
cells_most marks cells lists = omega (arith, ones cells, lists (λ x. 1), sum_marked-le-sum_after (λ x. 1) 0 marks, ones_after 0 (length marks))

pub cells_room : (marks cells : List ℕ) (i : ℕ) → Lists marks cells → i < length marks → get_or marks i 0 ≡ 0 → length cells < length marks
cells_room marks cells i lists h none =
    omega (arith, cells_most (set marks i 1) (cells ++ (i + 1) ∷ []) (lists_more marks cells (i + 1) i lists refl h none), length-append cells ((i + 1) ∷ []), length-set marks i 1)

module _ (marks cells : List ℕ) (lists : Lists marks cells) where
  -- a turn is that of one of the cells
  pub turn_most : (turn x : ℕ) → slice_get cells turn ≡ Some x → turn < length marks
  turn_most turn x e = omega (arith, slice_get_within cells turn x e, cells_most marks cells lists)

  -- a cell found is marked
  pub found_marked : (i : ℕ) → i < length cells → Within (length marks) (get_or cells i 0) × Marked marks (get_or cells i 0)
  found_marked i h =
      let x = get_or cells i 0 in
      let r = in_sum (hit x) 0 marks (omega (arith, get_or-le-sum_by (hit x) cells i 0 h, hit_there x, lists (hit x))) in
      let e : 0 + r.0 + 1 ≡ x = hit_here x (0 + r.0 + 1) r.3 in
      let i : r.0 ≡ x - 1 = omega arith in
      ((omega arith, omega (arith, r.1)), λ z. r.2 (ap (λ n. get_or marks n 0) i ∙ z))

  -- a marked cell is found
  pub marked_found : (x : ℕ) → Within (length marks) x → Marked marks x → Contains cells x
  marked_found x w m =
      let e : hit x (0 + (x - 1) + 1) ≡ hit x x = ap (hit x) (omega (arith, w.0)) in
      in_cells x cells (omega (arith, at-le-sum_marked (hit x) 0 marks (x - 1) (omega (arith, w.0, w.1)) m, e, hit_there x, lists (hit x)))
