use Rattle.std.proofs.Common.{◌≡◌, ℕ, zero, suc, ◌+◌, ◌<◌, ◌≤◌, Bool, eqb, sym, refl, ap, inl, inr, arith}
use Rattle.rules.proofs.Heap.{upd}
use Rattle.rules.proofs.Invariant.{bit, sum, root_count, box_count}
use Rattle.rules.proofs.Basics.{upd_here, upd_other, same?}

sum_other : (f f' : ℕ → ℕ) (k : ℕ) → ((q : ℕ) → (q ≡ k → ⊥) → f' q ≡ f q) → (n : ℕ) → n < k → sum f' n ≡ sum f n
unfolding sum
sum_other f f' k e zero h = refl
sum_other f f' k e (suc n) h = let a = sum_other f f' k e n (omega arith) in let b = e (suc n) (λ p. omega arith) in omega arith

pub sum_change : (f f' : ℕ → ℕ) (k : ℕ) → ((q : ℕ) → (q ≡ k → ⊥) → f' q ≡ f q) → (n : ℕ) → 1 ≤ k → k ≤ n → sum f' n + f k ≡ sum f n + f' k
unfolding sum
sum_change f f' k e zero l h = absurd (omega arith)
sum_change f f' k e (suc n) l h = elim (same? k (suc n)) [
  | inl p ↦ (let a = sum_other f f' k e n (omega arith) in let b = ap f p in let b2 = ap f' p in omega arith)
  | inr q ↦ (let a = sum_change f f' k e n l (omega arith) in let b = e (suc n) (λ r. q (sym r)) in omega arith)
]

pub sum_at : (f : ℕ → ℕ) (k n : ℕ) → 1 ≤ k → k ≤ n → f k ≤ sum f n
unfolding sum
sum_at f k zero l h = absurd (omega arith)
sum_at f k (suc n) l h = elim (same? k (suc n)) [ inl p ↦ (let b = ap f p in omega arith) | inr q ↦ (let a = sum_at f k n l (omega arith) in omega arith) ]

pub sum_none : (f : ℕ → ℕ) → ((q : ℕ) → f q ≡ 0) → (n : ℕ) → sum f n ≡ 0
unfolding sum
sum_none f e zero = refl
sum_none f e (suc n) = let a = sum_none f e n in let b = e (suc n) in omega arith

-- a root more or less
pub roots_change : (m : ℕ) (roots : ℕ → ℕ → Bool) (p x : ℕ) (b : Bool) → 1 ≤ p → p ≤ m → (z : ℕ)
    → root_count m (upd roots p (upd (roots p) x b)) z + bit (roots p z) ≡ root_count m roots z + bit (upd (roots p) x b z)
roots_change m roots p x b l h z =
    let a = sum_change (λ q. bit (roots q z)) (λ q. bit (upd roots p (upd (roots p) x b) q z)) p
    (λ q n. ap (λ (g : ℕ → Bool). bit (g z)) (upd_other roots p (upd (roots p) x b) q n)) m l h in
    let e = ap (λ (g : ℕ → Bool). bit (g z)) (upd_here roots p (upd (roots p) x b)) in omega arith

-- a box filled or emptied
pub boxes_change : (m : ℕ) (box : ℕ → ℕ → ℕ) (p r v : ℕ) → 1 ≤ p → p ≤ m → 1 ≤ r → r ≤ m → (z : ℕ)
    → box_count m (upd box p (upd (box p) r v)) z + bit (eqb (box p r) z) ≡ box_count m box z + bit (eqb v z)
boxes_change m box p r v l h l2 h2 z =
    let f : ℕ → ℕ = (λ q. sum (λ t. bit (eqb (box q t) z)) m) in
    let f' : ℕ → ℕ = (λ q. sum (λ t. bit (eqb (upd box p (upd (box p) r v) q t) z)) m) in
    let a = sum_change f f' p (λ q n. ap (λ (g : ℕ → ℕ). sum (λ t. bit (eqb (g t) z)) m) (upd_other box p (upd (box p) r v) q n)) m l h in
    let e = ap (λ (g : ℕ → ℕ). sum (λ t. bit (eqb (g t) z)) m) (upd_here box p (upd (box p) r v)) in
    let b = sum_change (λ t. bit (eqb (box p t) z)) (λ t. bit (eqb (upd (box p) r v t) z)) r
    (λ t n. ap (λ (y : ℕ). bit (eqb y z)) (upd_other (box p) r v t n)) m l2 h2 in
    let e2 = ap (λ (y : ℕ). bit (eqb y z)) (upd_here (box p) r v) in
    omega arith
