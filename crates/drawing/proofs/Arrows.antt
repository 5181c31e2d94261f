-- A blank drawing and one with an arrow more are drawings.
use Rattle.std.proofs.Common.{◌≡◌, ℕ, zero, suc, ◌+◌, ◌-◌, ◌*◌, ◌<◌, ◌≤◌, true, ◌≢◌, List, length, get_or, set, replicate, sym, refl, ap, ◌∙◌, subst, inl, inr, arith}
use Rattle.std.proofs.lemmas.List.{get_or-set_same, get_or-set_other}
use Rattle.std.proofs.lemmas.Bool.{cases_eq}
use Rattle.std.proofs.lemmas.Bool.Decides.{nat_tests}
use Rattle.graph.specs.Nets.{Within, sum_after}
use Rattle.drawing.specs.Held.{end_of, Few, Held}
use Rattle.drawing.specs.Tests.{within}

-- what the test says
pub yes_within : (n x : ℕ) → within n x ≡ true → Within n x
yes_within n x e = (grind (arith, nat_tests), grind (arith, nat_tests))

zeros : (n x : ℕ) → ◌≡◌ {A = ℕ} (get_or (replicate n 0) x 0) 0
zeros zero x = refl
zeros (suc n) zero = refl
zeros (suc n) (suc x) = zeros n x

pub few_none : (m : ℕ) → Few (replicate m 0)
few_none m x = omega (arith, zeros m x)

pub held_none : (n m : ℕ) (ends : List ℕ) → Held n (replicate m 0) ends
held_none n m ends x j w = absurd (omega (arith, w.0, w.1, zeros m x))

module _ (n : ℕ) (arrows ends : List ℕ) (few : Few arrows) (held : Held n arrows ends) (wide : length arrows ≡ 256) (long : length ends ≡ 65536)
    (x y : ℕ) (inside : x < 256) (to : Within n y) (room : get_or arrows x 0 < 255) where
  last : ℕ
  last = get_or arrows x 0 + 1

  arrows' : List ℕ
  arrows' = set arrows x last

  ends' : List ℕ
  ends' = set ends (256 * x + last) y

  here : get_or arrows' x 0 ≡ last
  unfolding arrows'
  here = get_or-set_same arrows x last 0 (omega arith)

  there : (u : ℕ) → u ≢ x → get_or arrows' u 0 ≡ get_or arrows u 0
  unfolding arrows'
  there u d = get_or-set_other arrows x u last 0 d

  new : end_of ends' x last ≡ y
  unfolding ends' last
  new = get_or-set_same ends (256 * x + last) y 0 (omega arith)

  old : (u j : ℕ) → 256 * u + j ≢ 256 * x + last → end_of ends' u j ≡ end_of ends u j
  unfolding ends'
  old u j d = get_or-set_other ends (256 * x + last) (256 * u + j) y 0 d

  few_more' : Few arrows'
  unfolding last
  few_more' u = elim (cases_eq u x) [
    | inl e ↦ let q : get_or arrows' u 0 ≡ last = ap (λ i. get_or arrows' i 0) e ∙ here in omega (arith, q)
    | inr d ↦ omega (arith, there u d, few u)
  ]

  at_x : (j : ℕ) → Within last j → Within n (end_of ends' x j)
  unfolding last
  at_x j w = elim (cases_eq j last) [
    | inl e ↦ subst (λ v. Within n v) (sym (ap (λ i. end_of ends' x i) e ∙ new)) to
    | inr d ↦ subst (λ v. Within n v) (sym (old x j (λ q. d (omega arith)))) (held x j (w.0, omega (arith, w.1)))
  ]

  held_more' : Held n arrows' ends'
  unfolding last
  held_more' u j w = elim (cases_eq u x) [
    | inl e ↦
        let P : ℕ → Type 0 = λ v. Within (get_or arrows' v 0) j → Within n (end_of ends' v j) in
        subst P (sym e) (λ v. at_x j (subst (λ k. Within k j) here v)) w
    | inr d ↦
        let v = subst (λ k. Within k j) (there u d) w in
        let apart : 256 * u + j ≢ 256 * x + last = λ q. d (omega (arith, v.0, v.1, few u)) in
        subst (λ z. Within n z) (sym (old u j apart)) (held u j v)
  ]

  -- one more arrow, from x to y
  pub drawn_more : (j : ℕ) → j ≡ get_or arrows x 0 + 1 → Few (set arrows x (get_or arrows x 0 + 1)) × Held n (set arrows x (get_or arrows x 0 + 1)) (set ends (256 * x + j) y)
  unfolding arrows' ends' last
  drawn_more j e = subst (λ k. Few (set arrows x (get_or arrows x 0 + 1)) × Held n (set arrows x (get_or arrows x 0 + 1)) (set ends (256 * x + k) y)) (sym e) (few_more', held_more')

sum_suc : (w : ℕ → ℕ) (k n : ℕ) → sum_after w k (suc n) ≡ sum_after w k n + w (k + n + 1)
sum_suc w k zero = let e : k + 0 + 1 ≡ suc k = omega arith in let q : w (k + 0 + 1) ≡ w (suc k) = ap w e in omega (arith, q)
sum_suc w k (suc n) =
    let e : k + suc n + 1 ≡ suc k + n + 1 = omega arith in
    let q : w (k + suc n + 1) ≡ w (suc k + n + 1) = ap w e in
    omega (arith, sum_suc w (suc k) n, q)

-- one more cell in the sum
pub sum_next : (w : ℕ → ℕ) (x : ℕ) → 1 ≤ x → sum_after w 0 x ≡ sum_after w 0 (x - 1) + w x
sum_next w zero h = absurd (omega arith)
sum_next w (suc n) h =
    let e : w (0 + n + 1) ≡ w (suc n) = ap w (omega arith) in
    let s : sum_after w 0 n ≡ sum_after w 0 (suc n - 1) = ap (sum_after w 0) (omega arith) in
    omega (arith, sum_suc w 0 n, e, s)
