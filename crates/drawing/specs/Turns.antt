-- Why a drawing is a graph, and a closed graph stays closed with its arrows in the opposite order.
use Rattle.std.specs.Prelude.{◌≡◌, ℕ, ◌+◌, ◌-◌, Bool, true, false, cond, ◌&&◌, List, slice_index}
use Rattle.std.proofs.Common.{refl, sym, subst, arith}
use Rattle.std.proofs.lemmas.Bool.Decides.{nat_tests}
use Rattle.graph.specs.Nets.{Net, Within, CellOf, Closed, Silent}
use Rattle.drawing.specs.Tests.{within}
use Rattle.drawing.specs.Held.{end_of, Held}
use Rattle.drawing.specs.Drawn.{net_of}
use Rattle.drawing.specs.Backward.{backward_net}

within_yes : (n x : ℕ) → Within n x → within n x ≡ true
within_yes n x w = let low = w.0 in let high = w.1 in grind (arith, nat_tests)

-- what is told only of the numbers 1 to n is 0 elsewhere
silent_outside : (n j v : ℕ) → (Within n j → ⊥) → cond (within n j) v 0 ≡ 0
silent_outside n j v out =
    let P : Bool → Type 0 = λ b. within n j ≡ b → cond b v 0 ≡ 0 in
    (elim (within n j) as P [
      | true ↦ λ yes. absurd (out (grind (arith, nat_tests), grind (arith, nat_tests)))
      | false ↦ λ no. refl
    ]) refl

pub backward_closed : (g : Net) → Closed g → Closed (backward_net g)
backward_closed g closed x j w =
    let there = closed x (g.arrows x - j + 1) (omega arith, omega (arith, w.0, w.1)) in
    (there.0, subst (λ b. CellOf g (cond b (g.leads x (g.arrows x - j + 1)) 0)) (sym (within_yes (g.arrows x) j w)) there.1)

pub backward_silent : (g : Net) → Silent (backward_net g)
backward_silent g x j out = silent_outside (g.arrows x) j (g.leads x (g.arrows x - j + 1)) out

pub drawn_closed : (n : ℕ) (arrows ends : List ℕ) → Held n arrows ends → Closed (net_of n arrows ends)
drawn_closed n arrows ends held x j =
    let P : Bool → Type 0 = λ b. within n x ≡ b → Within (cond b (slice_index arrows x) 0) j → Within n x × Within n (cond (b && within (slice_index arrows x) j) (end_of ends x j) 0) in
    (elim (within n x) as P [
      | true ↦ λ yes w. (
        (grind (arith, nat_tests), grind (arith, nat_tests)),
        subst (λ b. Within n (cond b (end_of ends x j) 0)) (sym (within_yes (slice_index arrows x) j w)) (held x j w),
      )
      | false ↦ λ no w. absurd (omega (arith, w.0, w.1))
    ]) refl

pub drawn_silent : (n : ℕ) (arrows ends : List ℕ) → Silent (net_of n arrows ends)
drawn_silent n arrows ends x j =
    let P : Bool → Type 0 = λ b. (Within (cond b (slice_index arrows x) 0) j → ⊥) → cond (b && within (slice_index arrows x) j) (end_of ends x j) 0 ≡ 0 in
    (elim (within n x) as P [
      | true ↦ λ out. silent_outside (slice_index arrows x) j (end_of ends x j) out
      | false ↦ λ out. refl
    ])
