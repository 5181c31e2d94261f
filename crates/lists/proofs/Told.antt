-- From lines to members: what a call does to the lines tells what it does to the sets.
use Rattle.std.proofs.Common.{◌≡◌, ℕ, Bool, true, false, cond, ◌&&◌, ◌||◌, eqb, List, [], Some, None, Option, sym, refl, ap, ◌∙◌, arith}
use mathlib.Core.Path.{fun_ext}
use Rattle.std.proofs.lemmas.Bool.Decides.{nat_tests}
use Rattle.lists.specs.declared.waiting.Set.{Set}
use Rattle.lists.specs.Sets.{is_worker, in_range, takes, same_set, with_set, filled, cleared, added, struck, after_fill, after_put, Took}
use Rattle.lines.specs.Lines.{Joining, in_line, orderly, joined, counted, rest}
use Rattle.lists.specs.Tables.{Lines, members, with_line, after_fill_lines, after_clear_lines, after_put_lines, after_strike_lines, TookFirst}
use Rattle.lines.specs.InLine.{in_joined, in_counted, in_without, stranger, first_none, first_left, first_in}
use Rattle.lists.proofs.Rows.{same_line}

module _ (top : ℕ) (ls : Lines) (w : ℕ) (k : Set) where
  -- a line replaced is a set replaced
  replaced : (l : List ℕ) (f : ℕ → Bool) → ((c : ℕ) → (takes top w c && in_line c l) ≡ f c) → members top (with_line ls w k l) ≡ with_set (members top ls) w k f
  replaced l f h = fun_ext (λ w'. fun_ext (λ k'. fun_ext (λ c. at w' k' c)))
    where
      at : (w' : ℕ) (k' : Set) (c : ℕ) → members top (with_line ls w k l) w' k' c ≡ with_set (members top ls) w k f w' k' c
      at w' k' c =
          let P : Bool → Type 0 = λ b. same_set w k w' k' ≡ b → (takes top w' c && in_line c (cond b l (ls w' k'))) ≡ cond b (f c) (takes top w' c && in_line c (ls w' k')) in
          (elim (same_set w k w' k') as P [
            | true ↦ λ s. let e : w' ≡ w = grind (arith, nat_tests) in ap (λ v. takes top v c && in_line c l) e ∙ h c
            | false ↦ λ s. refl
          ]) refl

  pub told_clear : {ls' : Lines} → ls' ≡ after_clear_lines ls w k → members top ls' ≡ cleared (members top ls) w k
  told_clear is = ap (members top) is ∙ replaced [] (λ _. false) (λ c. grind (arith, nat_tests))

  pub told_strike : (x : ℕ) {ls' : Lines} → ls' ≡ after_strike_lines ls w k x → members top ls' ≡ struck (members top ls) w k x
  told_strike x is = ap (members top) is ∙ replaced _ _ (λ c. ap (λ b. takes top w c && b) (in_without (ls w k) x c) ∙ (grind (arith, nat_tests)))

  module _ (joins : Joining) (adds : (l : List ℕ) (x c : ℕ) → in_line c (joins l x) ≡ (eqb c x || in_line c l)) where
    pub told_put : (x : ℕ) {ls' : Lines} → ls' ≡ after_put_lines joins top ls w k x → members top ls' ≡ after_put top (members top ls) w k x
    told_put x is =
        let P : Bool → Type 0 = λ b. takes top w x ≡ b → members top (cond b (with_line ls w k (joined joins (ls w k) x)) ls) ≡ cond b (added (members top ls) w k x) (members top ls) in
        ap (members top) is ∙ (elim (takes top w x) as P [
          | true ↦ λ t. replaced _ _ (λ c. ap (λ b. takes top w c && b) (in_joined joins adds (ls w k) x c) ∙ (grind (arith, nat_tests)))
          | false ↦ λ t. refl
        ]) refl

    pub told_fill : (n : ℕ) {ls' : Lines} → ls' ≡ after_fill_lines joins top ls w k n → members top ls' ≡ after_fill top (members top ls) w k n
    told_fill n is =
        let P : Bool → Type 0 = λ b. takes top w n ≡ b → members top (cond b (with_line ls w k (counted joins n)) ls) ≡ cond b (filled (members top ls) w k n) (members top ls) in
        ap (members top) is ∙ (elim (takes top w n) as P [
          | true ↦ λ t. replaced _ _ (λ c. ap (λ b. takes top w c && b) (in_counted joins adds n c) ∙ (grind (arith, nat_tests)))
          | false ↦ λ t. refl
        ]) refl

  module _ (stands : orderly top (ls w k) ≡ true) (absent : is_worker w ≡ false → ls w k ≡ []) where
    pub told_has : (c : ℕ) → in_line c (ls w k) ≡ members top ls w k c
    told_has c =
        let P : Bool → Bool → Type 0 = λ a b. is_worker w ≡ a → in_range c top ≡ b → in_line c (ls w k) ≡ ((a && b) && in_line c (ls w k)) in
        (elim (is_worker w) as (λ a. P a (in_range c top)) [
          | true ↦ elim (in_range c top) as (P true) [
            | true ↦ λ _ _. refl
            | false ↦ λ _ out. stranger top (ls w k) stands c out
          ]
          | false ↦ λ gone _. ap (in_line c) (absent gone)
        ]) refl refl

    pub told_take : (r : Option ℕ) (ls' : Lines) → TookFirst ls w k r ls' → Took (members top ls) w k r (members top ls')
    told_take None ls' h =
        let none = first_none (ls w k) h.0 in (
          λ c. sym (told_has c) ∙ ap (in_line c) none,
          ap (members top) (h.1 ∙ same_line ls w k (rest (ls w k)) (none ∙ sym (ap rest none))),
        )
    told_take (Some x) ls' h = (
      sym (told_has x) ∙ first_in x (ls w k) h.0,
      told_strike x (h.1 ∙ ap (with_line ls w k) (sym (first_left top x (ls w k) stands h.0))),
    )
