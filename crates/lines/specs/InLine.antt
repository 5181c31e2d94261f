-- Facts of one line: who stands in it after someone joined or left.
use Rattle.std.specs.Prelude.{◌≡◌, ℕ, zero, suc, Bool, true, false, cond, not, ◌&&◌, ◌||◌, List, [], ◌∷◌, ◌++◌, Some, None, ◌==◌, nat_eq, refl}
use Rattle.std.proofs.Common.{sym, ap, ◌∙◌, inl, inr, arith}
use Rattle.std.proofs.lemmas.Bool.Decides.{nat_tests, eqb_tells}
use Rattle.lines.specs.Numbers.{in_range}
use Rattle.lines.specs.Lines.{in_line, orderly, Joining, at_end, at_head, joined, counted, without, first, rest}

-- x has left, and all others are there as before
pub in_without : (l : List ℕ) (x c : ℕ) → in_line c (without l x) ≡ (not (c == x) && in_line c l)
in_without [] x c = grind (arith, nat_tests)
in_without (y ∷ l) x c =
    let h = in_without l x c in
    elim (eqb_tells y x) [
      | inl e ↦ let e0 = e.0 in let e1 = e.1 in
          let s : without (y ∷ l) x ≡ without l x = ap (λ b. cond (not b) (y ∷ without l x) (without l x)) e0 in
          ap (in_line c) s ∙ (grind (arith, nat_tests))
      | inr e ↦ let e0 = e.0 in let e1 = e.1 in
          let s : without (y ∷ l) x ≡ y ∷ without l x = ap (λ b. cond (not b) (y ∷ without l x) (without l x)) e0 in
          ap (in_line c) s ∙ (grind (arith, nat_tests))
    ]

-- a stranger's leaving changes nothing
pub without_stranger : (l : List ℕ) (x : ℕ) → in_line x l ≡ false → without l x ≡ l
without_stranger [] x h = refl
without_stranger (y ∷ l) x h =
    let n : nat_eq y x ≡ false = grind (arith, nat_tests) in
    let m : in_line x l ≡ false = grind (arith, nat_tests) in
    ap (λ b. cond (not b) (y ∷ without l x) (without l x)) n ∙ ap (λ t. y ∷ t) (without_stranger l x m)

-- nobody is next in an empty line only
pub first_none : (l : List ℕ) → None ≡ first l → l ≡ []
first_none [] h = refl
first_none (x ∷ l) h = cc

-- who is next stands once, so the others are the rest
pub first_left : (n x : ℕ) (l : List ℕ) → orderly n l ≡ true → Some x ≡ first l → without l x ≡ rest l
first_left n x [] h e = cc
first_left n x (y ∷ l) h e =
    let same : Some x ≡ Some y = e in
    let s : x ≡ y = cc in
    let m : in_line y l ≡ false = grind (arith, nat_tests) in
    let t : nat_eq y y ≡ true = grind (arith, nat_tests) in
    ap (without (y ∷ l)) s ∙ ap (λ b. cond (not b) (y ∷ without l y) (without l y)) t ∙ without_stranger l y m

pub first_in : (x : ℕ) (l : List ℕ) → Some x ≡ first l → in_line x l ≡ true
first_in x [] e = cc
first_in x (y ∷ l) e =
    let same : Some x ≡ Some y = e in
    let s : x ≡ y = cc in
    grind (arith, nat_tests)

-- who stands in an orderly line is from 1 to n
pub line_in_range : (n : ℕ) (l : List ℕ) → orderly n l ≡ true → (c : ℕ) → in_line c l ≡ true → in_range c n ≡ true
line_in_range n [] h c m = cc
line_in_range n (x ∷ l) h c m =
    let k : orderly n l ≡ true = grind (arith, nat_tests) in
    let r : in_range x n ≡ true = grind (arith, nat_tests) in
    elim (eqb_tells c x) [
      | inl e ↦ let e1 = e.1 in ap (λ i. in_range i n) e1 ∙ r
      | inr e ↦ let e0 = e.0 in line_in_range n l k c (grind (arith, nat_tests))
    ]

pub stranger : (n : ℕ) (l : List ℕ) → orderly n l ≡ true → (c : ℕ) → in_range c n ≡ false → in_line c l ≡ false
stranger n l h c out =
    let P : Bool → Type 0 = λ b. in_line c l ≡ b → b ≡ false in
    (elim (in_line c l) as P [
      | true ↦ λ m. sym (line_in_range n l h c m) ∙ out
      | false ↦ λ m. refl
    ]) refl

module _ (joins : Joining) (adds : (l : List ℕ) (x c : ℕ) → in_line c (joins l x) ≡ (c == x || in_line c l)) where
  -- x is there, newcomer or not
  pub in_joined : (l : List ℕ) (x c : ℕ) → in_line c (joined joins l x) ≡ (c == x || in_line c l)
  in_joined l x c =
      let P : Bool → Type 0 = λ b. in_line x l ≡ b → in_line c (cond b l (joins l x)) ≡ (c == x || in_line c l) in
      (elim (in_line x l) as P [
        | true ↦ λ m. elim (eqb_tells c x) [
          | inl e ↦ let e0 = e.0 in ap (λ i. in_line i l) e.1 ∙ m ∙ sym (ap (λ b. b || in_line c l) e0)
          | inr e ↦ sym (ap (λ b. b || in_line c l) e.0)
        ]
        | false ↦ λ m. adds l x c
      ]) refl

  pub in_counted : (n c : ℕ) → in_line c (counted joins n) ≡ in_range c n
  in_counted zero c = grind (arith, nat_tests)
  in_counted (suc n) c =
      let h = in_counted n c in
      in_joined (counted joins n) (suc n) c ∙ ap (λ b. (c == suc n) || b) h ∙ (grind (arith, nat_tests))

pub in_append : (c : ℕ) (l m : List ℕ) → in_line c (l ++ m) ≡ (in_line c l || in_line c m)
in_append c [] m = refl
in_append c (x ∷ l) m = ap (λ b. (c == x) || b) (in_append c l m) ∙ grouped (c == x) (in_line c l) (in_line c m)
  where
    grouped : (a b d : Bool) → (a || (b || d)) ≡ ((a || b) || d)
    grouped true b d = refl
    grouped false b d = refl

-- a stranger in range may come last
pub orderly_push : (n : ℕ) (l : List ℕ) (x : ℕ) → orderly n l ≡ true → in_range x n ≡ true → in_line x l ≡ false → orderly n (l ++ x ∷ []) ≡ true
orderly_push n [] x h fit out = grind (arith, nat_tests)
orderly_push n (y ∷ l) x h fit out =
    let apart : nat_eq x y ≡ false = grind (arith, nat_tests) in
    let out' : in_line x l ≡ false = grind (arith, nat_tests) in
    let h' : orderly n l ≡ true = grind (arith, nat_tests) in
    let ih = orderly_push n l x h' fit out' in
    let e = in_append y l (x ∷ []) in
    grind (arith, nat_tests)

pub orderly_without : (n : ℕ) (l : List ℕ) (x : ℕ) → orderly n l ≡ true → orderly n (without l x) ≡ true
orderly_without n [] x h = refl
orderly_without n (y ∷ l) x h =
    let h' : orderly n l ≡ true = grind (arith, nat_tests) in
    let ih = orderly_without n l x h' in
    let w = in_without l x y in
    elim (eqb_tells y x) [
      | inl e ↦ ap (λ b. orderly n (cond (not b) (y ∷ without l x) (without l x))) e.0 ∙ ih
      | inr e ↦ ap (λ b. orderly n (cond (not b) (y ∷ without l x) (without l x))) e.0 ∙ (let e0 = e.0 in grind (arith, nat_tests))
    ]

-- a line without the highest number
pub orderly_lower : (n : ℕ) (l : List ℕ) → orderly (suc n) l ≡ true → in_line (suc n) l ≡ false → orderly n l ≡ true
orderly_lower n [] h out = refl
orderly_lower n (y ∷ l) h out =
    let h' : orderly (suc n) l ≡ true = grind (arith, nat_tests) in
    let out' : in_line (suc n) l ≡ false = grind (arith, nat_tests) in
    let apart : nat_eq (suc n) y ≡ false = grind (arith, nat_tests) in
    let ih = orderly_lower n l h' out' in
    grind (arith, nat_tests)

-- at the end, the newcomer and all others stand
pub at_end_adds : (l : List ℕ) (x c : ℕ) → in_line c (at_end l x) ≡ (c == x || in_line c l)
at_end_adds l x c = in_append c l (x ∷ []) ∙ (grind (arith, nat_tests))

-- at the head too
pub at_head_adds : (l : List ℕ) (x c : ℕ) → in_line c (at_head l x) ≡ (c == x || in_line c l)
at_head_adds l x c = refl
