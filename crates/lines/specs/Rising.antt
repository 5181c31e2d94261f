-- The members of a set, the lowest first: what a member more, a member less and the lowest mean for that line.
use Rattle.std.specs.Prelude.{◌≡◌, ℕ, zero, suc, ◌<◌, ◌≤◌, Bool, true, false, cond, not, ◌&&◌, ◌||◌, ltb, ◌≢◌, List, [], ◌∷◌, ◌++◌, length, Some, None, Option, ◌==◌, nat_le, nat_lt, refl}
use Rattle.std.proofs.Math.Path.{sym, ap, ap₂}
use Rattle.std.proofs.Common.{◌∙◌}
use Rattle.std.proofs.Math.Logic.{inl, inr}
use native.Mathlib.Omega.{arith}
use Rattle.std.proofs.lemmas.List.Elements.{filter-append}
use Rattle.std.proofs.lemmas.List.{append-nil}
use Rattle.std.proofs.lemmas.Bool.Decides.{nat_tests, eqb_tells, leb_tells}
use Rattle.lines.specs.Numbers.{in_range}
use Rattle.lines.specs.Lines.{in_line, orderly, by_number, joined, without, first, rising}
use Rattle.lines.specs.Bits.{held, Lowest}
use Rattle.lines.specs.Digits.{held_range}
use Rattle.lines.specs.InLine.{in_append, orderly_push}

-- where a newcomer joins by number, it and all others stand
pub by_number_adds : (l : List ℕ) (x c : ℕ) → in_line c (by_number l x) ≡ (c == x || in_line c l)
by_number_adds [] x c = refl
by_number_adds (y ∷ l) x c =
    let h = by_number_adds l x c in
    elim (leb_tells (suc x) y) [
      | inl e ↦ ap (λ b. in_line c (cond b (x ∷ y ∷ l) (y ∷ by_number l x))) e.0
      | inr e ↦ ap (λ b. in_line c (cond b (x ∷ y ∷ l) (y ∷ by_number l x))) e.0 ∙ ap (λ b. (c == y) || b) h ∙ swapped (c == y) (c == x) (in_line c l)
    ]
  where
    swapped : (a b d : Bool) → (a || (b || d)) ≡ (b || (a || d))
    swapped true true d = refl
    swapped true false d = refl
    swapped false true d = refl
    swapped false false d = refl

-- a newcomer above all others comes last
by_number_last : (l : List ℕ) (x : ℕ) → ((c : ℕ) → in_line c l ≡ true → c < x) → by_number l x ≡ l ++ x ∷ []
by_number_last [] x h = refl
by_number_last (y ∷ l) x h =
    let here : y < x = h y (grind (arith, nat_tests)) in
    let no_less : ltb x y ≡ false = grind (arith, nat_tests) in
    ap (λ b. cond b (x ∷ y ∷ l) (y ∷ by_number l x)) no_less ∙ ap (λ t. y ∷ t) (by_number_last l x (λ c m. h c (grind (arith, nat_tests))))

-- a newcomer below the last comes before it
by_number_before : (l : List ℕ) (x y : ℕ) → x < y → by_number (l ++ y ∷ []) x ≡ by_number l x ++ y ∷ []
by_number_before [] x y lt =
    let less : ltb x y ≡ true = grind (arith, nat_tests) in
    ap (λ b. cond b (x ∷ y ∷ []) (y ∷ x ∷ [])) less
by_number_before (z ∷ l) x y lt =
    let P : Bool → Type 0 = λ b. cond b (x ∷ z ∷ (l ++ y ∷ [])) (z ∷ by_number (l ++ y ∷ []) x) ≡ cond b (x ∷ z ∷ l) (z ∷ by_number l x) ++ y ∷ [] in
    elim (nat_lt x z) as P [ true ↦ refl | false ↦ ap (λ t. z ∷ t) (by_number_before l x y lt) ]

-- a number alone, if it passes
abbrev alone : Bool → ℕ → List ℕ
alone b x = cond b (x ∷ []) []

in_alone : (b : Bool) (x c : ℕ) → in_line c (alone b x) ≡ (c == x && b)
in_alone true x c = grind (arith, nat_tests)
in_alone false x c = grind (arith, nat_tests)

pub in_rising : (f : ℕ → Bool) (n c : ℕ) → in_line c (rising f n) ≡ (in_range c n && f c)
unfolding rising
in_rising f zero c = grind (arith, nat_tests)
in_rising f (suc n) c =
    let h = in_rising f n c in
    let a = in_alone (f (suc n)) (suc n) c in
    in_append c (rising f n) (alone (f (suc n)) (suc n)) ∙ (elim (eqb_tells c (suc n)) [
      | inl e ↦ let e0 = e.0 in let e1 = e.1 in let same : f c ≡ f (suc n) = ap f e1 in grind (arith, nat_tests)
      | inr e ↦ let e0 = e.0 in let e1 = e.1 in grind (arith, nat_tests)
    ])

pub rising_orderly : (f : ℕ → Bool) (m n : ℕ) → n ≤ m → orderly m (rising f n) ≡ true
unfolding rising
rising_orderly f m zero le = refl
rising_orderly f m (suc n) le =
    let P : Bool → Type 0 = λ b. orderly m (rising f n ++ alone b (suc n)) ≡ true in
    let ih = rising_orderly f m n (omega arith) in
    let out : in_line (suc n) (rising f n) ≡ false = in_rising f n (suc n) ∙ (grind (arith, nat_tests)) in
    elim (f (suc n)) as P [
      | true ↦ orderly_push m (rising f n) (suc n) ih (grind (arith, nat_tests)) out
      | false ↦ ap (orderly m) (append-nil (rising f n)) ∙ ih
    ]

pub rising_all_orderly : (f : ℕ → Bool) (n : ℕ) → orderly n (rising f n) ≡ true
rising_all_orderly f n = rising_orderly f n n (omega arith)

-- the line depends on the numbers 1 to n alone
rising_same : (f g : ℕ → Bool) (n : ℕ) → ((c : ℕ) → 1 ≤ c → c ≤ n → g c ≡ f c) → rising g n ≡ rising f n
unfolding rising
rising_same f g zero h = refl
rising_same f g (suc n) h = ap₂ (λ l b. l ++ alone b (suc n)) (rising_same f g n (λ c lo hi. h c lo (omega arith))) (h (suc n) (omega arith) (omega arith))

rising_none : (f : ℕ → Bool) (n : ℕ) → ((c : ℕ) → 1 ≤ c → c ≤ n → f c ≡ false) → rising f n ≡ []
unfolding rising
rising_none f zero h = refl
rising_none f (suc n) h = ap₂ (λ l b. l ++ alone b (suc n)) (rising_none f n (λ c lo hi. h c lo (omega arith))) (h (suc n) (omega arith) (omega arith))

pub rising_empty : (f : ℕ → Bool) (n : ℕ) → ((c : ℕ) → f c ≡ false) → rising f n ≡ []
rising_empty f n h = rising_none f n (λ c _ _. h c)

-- g has x besides what f has
module _ (f g : ℕ → Bool) (x : ℕ) (more : (c : ℕ) → g c ≡ ((nat_le 1 c && c == x) || f c)) where
  beside : (c : ℕ) → (c ≢ x) → g c ≡ f c
  beside c ne = more c ∙ (elim (eqb_tells c x) [ inl e ↦ absurd (ne e.1) | inr e ↦ (let e0 = e.0 in grind (arith, nat_tests)) ])

  rising_more : (n : ℕ) → 1 ≤ x → x ≤ n → f x ≡ false → rising g n ≡ by_number (rising f n) x
  unfolding rising
  rising_more zero lo hi new = absurd (omega arith)
  rising_more (suc n) lo hi new = elim (eqb_tells x (suc n)) [
    | inl e ↦
        let e1 = e.1 in
        let before : rising g n ≡ rising f n = rising_same f g n (λ c lo' hi'. beside c (λ s. omega arith)) in
        let stands : g (suc n) ≡ true = ap g (sym e1) ∙ more x ∙ (grind (arith, nat_tests)) in
        let stood : f (suc n) ≡ false = ap f (sym e1) ∙ new in
        let above : (c : ℕ) → in_line c (rising f n) ≡ true → c < x = λ c m. (let r = in_rising f n c in grind (arith, nat_tests)) in
        ap₂ (λ l b. l ++ alone b (suc n)) before stands
        ∙ ap (λ y. rising f n ++ y ∷ []) (sym e1)
        ∙ sym (by_number_last (rising f n) x above)
        ∙ sym (ap (λ b. by_number (rising f n ++ alone b (suc n)) x) stood ∙ ap (λ l. by_number l x) (append-nil (rising f n)))
    | inr e ↦
        let e1 = e.1 in
        let ih = rising_more n lo (omega arith) new in
        let last : g (suc n) ≡ f (suc n) = beside (suc n) (λ s. e1 (sym s)) in
        let lt : x < suc n = omega arith in
        let P : Bool → Type 0 = λ b. by_number (rising f n) x ++ alone b (suc n) ≡ by_number (rising f n ++ alone b (suc n)) x in
        ap₂ (λ l b. l ++ alone b (suc n)) ih last
        ∙ (elim (f (suc n)) as P [
          | true ↦ sym (by_number_before (rising f n) x (suc n) lt)
          | false ↦ append-nil (by_number (rising f n) x) ∙ sym (ap (λ l. by_number l x) (append-nil (rising f n)))
        ])
  ]

  -- the line after Put
  pub rising_put : (n : ℕ) → rising g n ≡ cond (in_range x n) (joined by_number (rising f n) x) (rising f n)
  rising_put n =
      let l = rising f n in
      let P : Bool → Type 0 = λ b. in_range x n ≡ b → rising g n ≡ cond b (joined by_number l x) l in
      (elim (in_range x n) as P [
        | true ↦ λ fit.
            let Q : Bool → Type 0 = λ b. f x ≡ b → rising g n ≡ cond b l (by_number l x) in
            let in_it : in_line x l ≡ f x = in_rising f n x ∙ ap (λ b. b && f x) fit in
            (elim (f x) as Q [
              | true ↦ λ had. rising_same f g n (λ c _ _. as_before had c)
              | false ↦ λ new. rising_more n (grind (arith, nat_tests)) (grind (arith, nat_tests)) new
            ]) refl ∙ sym (ap (λ b. cond b l (by_number l x)) in_it)
        | false ↦ λ out. rising_same f g n (λ c lo hi. beside c (λ s. outside c lo hi s out))
      ]) refl
    where
      as_before : f x ≡ true → (c : ℕ) → g c ≡ f c
      as_before had c = elim (eqb_tells c x) [
        | inl e ↦ (let fc : f c ≡ true = ap f e.1 ∙ had in more c ∙ ap (λ b. (nat_le 1 c && c == x) || b) fc ∙ (grind (arith, nat_tests)))
        | inr e ↦ beside c e.1
      ]

      outside : (c : ℕ) → 1 ≤ c → c ≤ n → c ≡ x → in_range x n ≢ false
      outside c lo hi s out =
          let z : in_range x n ≡ true = grind (arith, nat_tests) in
          let w : ◌≡◌ {A = Bool} true false = sym z ∙ out in cc

-- the line after Strike
pub rising_strike : (f g : ℕ → Bool) (x : ℕ) → ((c : ℕ) → g c ≡ (not (c == x) && f c)) → (n : ℕ) → rising g n ≡ without (rising f n) x
unfolding rising
rising_strike f g x less zero = refl
rising_strike f g x less (suc n) =
    ap₂ (λ l b. l ++ alone b (suc n)) (rising_strike f g x less n) (less (suc n))
    ∙ ap (λ t. without (rising f n) x ++ t) (one (suc n == x) (f (suc n)) refl)
    ∙ sym (filter-append (λ y. not (y == x)) (rising f n) (alone (f (suc n)) (suc n)))
  where
    one : (a b : Bool) → (suc n == x) ≡ a → alone (not a && b) (suc n) ≡ without (alone b (suc n)) x
    one true true e = sym (ap (λ v. cond (not v) (suc n ∷ []) []) e)
    one false true e = sym (ap (λ v. cond (not v) (suc n ∷ []) []) e)
    one true false e = refl
    one false false e = refl

first_append : (l t : List ℕ) (x : ℕ) → first l ≡ Some x → first (l ++ t) ≡ Some x
first_append [] t x e = cc
first_append (y ∷ l) t x e = e

-- who is next in the line
pub rising_first : (f : ℕ → Bool) (x : ℕ) → f x ≡ true → ((c : ℕ) → c < x → f c ≡ false) → (n : ℕ) → 1 ≤ x → x ≤ n → first (rising f n) ≡ Some x
unfolding rising
rising_first f x member low zero lo hi = absurd (omega arith)
rising_first f x member low (suc n) lo hi = elim (eqb_tells x (suc n)) [
  | inl e ↦
      let e1 = e.1 in
      let none : rising f n ≡ [] = rising_none f n (λ c lo' hi'. low c (omega arith)) in
      let stands : f (suc n) ≡ true = ap f (sym e1) ∙ member in
      ap₂ (λ l b. first (l ++ alone b (suc n))) none stands ∙ ap Some (sym e1)
  | inr e ↦ let e1 = e.1 in first_append (rising f n) (alone (f (suc n)) (suc n)) x (rising_first f x member low n lo (omega arith))
]

pub rising_next : (ws : List ℕ) → length ws ≡ 4 → held ws 0 ≡ false → (r : Option ℕ) → Lowest ws r → r ≡ first (rising (held ws) 255)
rising_next ws len unused None h = sym (ap first (rising_empty (held ws) 255 h))
rising_next ws len unused (Some x) h =
    let fit = held_range ws len unused x h.0 in
    sym (rising_first (held ws) x h.0 h.1 255 (grind (arith, nat_tests)) (grind (arith, nat_tests)))
