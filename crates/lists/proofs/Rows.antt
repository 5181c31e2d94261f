-- A row of the table replaced is a line replaced.
use Rattle.std.proofs.Common.{◌≡◌, ℕ, zero, suc, ◌<◌, ◌≤◌, Bool, true, false, cond, ◌&&◌, eqb, ◌≢◌, List, [], ◌∷◌, length, get_or, set, Some, None, Option, sym, refl, ap, ◌∙◌, inl, inr, le_of_suc-le-suc, not-suc-le-zero, arith}
use mathlib.Core.Path.{fun_ext}
use Rattle.std.proofs.lemmas.Bool.Decides.{nat_tests, eqb_tells, leb_tells}
use Rattle.lists.specs.declared.waiting.Set.{Set}
use Rattle.lists.specs.declared.waiting.Set.TheVariants.{Check, Start, Follow}
use Rattle.lists.specs.Sets.{set_no, is_worker, in_range, takes, same_set}
use Rattle.lines.specs.Lines.{in_line, orderly, without, first, rest}
use Rattle.lines.specs.InLine.{stranger, first_none, first_left}
use Rattle.lists.specs.Tables.{place, row, row_with, line_at, rows_lines, Lines, with_line, no_lines, TookFirst}

pub three : (k : Set) → set_no k < 3
three Check = omega arith
three Start = omega arith
three Follow = omega arith

-- a set is told by its number
pub told : (k k' : Set) → set_no k' ≡ set_no k → k' ≡ k
told Check Check e = refl
told Check Start e = absurd (omega arith)
told Check Follow e = absurd (omega arith)
told Start Check e = absurd (omega arith)
told Start Start e = refl
told Start Follow e = absurd (omega arith)
told Follow Check e = absurd (omega arith)
told Follow Start e = absurd (omega arith)
told Follow Follow e = refl

worker_ge : (w : ℕ) → is_worker w ≡ true → 1 ≤ w
worker_ge w h = grind (arith, nat_tests)

worker_le : (w : ℕ) → is_worker w ≡ true → w ≤ 8
worker_le w h = grind (arith, nat_tests)

-- something is not nothing
none : {A : Type 0} (x : A) → Some x ≢ None
none x h = cc

-- what the row of a set tells
pub found : (i w : ℕ) (k : Set) → Some i ≡ row w k → (is_worker w ≡ true) × (i ≡ place w k)
found i w k =
    let P : Bool → Type 0 = λ b. Some i ≡ cond b (Some (place w k)) None → (b ≡ true) × (i ≡ place w k) in
    elim (is_worker w) as P [
      | true ↦ λ h. (refl, same h)
      | false ↦ λ h. absurd (none i h)
    ]
  where
    same : Some i ≡ Some (place w k) → i ≡ place w k
    same h = cc

pub missing : (w : ℕ) (k : Set) → None ≡ row w k → is_worker w ≡ false
missing w k =
    let P : Bool → Type 0 = λ b. None ≡ cond b (Some (place w k)) None → b ≡ false in
    elim (is_worker w) as P [ true ↦ λ h. absurd (none (place w k) (sym h)) | false ↦ λ h. refl ]

-- Fill and Put are answered yes
pub may : (top i w : ℕ) (k : Set) (n : ℕ) → Some i ≡ row w k → true ≡ in_range n top → takes top w n ≡ true
may top i w k n at in_it = ap (λ b. b && in_range n top) (found i w k at).0 ∙ sym in_it

-- or no
pub may_not : (top i w : ℕ) (k : Set) (n : ℕ) → Some i ≡ row w k → false ≡ in_range n top → takes top w n ≡ false
may_not top i w k n at in_it = ap (λ b. b && in_range n top) (found i w k at).0 ∙ sym in_it

-- what the row of a set and a cell tells
pub named : (top i x w : ℕ) (k : Set) (c : ℕ) → Some (i, x) ≡ row_with top w k c → (takes top w c ≡ true) × (Some i ≡ row w k) × (x ≡ c)
named top i x w k c =
    let P : Bool → Bool → Type 0 = λ a b. ◌≡◌ {A = Option (ℕ × ℕ)} (Some (i, x)) (cond (a && b) (Some (place w k, c)) None) → ((a && b) ≡ true) × (Some i ≡ cond a (Some (place w k)) None) × (x ≡ c) in
    elim (is_worker w) as (λ a. P a (in_range c top)) [
      | true ↦ elim (in_range c top) as (P true) [
        | true ↦ λ h. same h
        | false ↦ λ h. absurd (none {A = ℕ × ℕ} (i, x) h)
      ]
      | false ↦ λ h. absurd (none {A = ℕ × ℕ} (i, x) h)
    ]
  where
    same : ◌≡◌ {A = Option (ℕ × ℕ)} (Some (i, x)) (Some (place w k, c)) → (true ≡ true) × (Some i ≡ Some (place w k)) × (x ≡ c)
    same h = let e : ◌≡◌ {A = ℕ × ℕ} (i, x) (place w k, c) = cc in (refl, ap (λ (p : ℕ × ℕ). Some p.0) e, ap (λ (p : ℕ × ℕ). p.1) e)

pub unnamed : (top w : ℕ) (k : Set) (c : ℕ) → None ≡ row_with top w k c → takes top w c ≡ false
unnamed top w k c =
    let P : Bool → Type 0 = λ b. ◌≡◌ {A = Option (ℕ × ℕ)} None (cond b (Some (place w k, c)) None) → b ≡ false in
    elim (takes top w c) as P [
      | true ↦ λ h. absurd (none {A = ℕ × ℕ} (place w k, c) (sym h))
      | false ↦ λ h. refl
    ]

pub takes_carried : (top w n : ℕ) → takes top w n ≡ true → in_range n top ≡ true
takes_carried top w n h = grind (arith, nat_tests)

-- what is chosen by a test that came out true
pub chosen : {A : Type 0} (b : Bool) (x y : A) → b ≡ true → x ≡ cond b x y
chosen b x y e = sym (ap (λ v. cond v x y) e)

-- a line replaced by itself
pub same_line : (ls : Lines) (w : ℕ) (k : Set) (l : List ℕ) → ls w k ≡ l → with_line ls w k l ≡ ls
same_line ls w k l is = fun_ext (λ w'. fun_ext (λ k'. at w' k'))
  where
    at : (w' : ℕ) (k' : Set) → with_line ls w k l w' k' ≡ ls w' k'
    at w' k' = elim (eqb_tells w' w) [
      | inl e ↦ elim (eqb_tells (set_no k') (set_no k)) [
        | inl f ↦
            let here : ls w' k' ≡ l = ap (λ v. ls v k') e.1 ∙ ap (ls w) (told k k' f.1) ∙ is in
            let e0 = e.0 in let f0 = f.0 in
            let s : same_set w k w' k' ≡ true = grind (arith, nat_tests) in
            ap (λ b. cond b l (ls w' k')) s ∙ sym here
        | inr f ↦
            let e0 = e.0 in let f0 = f.0 in
            let s : same_set w k w' k' ≡ false = grind (arith, nat_tests) in
            ap (λ b. cond b l (ls w' k')) s
      ]
      | inr e ↦ ap (λ b. cond (b && eqb (set_no k') (set_no k)) l (ls w' k')) e.0
    ]

module _ {S : Type 0} (line : S → List ℕ) where
  at_same : (t : List S) (i : ℕ) (s : S) → i < length t → line_at line (set t i s) i ≡ line s
  at_same [] i s h = absurd (not-suc-le-zero h)
  at_same (x ∷ t) zero s h = refl
  at_same (x ∷ t) (suc i) s h = at_same t i s (le_of_suc-le-suc h)

  at_other : (t : List S) (i j : ℕ) (s : S) → j ≢ i → line_at line (set t i s) j ≡ line_at line t j
  at_other [] i j s n = refl
  at_other (x ∷ t) zero zero s n = absurd (n refl)
  at_other (x ∷ t) zero (suc j) s n = refl
  at_other (x ∷ t) (suc i) zero s n = refl
  at_other (x ∷ t) (suc i) (suc j) s n = at_other t i j s (λ e. n (ap suc e))

  at_read : (t : List S) (i : ℕ) (d : S) → i < length t → line_at line t i ≡ line (get_or t i d)
  at_read [] i d h = absurd (not-suc-le-zero h)
  at_read (x ∷ t) zero d h = refl
  at_read (x ∷ t) (suc i) d h = at_read t i d (le_of_suc-le-suc h)

  at_none : (t : List S) → ((i : ℕ) (d : S) → i < length t → line (get_or t i d) ≡ []) → (i : ℕ) → line_at line t i ≡ []
  at_none [] h i = refl
  at_none (s ∷ t) h zero = h 0 s (omega arith)
  at_none (s ∷ t) h (suc i) = at_none t (λ j d lt. h (suc j) d (omega arith)) i

  -- rows that are all empty
  pub none_in : (t : List S) → ((i : ℕ) (d : S) → i < length t → line (get_or t i d) ≡ []) → rows_lines line t ≡ no_lines
  none_in t h = fun_ext (λ w. fun_ext (λ k.
      let P : Bool → Type 0 = λ b. cond b (line_at line t (place w k)) [] ≡ [] in
      elim (is_worker w) as P [ true ↦ at_none t h (place w k) | false ↦ refl ]))

  -- what stands in a row is the set's line
  pub reads : (t : List S) (i w : ℕ) (k : Set) (d : S) → Some i ≡ row w k → length t ≡ 24 → rows_lines line t w k ≡ line (get_or t i d)
  reads t i w k d at len =
      let here = found i w k at in
      let a = three k in
      let e = here.1 in
      let hi : w ≤ 8 = worker_le w here.0 in
      let within : i < length t = omega arith in
      ap (λ b. cond b (line_at line t (place w k)) []) here.0 ∙ ap (line_at line t) (sym e) ∙ at_read t i d within

  -- an absent set's line is empty
  pub rows_absent : (t : List S) (w : ℕ) (k : Set) → is_worker w ≡ false → rows_lines line t w k ≡ []
  rows_absent t w k gone = ap (λ b. cond b (line_at line t (place w k)) []) gone

  at_orderly : (n : ℕ) → ((s : S) → orderly n (line s) ≡ true) → (t : List S) (i : ℕ) → orderly n (line_at line t i) ≡ true
  at_orderly n h [] i = refl
  at_orderly n h (s ∷ t) zero = h s
  at_orderly n h (s ∷ t) (suc i) = at_orderly n h t i

  -- every line is as orderly as the sets are
  pub rows_orderly : (n : ℕ) → ((s : S) → orderly n (line s) ≡ true) → (t : List S) (w : ℕ) (k : Set) → orderly n (rows_lines line t w k) ≡ true
  rows_orderly n h t w k =
      let P : Bool → Type 0 = λ b. orderly n (cond b (line_at line t (place w k)) []) ≡ true in
      elim (is_worker w) as P [ true ↦ at_orderly n h t (place w k) | false ↦ refl ]

  -- a cell that is not carried, or a set that is not there: it does not stand in the line
  pub not_there : (n : ℕ) → ((s : S) → orderly n (line s) ≡ true) → (t : List S) (w : ℕ) (k : Set) (c : ℕ) → takes n w c ≡ false → in_line c (rows_lines line t w k) ≡ false
  not_there n h t w k c out =
      let P : Bool → Type 0 = λ b. is_worker w ≡ b → in_line c (cond b (line_at line t (place w k)) []) ≡ false in
      (elim (is_worker w) as P [
        | true ↦ λ there. stranger n (line_at line t (place w k)) (at_orderly n h t (place w k)) c (grind (arith, nat_tests))
        | false ↦ λ gone. refl
      ]) refl

  module _ (t : List S) (w : ℕ) (k : Set) (s : S) (lo : 1 ≤ w) (hi : w ≤ 8) (len : length t ≡ 24) where
    one : (w' : ℕ) (k' : Set) → rows_lines line (set t (place w k) s) w' k' ≡ with_line (rows_lines line t) w k (line s) w' k'
    one w' k' =
        let a = three k in let b = three k' in
        let new = set t (place w k) s in
        elim (eqb_tells w' w) [
          | inl e ↦ elim (eqb_tells (set_no k') (set_no k)) [
            | inl g ↦
                let e1 = e.0 in let g1 = g.0 in let e2 = e.1 in let g2 = g.1 in
                let i : place w' k' ≡ place w k = omega arith in
                let got : line_at line new (place w' k') ≡ line s = ap (line_at line new) i ∙ at_same t (place w k) s (omega arith) in
                grind (arith, nat_tests)
            | inr g ↦
                let g1 = g.0 in let g2 = g.1 in let e2 = e.1 in
                let got : line_at line new (place w' k') ≡ line_at line t (place w' k') = at_other t (place w k) (place w' k') s (λ i. g2 (omega arith)) in
                grind (arith, nat_tests)
          ]
          | inr e ↦ elim (leb_tells 1 w') [
            | inl g ↦
                let e1 = e.0 in let e2 = e.1 in let g2 = g.1 in
                let got : line_at line new (place w' k') ≡ line_at line t (place w' k') = at_other t (place w k) (place w' k') s (λ i. e2 (omega arith)) in
                grind (arith, nat_tests)
            | inr g ↦ let e1 = e.0 in let g1 = g.0 in grind (arith, nat_tests)
          ]
        ]

  -- a row written is that line replaced
  pub writes : (t : List S) (i w : ℕ) (k : Set) (s : S) (l : List ℕ) → Some i ≡ row w k → length t ≡ 24 → line s ≡ l → rows_lines line (set t i s) ≡ with_line (rows_lines line t) w k l
  writes t i w k s l at len is =
      let here = found i w k at in
      ap (λ j. rows_lines line (set t j s)) here.1
      ∙ fun_ext (λ w'. fun_ext (λ k'. one t w k s (worker_ge w here.0) (worker_le w here.0) len w' k'))
      ∙ ap (with_line (rows_lines line t) w k) is

  -- what Take leaves: nobody was next, or the one who was has left
  pub took_none : (t : List S) (i w : ℕ) (k : Set) (d : S) (r : Option ℕ) → Some i ≡ row w k → length t ≡ 24 → r ≡ None → None ≡ first (line (get_or t i d)) → TookFirst (rows_lines line t) w k r (rows_lines line (set t i (get_or t i d)))
  took_none t i w k d r at len said empty =
      let is = reads t i w k d at len in
      let gone = first_none (line (get_or t i d)) empty in
      (said ∙ empty ∙ sym (ap first is), writes t i w k (get_or t i d) (rest (rows_lines line t w k)) at len (gone ∙ sym (ap rest (is ∙ gone))))

  pub took_some : (n : ℕ) → ((s : S) → orderly n (line s) ≡ true) → (t : List S) (i w : ℕ) (k : Set) (d s : S) (x : ℕ) → Some i ≡ row w k → length t ≡ 24 → Some x ≡ first (line (get_or t i d)) → line s ≡ without (line (get_or t i d)) x → TookFirst (rows_lines line t) w k (Some x) (rows_lines line (set t i s))
  took_some n h t i w k d s x at len next left =
      let is = reads t i w k d at len in
      let out = first_left n x (line (get_or t i d)) (h (get_or t i d)) next in
      (next ∙ sym (ap first is), writes t i w k s (rest (rows_lines line t w k)) at len (left ∙ out ∙ sym (ap rest is)))
