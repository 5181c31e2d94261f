-- A line kept in an array of 255 places: there is room for a newcomer, who leaves it leaves one place, and what the marks are after each.
use Rattle.std.proofs.Common.{◌≡◌, ℕ, zero, suc, ◌+◌, ◌-◌, ◌<◌, ◌≤◌, Bool, true, false, cond, not, ◌&&◌, ◌||◌, eqb, leb, List, [], ◌∷◌, ◌++◌, length, get_or, take, drop, Some, sym, refl, ap, ◌∙◌, inl, inr, arith, length-drop, length-take-le, take-take}
use Rattle.std.specs.Prelude.{◌==◌, None, position, remove}
use lib.Seq.{paste}
use Rattle.std.specs.List.{AllByRecursion, IsDistinct, list_any, position_or_len}
use Rattle.std.proofs.lemmas.Map.Steps.{length-le_from_distinct_below}
use Rattle.std.proofs.lemmas.List.Quantifiers.{position-Some}
use Rattle.std.proofs.lemmas.List.{length_push, drop-take}
use Rattle.std.proofs.lemmas.List.Edits.{take-paste}
use Rattle.std.proofs.lemmas.Bool.Decides.{nat_tests, eqb_tells, leb_tells}
use Rattle.lines.specs.Numbers.{in_range}
use Rattle.lines.specs.Lines.{in_line, orderly, without}
use Rattle.lines.specs.Bits.{held, HeldToo, HeldBut}
use Rattle.lines.specs.InLine.{in_append, in_without, without_stranger, orderly_push, stranger}

-- no number of the line is x
apart : (x : ℕ) (l : List ℕ) → in_line x l ≡ false → AllByRecursion (λ y. eqb x y ≡ false) l
apart x [] h = tt
apart x (y ∷ l) h = (grind (arith, nat_tests), apart x l (grind (arith, nat_tests)))

-- in an orderly line no number stands twice
distinct : (n : ℕ) (l : List ℕ) → orderly n l ≡ true → IsDistinct eqb l
unfolding IsDistinct
distinct n [] h = tt
distinct n (x ∷ l) h = (apart x l (grind (arith, nat_tests)), distinct n l (grind (arith, nat_tests)))

-- so there is room for a newcomer: with 0 and the newcomer they are numbers below 256, each once
pub room : (l : List ℕ) (x : ℕ) → orderly 255 l ≡ true → in_range x 255 ≡ true → in_line x l ≡ false → length l < 255
unfolding IsDistinct
room l x h fit out =
    let all = l ++ x ∷ [] in
    let stand = orderly_push 255 l x h fit out in
    let below : (q : ℕ) → list_any (eqb q) (0 ∷ all) ≡ true → q < 256 = λ q there. at all stand q there in
    let few = length-le_from_distinct_below (0 ∷ all) 256 (each all stand) below in
    let a = length_push l x in
    omega arith
  where
    same : (l : List ℕ) (c : ℕ) → list_any (eqb c) l ≡ in_line c l
    same [] c = refl
    same (y ∷ l) c = ap (λ b. eqb c y || b) (same l c)

    at : (l : List ℕ) → orderly 255 l ≡ true → (q : ℕ) → list_any (eqb q) (0 ∷ l) ≡ true → q < 256
    at l h q there = elim (leb_tells 256 q) [
      | inl e ↦ let e1 = e.1 in let gone = stranger 255 l h q (grind (arith, nat_tests)) in let s = same l q in grind (arith, nat_tests)
      | inr e ↦ e.1
    ]

    each : (l : List ℕ) → orderly 255 l ≡ true → IsDistinct eqb (0 ∷ l)
    each l h = (apart 0 l (stranger 255 l h 0 (grind (arith, nat_tests))), distinct 255 l h)

-- the marks of a line that x has joined
pub marks_more : (old new l : List ℕ) (x : ℕ) → 1 ≤ x → ((c : ℕ) → held old c ≡ in_line c l) → HeldToo old x new → (c : ℕ) → held new c ≡ in_line c (l ++ x ∷ [])
marks_more old new l x pos marked too c =
    let m = marked c in let a = in_append c l (x ∷ []) in
    too c ∙ ap (λ b. (leb 1 c && eqb c x) || b) m ∙ (grind (arith, nat_tests)) ∙ sym a

-- the marks of a line that x has left
pub marks_less : (old new l : List ℕ) (x : ℕ) → ((c : ℕ) → held old c ≡ in_line c l) → HeldBut old x new → (c : ℕ) → held new c ≡ in_line c (without l x)
marks_less old new l x marked but c = but c ∙ ap (λ b. not (eqb c x) && b) (marked c) ∙ sym (in_without l x c)

-- where no place is found, the number does not stand in the line
pub no_place : (l : List ℕ) (x : ℕ) → None ≡ position (λ y. y == x) l → in_line x l ≡ false
no_place l x h = elim (leb_tells (suc (position_or_len (λ y. y == x) l)) (length l)) [
  | inl e ↦ let differ : None ≡ Some (position_or_len (λ y. y == x) l) = h ∙ ap (λ b. cond b (Some (position_or_len (λ y. y == x) l)) None) e.0 in cc
  | inr e ↦ let e1 = e.1 in out l (omega arith)
]
  where
    out : (l : List ℕ) → length l ≤ position_or_len (λ y. y == x) l → in_line x l ≡ false
    out [] h = refl
    out (y ∷ l) h = elim (eqb_tells y x) [
      | inl e ↦ let none : position_or_len (λ y. y == x) (y ∷ l) ≡ 0 = ap (λ b. cond (not b) (1 + position_or_len (λ y. y == x) l) 0) e.0 in absurd (omega arith)
      | inr e ↦
          let one : position_or_len (λ y. y == x) (y ∷ l) ≡ 1 + position_or_len (λ y. y == x) l = ap (λ b. cond (not b) (1 + position_or_len (λ y. y == x) l) 0) e.0 in
          let e1 = e.1 in let ih = out l (omega arith) in grind (arith, nat_tests)
    ]

in_at : (l : List ℕ) (i : ℕ) → i < length l → in_line (get_or l i 0) l ≡ true
in_at [] i lt = absurd (omega arith)
in_at (y ∷ l) zero lt = grind (arith, nat_tests)
in_at (y ∷ l) (suc i) lt = let ih = in_at l i (omega arith) in grind (arith, nat_tests)

-- who stands at a place, and nowhere else, leaves it
gone : (n : ℕ) (l : List ℕ) (i : ℕ) → orderly n l ≡ true → i < length l → remove l i ≡ without l (get_or l i 0)
gone n [] i h lt = absurd (omega arith)
gone n (y ∷ l) zero h lt =
    let out : in_line y l ≡ false = grind (arith, nat_tests) in
    let same : (y == y) ≡ true = grind (arith, nat_tests) in
    sym (ap (λ b. cond (not b) (y ∷ without l y) (without l y)) same ∙ without_stranger l y out)
gone n (y ∷ l) (suc i) h lt =
    let x = get_or l i 0 in
    let there = in_at l i (omega arith) in
    let h' : orderly n l ≡ true = grind (arith, nat_tests) in
    let out : in_line y l ≡ false = grind (arith, nat_tests) in
    elim (eqb_tells y x) [
      | inl e ↦ let both : in_line x l ≡ false = ap (λ v. in_line v l) (sym e.1) ∙ out in let z : ◌≡◌ {A = Bool} true false = sym there ∙ both in cc
      | inr e ↦ ap (λ t. y ∷ t) (gone n l i h' (omega arith)) ∙ sym (ap (λ b. cond (not b) (y ∷ without l x) (without l x)) e.0)
    ]

-- who is found at a place leaves it
pub left_place : (n : ℕ) (l : List ℕ) (x i : ℕ) → orderly n l ≡ true → Some i ≡ position (λ y. y == x) l → remove l i ≡ without l x
left_place n l x i h at =
    let found = position-Some (λ y. y == x) l i 0 (sym at) in
    let is : get_or l i 0 ≡ x = let e = found.1 in grind (arith, nat_tests) in
    gone n l i h found.0 ∙ ap (without l) is

module _ (cells : List ℕ) (count : ℕ) (long : length cells ≡ 255) (fits : count ≤ 255) where
  length_kept : length (take count cells) ≡ count
  length_kept = length-take-le count cells (omega arith)

  -- so the place after the last is one of the array's
  pub free : (x : ℕ) → orderly 255 (take count cells) ≡ true → in_range x 255 ≡ true → in_line x (take count cells) ≡ false → count < 255
  free x h fit out = let few = room (take count cells) x h fit out in let n = length_kept in omega arith

  -- a found place is one of the line's
  kept : (x i : ℕ) → Some i ≡ position (λ y. y == x) (take count cells) → i < count
  kept x i at = let found = position-Some (λ y. y == x) (take count cells) i 0 (sym at) in let lt = found.0 in let n = length_kept in omega arith

  -- the cells after a place moved down by one: the one there has left
  pub closed : (x i : ℕ) → orderly 255 (take count cells) ≡ true → Some i ≡ position (λ y. y == x) (take count cells) → take (count - 1) (paste cells i (drop (i + 1) cells) (count - (i + 1))) ≡ without (take count cells) x
  closed x i h at =
      let lt = kept x i at in
      let n = length-drop (i + 1) cells in
      let whole : count - 1 ≡ i + (count - (i + 1)) = omega arith in
      let all : i + 1 + (count - (i + 1)) ≡ count = omega arith in
      let next : i + 1 ≡ suc i = omega arith in
      let rest : take (count - (i + 1)) (drop (i + 1) cells) ≡ drop (suc i) (take count cells) =
      sym (drop-take (i + 1) (count - (i + 1)) cells) ∙ ap (λ k. drop (i + 1) (take k cells)) all ∙ ap (λ k. drop k (take count cells)) next in
      let front : take i cells ≡ take i (take count cells) = sym (take-take i count cells (omega arith)) in
      ap (λ k. take k (paste cells i (drop (i + 1) cells) (count - (i + 1)))) whole
      ∙ take-paste cells i (drop (i + 1) cells) (count - (i + 1)) (omega arith) (omega arith)
      ∙ ap (λ t. t ++ take (count - (i + 1)) (drop (i + 1) cells)) front
      ∙ ap (λ t. take i (take count cells) ++ t) rest
      ∙ left_place 255 (take count cells) x i h at
