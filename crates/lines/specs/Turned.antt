-- A line that is taken from its end: the line turned round.
use Rattle.std.specs.Prelude.{◌≡◌, ℕ, ◌≤◌, Bool, true, false, cond, not, ◌||◌, List, [], ◌∷◌, ◌++◌, reverse, ◌==◌, refl}
use Rattle.std.proofs.Common.{sym, ap, ◌∙◌, arith}
use mathlib.Core.List.{reverse-cons, reverse-append}
use Rattle.std.proofs.lemmas.List.Elements.{filter-append}
use Rattle.std.proofs.lemmas.List.{append-nil}
use Rattle.std.proofs.lemmas.Bool.Decides.{nat_tests}
use Rattle.lines.specs.Numbers.{in_range}
use Rattle.lines.specs.Lines.{in_line, orderly, at_end, at_head, joined, without}
use Rattle.lines.specs.InLine.{at_end_adds, orderly_push}

pub in_turned : (l : List ℕ) (c : ℕ) → in_line c (reverse l) ≡ in_line c l
in_turned [] c = refl
in_turned (x ∷ l) c = ap (in_line c) (reverse-cons x l) ∙ at_end_adds (reverse l) x c ∙ ap (λ b. (c == x) || b) (in_turned l c)

pub orderly_turned : (n : ℕ) (l : List ℕ) → orderly n l ≡ true → orderly n (reverse l) ≡ true
orderly_turned n [] h = refl
orderly_turned n (x ∷ l) h =
    let h' : orderly n l ≡ true = grind (arith, nat_tests) in
    let fit : in_range x n ≡ true = grind (arith, nat_tests) in
    let out : in_line x l ≡ false = grind (arith, nat_tests) in
    ap (orderly n) (reverse-cons x l) ∙ orderly_push n (reverse l) x (orderly_turned n l h') fit (in_turned l x ∙ out)

-- who joins at the end joins the turned line at its head
pub joined_turned : (l : List ℕ) (x : ℕ) → reverse (joined at_end l x) ≡ joined at_head (reverse l) x
joined_turned l x =
    let P : Bool → Type 0 = λ b. reverse (cond b l (l ++ x ∷ [])) ≡ cond b (reverse l) (x ∷ reverse l) in
    (elim (in_line x l) as P [ true ↦ refl | false ↦ reverse-append l (x ∷ []) ]) ∙ sym (ap (λ b. cond b (reverse l) (x ∷ reverse l)) (in_turned l x))

pub without_turned : (l : List ℕ) (x : ℕ) → reverse (without l x) ≡ without (reverse l) x
without_turned [] x = refl
without_turned (y ∷ l) x =
    let ih = without_turned l x in
    let q : ℕ → Bool = λ v. not (v == x) in
    let P : Bool → Type 0 = λ b. reverse (cond b (y ∷ without l x) (without l x)) ≡ without (reverse l) x ++ cond b (y ∷ []) [] in
    (elim (q y) as P [
      | true ↦ reverse-cons y (without l x) ∙ ap (λ t. t ++ y ∷ []) ih
      | false ↦ ih ∙ sym (append-nil (without (reverse l) x))
    ])
    ∙ sym (ap (λ t. without t x) (reverse-cons y l) ∙ filter-append q (reverse l) (y ∷ []))

-- a newcomer from 1 to n leaves a line orderly, and one that is 0 or a member changes nothing
pub orderly_joined : (m n : ℕ) (l : List ℕ) (x : ℕ) → x ≤ n → orderly n l ≡ true → orderly n (cond (in_range x m) (joined at_end l x) l) ≡ true
orderly_joined m n l x le h =
    let P : Bool → Type 0 = λ b. in_range x m ≡ b → orderly n (cond b (joined at_end l x) l) ≡ true in
    let Q : Bool → Type 0 = λ b. in_line x l ≡ b → in_range x m ≡ true → orderly n (cond b l (l ++ x ∷ [])) ≡ true in
    (elim (in_range x m) as P [
      | true ↦ (elim (in_line x l) as Q [ true ↦ λ _ _. h | false ↦ λ out fit. orderly_push n l x h (grind (arith, nat_tests)) out ]) refl
      | false ↦ λ _. h
    ]) refl

-- the turned line after Put
pub put_turned : (l m : List ℕ) (x : ℕ) → x ≤ 100 → m ≡ cond (in_range x 255) (joined at_end l x) l → reverse m ≡ cond (in_range x 100) (joined at_head (reverse l) x) (reverse l)
put_turned l m x le is =
    let P : Bool → Type 0 = λ b. reverse (cond b (joined at_end l x) l) ≡ cond b (joined at_head (reverse l) x) (reverse l) in
    let same : in_range x 255 ≡ in_range x 100 = grind (arith, nat_tests) in
    ap reverse is ∙ ap (λ b. reverse (cond b (joined at_end l x) l)) same ∙ (elim (in_range x 100) as P [ true ↦ joined_turned l x | false ↦ refl ])
