-- What slice patterns take apart.
use Rattle.std.proofs.Common.{◌≡◌, ℕ, ◌-◌, ◌≤◌, List, [], ◌∷◌, ◌++◌, length, get_or, take, drop, sym, refl, ap, ◌∙◌, arith}
use Rattle.std.proofs.lemmas.List.{take_all, take-append-drop, take-take, length-take-le, length-drop}
use Rattle.schedule.specs.declared.call.Children.{Children}
use Rattle.schedule.specs.Calls.{children}
use Rattle.schedule.specs.Parts.{ListRead}
use Rattle.schedule.proofs.Padded.{listed_padded, listed_within}

-- what `[a, rest @ ..]` calls rest
pub rest_one : (a : ℕ) (bs : List ℕ) → take (length (a ∷ bs) - 1) bs ≡ bs
rest_one a bs = take_all _ bs (omega arith)

-- what `[a, rest @ ..]` takes apart
pub first_one : (bs : List ℕ) → 1 ≤ length bs → bs ≡ get_or bs 0 0 ∷ take (length bs - 1) (drop 1 bs)
first_one [] h = absurd (omega arith)
first_one (a ∷ bs) h = ap (λ (l : List ℕ). a ∷ l) (sym (rest_one a bs))

-- a count and as many cells
pub list_there : (bs rest cells last : List ℕ) (n : ℕ) (l : Children) → bs ≡ n ∷ rest → cells ≡ take n rest → last ≡ drop n rest → n ≤ length rest → l ≡ children n cells → ListRead bs l last
list_there bs rest cells last n l e d f h k =
    let len : length cells ≡ n = ap length d ∙ length-take-le n rest h in
    rw (e, f, k)
    (record {
      counted = refl;
      there = omega (arith, length-drop n rest);
      whole = λ few.
          ap (λ (t : List ℕ). n ∷ t)
          (sym (take-append-drop n rest) ∙ ap (λ (t : List ℕ). t ++ drop n rest) (sym (listed_padded n cells few ∙ listed_within n cells (omega (arith, len)) ∙ ap (take n) d ∙ take-take n n rest (omega arith))));
    })
