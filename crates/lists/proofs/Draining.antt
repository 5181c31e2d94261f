-- A set that is filled and then taken from until none is left: what was taken and what is still there make 1 to n.
use Rattle.std.proofs.Common.{◌≡◌, ℕ, zero, suc, ◌+◌, ◌<◌, ◌≤◌, Bool, true, false, cond, not, ◌&&◌, eqb, List, [], ◌∷◌, ◌++◌, length, take, drop, set, sym, refl, ap, ◌∙◌, ap₂, inl, inr, zero-add, arith}
use mathlib.Core.Path.{fun_ext}
use Rattle.std.proofs.lemmas.List.{take_more_set, drop-set-lt, length-set}
use Rattle.std.proofs.lemmas.Bool.Decides.{nat_tests, eqb_tells, leb_tells}
use Rattle.lists.specs.declared.waiting.Set.{Set}
use Rattle.lists.specs.Sets.{Sets, Within, set_no, in_range, takes, same_set, with_set, filled, cleared, struck, after_fill}
use Rattle.lists.specs.Drains.{one, times, after_drain, Drained}
use Rattle.lists.proofs.Rows.{told, chosen}

-- how many numbers from 1 to m pass
unfoldable pub size : (ℕ → Bool) → ℕ → ℕ
size f zero = 0
size f (suc m) = size f m + one (f (suc m))

size_same : (f g : ℕ → Bool) (m : ℕ) → ((c : ℕ) → c ≤ m → f c ≡ g c) → size f m ≡ size g m
unfolding size
size_same f g zero h = refl
size_same f g (suc m) h = ap₂ (λ a b. a + one b) (size_same f g m (λ c le. h c (omega arith))) (h (suc m) (omega arith))

size_none : (f : ℕ → Bool) (m : ℕ) → ((c : ℕ) → f c ≡ false) → size f m ≡ 0
unfolding size
size_none f zero h = refl
size_none f (suc m) h = ap₂ (λ a b. a + one b) (size_none f m h) (h (suc m))

size_range : (n m : ℕ) → n ≤ m → size (λ c. in_range c n) m ≡ n
unfolding size
size_range n zero le = omega arith
size_range n (suc m) le = elim (leb_tells (suc m) n) [
  | inl e ↦
      let e1 = e.1 in
      let all : size (λ c. in_range c n) m ≡ m = size_same (λ c. in_range c n) (λ c. in_range c m) m (λ c le'. grind (arith, nat_tests)) ∙ size_range m m (omega arith) in
      let here : one (in_range (suc m) n) ≡ 1 = grind (arith, nat_tests) in
      omega arith
  | inr e ↦
      let e1 = e.1 in
      let all = size_range n m (omega arith) in
      let here : one (in_range (suc m) n) ≡ 0 = grind (arith, nat_tests) in
      omega arith
]

-- one member less
size_less : (f g : ℕ → Bool) (x : ℕ) → f x ≡ true → ((c : ℕ) → g c ≡ (not (eqb c x) && f c)) → (m : ℕ) → 1 ≤ x → x ≤ m → size g m + 1 ≡ size f m
unfolding size
size_less f g x member less zero lo hi = absurd (omega arith)
size_less f g x member less (suc m) lo hi = elim (eqb_tells x (suc m)) [
  | inl e ↦
      let e1 = e.1 in
      let before : size g m ≡ size f m = size_same g f m (λ c le. less c ∙ (grind (arith, nat_tests))) in
      let was : one (f (suc m)) ≡ 1 = ap (λ v. one (f v)) (sym e1) ∙ ap one member in
      let is : one (g (suc m)) ≡ 0 = ap one (less (suc m)) ∙ (grind (arith, nat_tests)) in
      omega arith
  | inr e ↦
      let e1 = e.1 in
      let ih = size_less f g x member less m lo (omega arith) in
      let same : one (g (suc m)) ≡ one (f (suc m)) = ap one (less (suc m)) ∙ (grind (arith, nat_tests)) in
      omega arith
]

times_push : (c : ℕ) (l : List ℕ) (x : ℕ) → times c (l ++ x ∷ []) ≡ times c l + one (eqb c x)
times_push c [] x = omega arith
times_push c (y ∷ l) x = let ih = times_push c l x in omega arith

-- a set replaced twice, and a set read where it was replaced
module _ (s : Sets) (w : ℕ) (k : Set) where
  pub here : (f : ℕ → Bool) (c : ℕ) → with_set s w k f w k c ≡ f c
  here f c =
      let same : same_set w k w k ≡ true = grind (arith, nat_tests) in
      ap (λ b. cond b (f c) (s w k c)) same

  pub twice : (f g : ℕ → Bool) → with_set (with_set s w k f) w k g ≡ with_set s w k g
  twice f g = fun_ext (λ w'. fun_ext (λ k'. fun_ext (λ c.
      let P : Bool → Type 0 = λ b. cond b (g c) (cond b (f c) (s w' k' c)) ≡ cond b (g c) (s w' k' c) in
      elim (same_set w k w' k') as P [ true ↦ refl | false ↦ refl ])))

  itself : with_set s w k (s w k) ≡ s
  itself = fun_ext (λ w'. fun_ext (λ k'. fun_ext (λ c. at w' k' c)))
    where
      at : (w' : ℕ) (k' : Set) (c : ℕ) → with_set s w k (s w k) w' k' c ≡ s w' k' c
      at w' k' c =
          let P : Bool → Type 0 = λ b. same_set w k w' k' ≡ b → cond b (s w k c) (s w' k' c) ≡ s w' k' c in
          (elim (same_set w k w' k') as P [
            | true ↦ λ e.
                let ew : w' ≡ w = grind (arith, nat_tests) in
                let ek : set_no k' ≡ set_no k = grind (arith, nat_tests) in
                sym (ap (λ v. s v k' c) ew ∙ ap (λ v. s w v c) (told k k' ek))
            | false ↦ λ e. refl
          ]) refl

-- while it is taken from: the other sets are as at the start, each number was taken or is still there
pub record Drawing (n w : ℕ) (k : Set) (start now : Sets) (old new : List ℕ) (count : ℕ) : Type 0 where
  pub others : now ≡ with_set start w k (now w k)
  pub once : (c : ℕ) → times c (take count new) + one (now w k c) ≡ one (in_range c n)
  pub sum : count + size (now w k) 255 ≡ n
  pub limit : n ≤ 255
  pub later : drop n new ≡ drop n old
  pub long : length new ≡ 255

pub begins : (n w : ℕ) (k : Set) (before start : Sets) (old : List ℕ) → n ≤ 255 → length old ≡ 255 → start ≡ filled before w k n → Drawing n w k start start old old 0
begins n w k before start old limit long is =
    let told_here : (c : ℕ) → start w k c ≡ in_range c n = λ c. ap (λ s. s w k c) is ∙ here before w k (λ c. in_range c n) c in
    record {
      others = sym (itself start w k);
      once = λ c. zero-add (one (start w k c)) ∙ ap one (told_here c);
      sum = zero-add (size (start w k) 255) ∙ size_same (start w k) (λ c. in_range c n) 255 (λ c _. told_here c) ∙ size_range n 255 limit;
      limit = limit;
      later = refl;
      long = long;
    }

-- a Fill that was answered can
was_filled : (top w : ℕ) (k : Set) (n : ℕ) (before start : Sets) → true ≡ takes top w n → start ≡ after_fill top before w k n → start ≡ filled before w k n
was_filled top w k n before start can is = is ∙ sym (chosen (takes top w n) (filled before w k n) before (sym can))

pub begins_after_fill : (top n w : ℕ) (k : Set) (before start : Sets) (old : List ℕ) → top ≤ 255 → length old ≡ 255 → true ≡ takes top w n → start ≡ after_fill top before w k n → Drawing n w k start start old old 0
begins_after_fill top n w k before start old low long can is =
    let limit : n ≤ 255 = grind (arith, nat_tests) in
    begins n w k before start old limit long (was_filled top w k n before start can is)

module _ {n w : ℕ} {k : Set} {start now next : Sets} {old new : List ℕ} {count x : ℕ} (h : Drawing n w k start now old new count) (member : now w k x ≡ true) (is : next ≡ struck now w k x) where
  in_it : in_range x n ≡ true
  in_it =
      let o = h.once x in
      let m : one (now w k x) ≡ 1 = ap one member in
      let P : Bool → Type 0 = λ b. times x (take count new) + 1 ≡ one b → b ≡ true in
      (elim (in_range x n) as P [ true ↦ λ _. refl | false ↦ λ e. absurd (omega arith) ]) (ap (λ v. times x (take count new) + v) (sym m) ∙ o)

  less : (c : ℕ) → next w k c ≡ (not (eqb c x) && now w k c)
  less c = ap (λ s. s w k c) is ∙ here now w k (λ c. not (eqb c x) && now w k c) c

  pub falls : size (next w k) 255 + 1 ≡ size (now w k) 255
  falls =
      let r = in_it in let l = h.limit in
      let lo : 1 ≤ x = grind (arith, nat_tests) in
      let hi : x ≤ n = grind (arith, nat_tests) in
      size_less (now w k) (next w k) x member less 255 lo (omega arith)

  pub fits : count < n
  fits = let f = falls in let s = h.sum in omega arith

  pub goes : Drawing n w k start next old (set new count x) (count + 1)
  goes =
      let f = falls in let s = h.sum in let lt = fits in let long = h.long in let limit = h.limit in
      record {
        others = is ∙ ap (λ s. with_set s w k (λ c. not (eqb c x) && now w k c)) h.others ∙ twice start w k (now w k) _ ∙ ap (with_set start w k) (sym (fun_ext less));
        once = λ c.
            let o = h.once c in
            let p : times c (take (count + 1) (set new count x)) ≡ times c (take count new) + one (eqb c x) = ap (times c) (take_more_set new count x (omega arith)) ∙ times_push c (take count new) x in
            elim (eqb_tells c x) [
              | inl e ↦
                  let a : one (eqb c x) ≡ 1 = ap one e.0 in
                  let b : one (next w k c) ≡ 0 = ap one (less c ∙ ap (λ b. not b && now w k c) e.0) in
                  let d : one (now w k c) ≡ 1 = ap one (ap (now w k) e.1 ∙ member) in
                  omega arith
              | inr e ↦
                  let a : one (eqb c x) ≡ 0 = ap one e.0 in
                  let b : one (next w k c) ≡ one (now w k c) = ap one (less c ∙ ap (λ b. not b && now w k c) e.0) in
                  omega arith
            ];
        sum = omega arith;
        limit = h.limit;
        later = drop-set-lt n new count x lt ∙ h.later;
        long = length-set new count x ∙ h.long;
      }

-- where no number passes is counted, none passes
size_nothing : (f : ℕ → Bool) (m : ℕ) → size f m ≡ 0 → (c : ℕ) → in_range c m ≡ true → f c ≡ false
unfolding size
size_nothing f zero z c fit = absurd (let lo : 1 ≤ c = grind (arith, nat_tests) in let hi : c ≤ 0 = grind (arith, nat_tests) in omega arith)
size_nothing f (suc m) z c fit = elim (eqb_tells c (suc m)) [
  | inl e ↦ ap f e.1 ∙ last (f (suc m)) (omega arith)
  | inr e ↦ let e1 = e.1 in size_nothing f m (omega arith) c (grind (arith, nat_tests))
]
  where
    last : (b : Bool) → one b ≡ 0 → b ≡ false
    last true z = absurd (omega arith)
    last false z = refl

-- where all places are written, none is left
pub used_up : {n w : ℕ} {k : Set} {start now : Sets} {old new : List ℕ} {count : ℕ} (top : ℕ) → top ≤ 255 → Within top now → Drawing n w k start now old new count → length new ≤ count → (c : ℕ) → now w k c ≡ false
used_up {n} {w} {k} {start} {now} top low within h full c =
    let s = h.sum in let l = h.limit in let long = h.long in
    let P : Bool → Type 0 = λ b. takes top w c ≡ b → now w k c ≡ false in
    (elim (takes top w c) as P [
      | true ↦ λ fit. size_nothing (now w k) 255 (omega arith) c (grind (arith, nat_tests))
      | false ↦ λ out. within w k c out
    ]) refl

module _ {n w : ℕ} {k : Set} {start now : Sets} {old new : List ℕ} {count : ℕ} (h : Drawing n w k start now old new count) (none : (c : ℕ) → now w k c ≡ false) where
  all : count ≡ n
  all = let s = h.sum in let z = size_none (now w k) 255 none in omega arith

  pub each : (c : ℕ) → times c (take n new) ≡ one (in_range c n)
  each c = let o = h.once c in let z : one (now w k c) ≡ 0 = ap one (none c) in ap (λ m. times c (take m new)) (sym all) ∙ (omega arith)

  pub drained : Drained true n old new
  drained = (each, h.later)

  pub emptied : (before : Sets) → start ≡ filled before w k n → now ≡ cleared before w k
  emptied before is = h.others ∙ ap (with_set start w k) (fun_ext none) ∙ ap (λ s. with_set s w k (λ _. false)) is ∙ twice before w k (λ c. in_range c n) (λ _. false)

  pub emptied_after_fill : (top : ℕ) (before : Sets) → true ≡ takes top w n → start ≡ after_fill top before w k n → now ≡ after_drain top before w k n
  emptied_after_fill top before can is = emptied before (was_filled top w k n before start can is) ∙ chosen (takes top w n) (cleared before w k) before (sym can)
