-- Binary digits: what setting or clearing one does to the numbers that words hold, and where the lowest digit stands.
use Rattle.std.specs.Prelude.{◌≡◌, ℕ, zero, suc, ◌+◌, ◌*◌, ◌/◌, ◌%◌, ◌^◌, ◌<◌, ◌≤◌, Bool, true, false, cond, not, ◌&&◌, ◌≢◌, List, [], ◌∷◌, length, Some, ◌==◌, bit_or, bit_and, nat_eq, slice_index, slice_index_or, slice_set, refl}
use Rattle.std.proofs.Common.{w64, sym, ap₂, ◌∙◌, inl, inr, arith, get_or-set_same, get_or-set_other}
use Rattle.std.proofs.Math.Path.{ap}
use Rattle.std.specs.Int.{bit_not}
use Rattle.std.specs.Int.Count.{count_trailing_zeros}
use Rattle.std.proofs.lemmas.Nat.Bits.{bit_at-zero, bit_at_set_same, bit_at_set_other, bit_at_clear_same, bit_at_clear_other, bit_at-trailing_zeros}
use Rattle.std.proofs.lemmas.List.{get_or_past}
use Rattle.std.proofs.lemmas.Bool.Decides.{nat_tests, eqb_tells, leb_tells}
use Rattle.lines.specs.Numbers.{in_range}
use Rattle.lines.specs.Bits.{digit, held, HeldNone, HeldToo, HeldBut, Lowest}

-- the word of x replaced
held_set : (ws : List ℕ) (x v c : ℕ) → x / 64 < length ws → held (slice_set ws (x / 64) v) c ≡ cond (c / 64 == x / 64) (digit v (c % 64) == 1) (held ws c)
unfolding held
held_set ws x v c lt =
    elim (eqb_tells (c / 64) (x / 64)) [
      | inl e ↦
          ap (λ n. nat_eq (digit n (c % 64)) 1) (ap (λ i. slice_index (slice_set ws (x / 64) v) i) e.1 ∙ get_or-set_same ws (x / 64) v 0 lt)
          ∙ sym (ap (λ b. cond b (digit v (c % 64) == 1) (held ws c)) e.0)
      | inr e ↦
          ap (λ n. nat_eq (digit n (c % 64)) 1) (get_or-set_other ws (x / 64) (c / 64) v 0 e.1)
          ∙ sym (ap (λ b. cond b (digit v (c % 64) == 1) (held ws c)) e.0)
    ]

-- the digit of x becomes b
one_changed : (ws : List ℕ) (x v b : ℕ) → x / 64 < length ws → digit v (x % 64) ≡ b → ((p : ℕ) → p < 64 → (p ≢ x % 64) → digit v p ≡ digit (slice_index ws (x / 64)) p) → (c : ℕ) → held (slice_set ws (x / 64) v) c ≡ cond (c == x) (b == 1) (held ws c)
unfolding held
one_changed ws x v b lt same others c =
    held_set ws x v c lt ∙ (elim (eqb_tells (c / 64) (x / 64)) [
      | inl e ↦
          let e1 = e.1 in
          ap (λ t. cond t (digit v (c % 64) == 1) (held ws c)) e.0 ∙ (elim (eqb_tells (c % 64) (x % 64)) [
            | inl f ↦
                let f1 = f.1 in
                let it : nat_eq c x ≡ true = grind (arith, nat_tests) in
                ap (λ d. nat_eq d 1) (ap (digit v) f1 ∙ same) ∙ sym (ap (λ t. cond t (b == 1) (held ws c)) it)
            | inr f ↦
                let f1 = f.1 in
                let other : nat_eq c x ≡ false = apart c x (λ s. f1 (ap (λ n. n % 64) s)) in
                ap (λ d. nat_eq d 1) (others (c % 64) (omega arith) f1 ∙ ap (λ n. digit (slice_index ws n) (c % 64)) (sym e1)) ∙ sym (ap (λ t. cond t (b == 1) (held ws c)) other)
          ])
      | inr e ↦
          let e1 = e.1 in
          let other : nat_eq c x ≡ false = apart c x (λ s. e1 (ap (λ n. n / 64) s)) in
          ap (λ t. cond t (digit v (c % 64) == 1) (held ws c)) e.0 ∙ sym (ap (λ t. cond t (b == 1) (held ws c)) other)
    ])
  where
    apart : (m n : ℕ) → (m ≢ n) → (m == n) ≡ false
    apart m n h = elim (eqb_tells m n) [ inl e ↦ absurd (h e.1) | inr e ↦ e.0 ]

module _ (ws : List ℕ) (x : ℕ) (len : length ws ≡ 4) (small : x < 256) where
  pub inserted : 1 ≤ x → HeldToo ws x (slice_set ws (x / 64) (bit_or (slice_index ws (x / 64)) ((1 * 2 ^ (x % 64)) % 2 ^ 64)))
  inserted pos c =
      let w = slice_index_or ws (x / 64) 0 in
      let k = x % 64 in
      let within : k < 64 = omega arith in
      one_changed ws x _ 1 (omega arith) (bit_at_set_same w64 w k within) (λ p _ ne. bit_at_set_other w64 w k within p ne) c ∙ (grind (arith, nat_tests))

  pub removed : HeldBut ws x (slice_set ws (x / 64) (bit_and (slice_index ws (x / 64)) (bit_not w64 ((1 * 2 ^ (x % 64)) % 2 ^ 64))))
  removed c =
      let w = slice_index_or ws (x / 64) 0 in
      let k = x % 64 in
      let within : k < 64 = omega arith in
      one_changed ws x _ 0 (omega arith) (bit_at_clear_same w64 w k within) (λ p lt ne. bit_at_clear_other w64 w k within p lt ne) c ∙ (grind (arith, nat_tests))

-- where a word is 0 nothing is held
nothing_in : (ws : List ℕ) (c : ℕ) → slice_index ws (c / 64) ≡ 0 → held ws c ≡ false
unfolding held
nothing_in ws c none = ap (λ n. nat_eq (digit n (c % 64)) 1) none ∙ ap (λ d. nat_eq d 1) (bit_at-zero (c % 64))

pub none_held : (ws : List ℕ) → length ws ≡ 4 → ((i : ℕ) → i < 4 → slice_index ws i ≡ 0) → HeldNone ws
none_held ws len zeros c =
    nothing_in ws c (elim (leb_tells 4 (c / 64)) [
      | inl past ↦ get_or_past ws (c / 64) 0 (omega arith)
      | inr within ↦ zeros (c / 64) within.1
    ])

-- the lowest digit of the first word that is not 0 is the lowest number held
pub lowest_held : (ws : List ℕ) (i : ℕ) → slice_index ws i ≢ 0 → slice_index ws i < 2 ^ 64 → ((j : ℕ) → j < i → slice_index ws j ≡ 0) → Lowest ws (Some (64 * i + count_trailing_zeros 64 (slice_index ws i)))
unfolding held
lowest_held ws i some small zeros =
    let w = slice_index_or ws i 0 in
    let t = count_trailing_zeros 64 w in
    let spec = bit_at-trailing_zeros w64 w (omega arith) small in
    let lt : t < 64 = spec.0 in
    let q : (64 * i + t) / 64 ≡ i = omega arith in
    let r : (64 * i + t) % 64 ≡ t = omega arith in (
      ap₂ (λ a b. nat_eq (digit (slice_index ws a) b) 1) q r ∙ ap (λ d. nat_eq d 1) spec.1,
      λ c below. elim (eqb_tells (c / 64) i) [
        | inl e ↦
            let e1 = e.1 in
            ap (λ a. nat_eq (digit (slice_index ws a) (c % 64)) 1) e1 ∙ ap (λ d. nat_eq d 1) (spec.2 (c % 64) (omega arith))
        | inr e ↦ let e1 = e.1 in nothing_in ws c (zeros (c / 64) (omega arith))
      ],
    )

pub zero_words : HeldNone (0 ∷ 0 ∷ 0 ∷ 0 ∷ [])
zero_words = none_held (0 ∷ 0 ∷ 0 ∷ 0 ∷ []) refl zeros
  where
    zeros : (i : ℕ) → i < 4 → slice_index_or {A = ℕ} (0 ∷ 0 ∷ 0 ∷ 0 ∷ []) i 0 ≡ 0
    zeros zero lt = refl
    zeros (suc zero) lt = refl
    zeros (suc (suc zero)) lt = refl
    zeros (suc (suc (suc zero))) lt = refl
    zeros (suc (suc (suc (suc i)))) lt = refl

-- a stranger's removal changes nothing
pub not_held : (ws : List ℕ) (x : ℕ) → held ws x ≡ false → HeldBut ws x ws
not_held ws x out c = elim (eqb_tells c x) [
  | inl e ↦ let e0 = e.0 in let out' : held ws c ≡ false = ap (held ws) e.1 ∙ out in out' ∙ sym (ap (λ b. not b && held ws c) e0)
  | inr e ↦ sym (ap (λ b. not b && held ws c) e.0)
]

pub and_no : (b : Bool) → (b && false) ≡ false
and_no true = refl
and_no false = refl

-- what is held is from 1 to 255
module _ (ws : List ℕ) (len : length ws ≡ 4) (unused : held ws 0 ≡ false) where
  pub held_range : (c : ℕ) → held ws c ≡ true → in_range c 255 ≡ true
  held_range c member =
      let low : (c ≢ 0) = λ e. clash (held ws c) member (ap (held ws) e ∙ unused) in
      elim (leb_tells 4 (c / 64)) [
        | inl past ↦ absurd (clash (held ws c) member (nothing_in ws c (get_or_past ws (c / 64) 0 (let p = past.1 in omega arith))))
        | inr within ↦ (let w = within.1 in let lo : 1 ≤ c = omega arith in let hi : c ≤ 255 = omega arith in grind (arith, nat_tests))
      ]
    where
      clash : (b : Bool) → b ≡ true → b ≢ false
      clash b p q = let z : ◌≡◌ {A = Bool} true false = sym p ∙ q in cc

  pub held_within : (c : ℕ) → held ws c ≡ (in_range c 255 && held ws c)
  held_within c =
      let P : Bool → Type 0 = λ b. held ws c ≡ b → b ≡ (in_range c 255 && b) in
      (elim (held ws c) as P [
        | true ↦ λ member. sym (ap (λ b. b && true) (held_range c member))
        | false ↦ λ _. sym (and_no (in_range c 255))
      ]) refl
