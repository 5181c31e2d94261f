-- A list of children in eight places.
use Rattle.std.proofs.Common.{◌≡◌, ℕ, zero, suc, ◌+◌, ◌-◌, ◌<◌, ◌≤◌, ◌⊎◌, min, List, [], ◌∷◌, ◌++◌, length, get_or, take, drop, replicate, sym, refl, ap, ◌∙◌, inl, inr, ⊎_elim, arith}
use Rattle.std.proofs.lemmas.List.{ext_get_or, length-take-le, length-append, length-drop, get_or-take, get_or_append_left, get_or-append_right, drop-replicate, take-take, take_at, take-append-le}
use Rattle.std.proofs.lemmas.Bool.{cases_lt}
use Rattle.schedule.specs.Calls.{listed, padded}

zeros : (m k : ℕ) → ◌≡◌ {A = ℕ} (get_or (replicate m 0) k 0) 0
zeros zero k = refl
zeros (suc m) zero = refl
zeros (suc m) (suc k) = zeros m k

zeros_on : (n m k : ℕ) → ◌≡◌ {A = ℕ} (get_or (take n (replicate m 0) ++ replicate 8 0) k 0) 0
zeros_on zero m k = zeros 8 k
zeros_on (suc n) zero k = zeros 8 k
zeros_on (suc n) (suc m) zero = refl
zeros_on (suc n) (suc m) (suc k) = zeros_on n m k

pub padded_at : (n : ℕ) (xs : List ℕ) (k : ℕ) → k < n → k < length xs → get_or (padded n xs) k 0 ≡ get_or xs k 0
padded_at zero xs k a b = absurd (omega arith)
padded_at (suc n) [] k a b = absurd (omega arith)
padded_at (suc n) (x ∷ xs) zero a b = refl
padded_at (suc n) (x ∷ xs) (suc k) a b = padded_at n xs k (omega arith) (omega arith)

pub padded_past : (n : ℕ) (xs : List ℕ) (k : ℕ) → (n ≤ k) ⊎ (length xs ≤ k) → get_or (padded n xs) k 0 ≡ 0
padded_past zero xs k h = zeros 8 k
padded_past (suc n) [] k h = zeros_on (suc n) 8 k
padded_past (suc n) (x ∷ xs) zero h = absurd (omega arith)
padded_past (suc n) (x ∷ xs) (suc k) h = padded_past n xs k (⊎_elim (λ a. inl (omega arith)) (λ b. inr (omega arith)) h)

long : (xs : List ℕ) → length (xs ++ replicate 8 0) ≡ length xs + 8
long xs = length-append xs (replicate 8 0)

-- the cells that the list names, put over eight zeros
module _ (n k : ℕ) (xs : List ℕ) (named : k ≡ min (min n (length xs)) 8) where
  front : length (take k xs) ≡ k
  front = length-take-le k xs (omega arith)

  same : (i : ℕ) → i < 8 → get_or (take k xs ++ drop k (replicate 8 0)) i 0 ≡ get_or (padded n xs) i 0
  same i h = ⊎_elim inside past (cases_lt i k) where
    inside : i < k → get_or (take k xs ++ drop k (replicate 8 0)) i 0 ≡ get_or (padded n xs) i 0
    inside lt =
        get_or_append_left (take k xs) (drop k (replicate 8 0)) 0 i (omega (arith, front))
        ∙ get_or-take k xs i 0 lt
        ∙ sym (padded_at n xs i (omega arith) (omega arith))

    past : k ≤ i → get_or (take k xs ++ drop k (replicate 8 0)) i 0 ≡ get_or (padded n xs) i 0
    past le =
        get_or-append_right (take k xs) (drop k (replicate 8 0)) k i 0 front le
        ∙ ap (λ (l : List ℕ). get_or l (i - k) 0) (drop-replicate k 8 0)
        ∙ zeros (8 - k) (i - k)
        ∙ sym (padded_past n xs i (⊎_elim (λ lt. inr (omega arith)) inl (cases_lt i n)))

  pub kept : take k xs ++ drop k (replicate 8 0) ≡ take 8 (padded n xs)
  kept =
      ext_get_or 0 _ _
      (length-append (take k xs) (drop k (replicate 8 0)) ∙ omega (arith, front, length-drop {A = ℕ} k (replicate 8 0), length-take-le 8 (padded n xs) (omega (arith, long (listed n xs)))))
      (λ i h. let lt : i < 8 = omega (arith, h, length-append (take k xs) (drop k (replicate 8 0)), front, length-drop {A = ℕ} k (replicate 8 0)) in same i lt ∙ sym (get_or-take 8 (padded n xs) i 0 lt))

pub length-listed : (n : ℕ) (xs : List ℕ) → n ≤ 8 → length (listed n xs) ≡ n
length-listed n xs h = length-take-le n (xs ++ replicate 8 0) (omega (arith, long xs))

-- a list that fits is read off its places again
pub listed_padded : (n : ℕ) (xs : List ℕ) → n ≤ 8 → listed n (take 8 (padded n xs)) ≡ listed n xs
listed_padded n xs h =
    take-append-le n (take 8 (padded n xs)) (replicate 8 0) (omega (arith, length-take-le 8 (padded n xs) (omega (arith, long (listed n xs)))))
    ∙ take-take n 8 (padded n xs) h
    ∙ take_at (listed n xs) (replicate 8 0) n (length-listed n xs h)

pub listed_within : (n : ℕ) (xs : List ℕ) → n ≤ length xs → listed n xs ≡ take n xs
listed_within n xs h = take-append-le n xs (replicate 8 0) h
