-- Numbers held as binary digits of 64-bit words: digit c % 64 of word c / 64 stands for c. Assumes nothing.
use Rattle.std.specs.Prelude.{◌≡◌, ℕ, ◌/◌, ◌%◌, ◌^◌, ◌<◌, Bool, true, false, not, ◌&&◌, ◌||◌, List, Some, None, Option, ◌==◌, nat_le, slice_index}

-- The binary digit of n at place p.
abbrev pub digit : ℕ → ℕ → ℕ
digit n p = n / 2 ^ p % 2

-- Does the digit that stands for c stand?
unfoldable pub held : List ℕ → ℕ → Bool
held words c = digit (slice_index words (c / 64)) (c % 64) == 1

-- Nothing is held.
abbrev pub HeldNone : List ℕ → Type 0
HeldNone words = (c : ℕ) → held words c ≡ false

-- x is held too, unless it is 0; all else is as it was.
abbrev pub HeldToo : List ℕ → ℕ → List ℕ → Type 0
HeldToo old x new = (c : ℕ) → held new c ≡ ((nat_le 1 c && c == x) || held old c)

-- x is not held; all else is as it was.
abbrev pub HeldBut : List ℕ → ℕ → List ℕ → Type 0
HeldBut old x new = (c : ℕ) → held new c ≡ (not (c == x) && held old c)

-- The lowest number that is held, or none where nothing is.
abbrev pub Lowest : List ℕ → Option ℕ → Type 0
Lowest words None = HeldNone words
Lowest words (Some x) = (held words x ≡ true) × ((c : ℕ) → c < x → held words c ≡ false)
