-- What waiting lists mean: which cell numbers are members, for each worker and each of its three sets, and what each call makes of that.
-- Assumes nothing.
use Rattle.std.specs.Prelude.{◌≡◌, ℕ, Bool, true, false, cond, not, ◌&&◌, ◌||◌, Some, None, Option, ◌==◌, nat_le}
pub use Rattle.lines.specs.Numbers.{in_range, Bounded}
use Rattle.lists.specs.declared.waiting.Set.{Set}
use Rattle.lists.specs.declared.waiting.Set.TheVariants.{Check, Start, Follow}

-- The place of a set among a worker's three.
abbrev pub set_no : Set → ℕ
set_no Check = 0
set_no Start = 1
set_no Follow = 2

-- Is c a member of this worker's set?
abbrev pub Sets : Type 0
Sets = ℕ → Set → ℕ → Bool

-- The workers are numbered 1 to 8; a set of any other worker is absent.
abbrev pub is_worker : ℕ → Bool
is_worker w = nat_le 1 w && nat_le w 8

-- What Fill and Put answer: yes exactly for a number from 1 to the kind's highest and a set that is there.
abbrev pub takes : ℕ → ℕ → ℕ → Bool
takes top w n = is_worker w && in_range n top

-- Absent sets are empty, and every member is from 1 to the kind's highest.
abbrev pub Within : ℕ → Sets → Type 0
Within top s = (w : ℕ) (k : Set) (c : ℕ) → takes top w c ≡ false → s w k c ≡ false

-- Do these name one set?
abbrev pub same_set : ℕ → Set → ℕ → Set → Bool
same_set w k w' k' = w' == w && set_no k' == set_no k

-- One set becomes f; every other is as it was.
abbrev pub with_set : Sets → ℕ → Set → (ℕ → Bool) → Sets
with_set s w k f = λ w' k' c. cond (same_set w k w' k') (f c) (s w' k' c)

-- The set is 1 to n.
abbrev pub filled : Sets → ℕ → Set → ℕ → Sets
filled s w k n = with_set s w k (λ c. in_range c n)

-- The set is empty.
abbrev pub cleared : Sets → ℕ → Set → Sets
cleared s w k = with_set s w k (λ _. false)

-- The set has x too.
abbrev pub added : Sets → ℕ → Set → ℕ → Sets
added s w k x = with_set s w k (λ c. (c == x) || s w k c)

-- The set is without x.
abbrev pub struck : Sets → ℕ → Set → ℕ → Sets
struck s w k x = with_set s w k (λ c. not (c == x) && s w k c)

-- After Fill: filled, or as it was where Fill answers no.
abbrev pub after_fill : ℕ → Sets → ℕ → Set → ℕ → Sets
after_fill top s w k n = cond (takes top w n) (filled s w k n) s

-- After Put: with the cell, or as it was where Put answers no.
abbrev pub after_put : ℕ → Sets → ℕ → Set → ℕ → Sets
after_put top s w k x = cond (takes top w x) (added s w k x) s

-- What Take may answer, and the sets after: none of an empty set, else a member, which is then struck.
abbrev pub Took : Sets → ℕ → Set → Option ℕ → Sets → Type 0
Took s w k None t = ((c : ℕ) → s w k c ≡ false) × (t ≡ s)
Took s w k (Some x) t = (s w k x ≡ true) × (t ≡ struck s w k x)
