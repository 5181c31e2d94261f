-- What a search answers, and what it leaves in the scratch strip.
use Rattle.std.specs.Prelude.{◌≡◌, ℕ, ◌-◌, ◌<◌, ◌≤◌, Bool, true, false, ◌⊎◌, List, length, drop, Ok, Err, Result, slice_index}
use Rattle.graph.specs.declared.refusal.SearchRefusal.{SearchRefusal}
use Rattle.graph.specs.declared.refusal.SearchRefusal.TheVariants.{ShortStrip, NoCell}
use Rattle.graph.specs.declared.outcome.Outcome.{Outcome}
use Rattle.graph.specs.Nets.{Net, CellOf, Reached}

-- the number of each refusal
abbrev pub number_of : SearchRefusal → ℕ
number_of ShortStrip = 17
number_of NoCell = 8

-- a nonzero byte of a strip, which has one a cell, marks the cell
abbrev pub Marked : List ℕ → ℕ → Type 0
Marked strip x = slice_index strip (x - 1) ≡ 0 → ⊥

-- both strips have a byte for every cell
abbrev pub Roomy : Net → List ℕ → List ℕ → Type 0
Roomy g starts scratch = (g.cells ≤ length starts) × (g.cells ≤ length scratch)

-- yes is said exactly of what holds
abbrev pub Decides : Bool → Type 0 → Type 0
Decides true P = P
Decides false P = P → ⊥

-- which refusal comes when: 17 for a short strip, and 8, tried after it, for a goal that is no cell
abbrev pub Refuses : Net → ℕ → List ℕ → List ℕ → ℕ → Type 0
Refuses g goal starts scratch n =
    ((n ≡ 17) × (Roomy g starts scratch → ⊥)) ⊎ ((n ≡ 8) × Roomy g starts scratch × (CellOf g goal → ⊥))

-- the answer: yes exactly if some path leads from a start to the goal, else the refusal that is due
abbrev pub Answers : Net → ℕ → List ℕ → List ℕ → Result Bool SearchRefusal → Type 0
Answers g goal starts scratch (Ok found) = Roomy g starts scratch × CellOf g goal × Decides found (Reached g (Marked starts) goal)
Answers g goal starts scratch (Err e) = Refuses g goal starts scratch (number_of e)

-- every byte is zero
abbrev pub Zeros : List ℕ → Type 0
Zeros strip = (k : ℕ) → k < length strip → slice_index strip k ≡ 0

-- the first n bytes are zero, and the later ones are as they were
pub record Wiped (n : ℕ) (before after : List ℕ) : Type 0 where
  pub zeros : (k : ℕ) → k < n → slice_index after k ≡ 0
  pub later : drop n after ≡ drop n before

-- what is left in the scratch strip: all as it was after 17, and else zeros, one a cell
abbrev pub Leaves : ℕ → List ℕ → List ℕ → Result Bool SearchRefusal → Type 0
Leaves n before after (Ok _) = Wiped n before after
Leaves n before after (Err e) = ((number_of e ≡ 17) × (after ≡ before)) ⊎ ((number_of e ≡ 8) × Wiped n before after)

-- the answer without its cost
abbrev pub answer_of : Result Outcome SearchRefusal → Result Bool SearchRefusal
answer_of (Ok outcome) = Ok outcome.reached
answer_of (Err e) = Err e
