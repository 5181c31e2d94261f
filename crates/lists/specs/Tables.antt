-- What a table of 24 sets means: a line for each worker and set. Assumes nothing.
use Rattle.std.specs.Prelude.{◌≡◌, ℕ, zero, suc, ◌+◌, ◌-◌, ◌*◌, false, cond, ◌&&◌, List, [], ◌∷◌, Some, None, Option}
use Rattle.std.proofs.Common.{ap}
use Rattle.lists.specs.declared.waiting.Set.{Set}
use Rattle.lists.specs.declared.table.Table.{Table}
use Rattle.lists.specs.Sets.{Sets, set_no, is_worker, takes, same_set}
use Rattle.lines.specs.Lines.{Joining, in_line, joined, counted, without, first, rest}

-- The row of a set in the table.
abbrev pub place : ℕ → Set → ℕ
place w k = 3 * (w - 1) + set_no k

-- The row of a set, if it is there.
abbrev pub row : ℕ → Set → Option ℕ
row w k = cond (is_worker w) (Some (place w k)) None

-- The row of a set and a cell for it, if the set is there and its kind carries the cell.
abbrev pub row_with : ℕ → ℕ → Set → ℕ → Option (ℕ × ℕ)
row_with top w k c = cond (takes top w c) (Some (place w k, c)) None

-- The line in row i, and none past the end.
abbrev pub line_at : {S : Type 0} → (S → List ℕ) → List S → ℕ → List ℕ
line_at line [] i = []
line_at line (s ∷ t) zero = line s
line_at line (s ∷ t) (suc i) = line_at line t i

-- The line of each worker's set.
abbrev pub Lines : Type 0
Lines = ℕ → Set → List ℕ

-- The lines that rows of sets stand for; an absent set's is empty.
abbrev pub rows_lines : {S : Type 0} → (S → List ℕ) → List S → Lines
rows_lines line t w k = cond (is_worker w) (line_at line t (place w k)) []

-- The lines that a table stands for.
abbrev pub lines : {S : Type 0} → (S → List ℕ) → Table S → Lines
lines line t = rows_lines line t.rows

-- The members of each set: the numbers in its line.
abbrev pub members : ℕ → Lines → Sets
members top ls w k c = takes top w c && in_line c (ls w k)

-- One line becomes l; every other is as it was.
abbrev pub with_line : Lines → ℕ → Set → List ℕ → Lines
with_line ls w k l = λ w' k'. cond (same_set w k w' k') l (ls w' k')

-- No set has a member.
abbrev pub no_lines : Lines
no_lines w k = []

-- The lines after Fill: 1 to n were put in turn, or as they were where Fill answers no.
abbrev pub after_fill_lines : Joining → ℕ → Lines → ℕ → Set → ℕ → Lines
after_fill_lines joins top ls w k n = cond (takes top w n) (with_line ls w k (counted joins n)) ls

-- The lines after Clear.
abbrev pub after_clear_lines : Lines → ℕ → Set → Lines
after_clear_lines ls w k = with_line ls w k []

-- The lines after Put: the newcomer has joined, or as they were where Put answers no.
abbrev pub after_put_lines : Joining → ℕ → Lines → ℕ → Set → ℕ → Lines
after_put_lines joins top ls w k x = cond (takes top w x) (with_line ls w k (joined joins (ls w k) x)) ls

-- The lines after Strike: the cell has left, the others stand as they stood.
abbrev pub after_strike_lines : Lines → ℕ → Set → ℕ → Lines
after_strike_lines ls w k x = with_line ls w k (without (ls w k) x)

-- Take answers who is next, who leaves the line.
abbrev pub TookFirst : Lines → ℕ → Set → Option ℕ → Lines → Type 0
TookFirst ls w k r ls' = (r ≡ first (ls w k)) × (ls' ≡ with_line ls w k (rest (ls w k)))

-- Only carried cells of present sets are members.
pub members_within : (top : ℕ) (ls : Lines) → (w : ℕ) (k : Set) (c : ℕ) → takes top w c ≡ false → members top ls w k c ≡ false
members_within top ls w k c no_one = ap (λ b. b && in_line c (ls w k)) no_one
