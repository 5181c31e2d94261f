-- What holds of every drawing. Assumes nothing.
use Rattle.std.specs.Prelude.{ℕ, ◌+◌, ◌*◌, ◌≤◌, List, slice_index}
use Rattle.graph.specs.Nets.{Within}

-- where arrow j of cell x ends
abbrev pub end_of : List ℕ → ℕ → ℕ → ℕ
end_of ends x j = slice_index ends (256 * x + j)

-- no cell has more arrows than there is room for
abbrev pub Few : List ℕ → Type 0
Few arrows = (x : ℕ) → slice_index arrows x ≤ 255

-- every arrow ends at one of the cells 1 to n
abbrev pub Held : ℕ → List ℕ → List ℕ → Type 0
Held n arrows ends = (x j : ℕ) → Within (slice_index arrows x) j → Within n (end_of ends x j)
