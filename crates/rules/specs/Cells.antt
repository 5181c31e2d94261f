-- A cell, what stands past the end of the table, and what is changed of a cell at a time. Assumes nothing.
use Rattle.std.specs.Prelude.{ℕ, ◌+◌, ◌-◌, Bool, true, false, cond, ◌&&◌, List, [], ◌++◌, length, drop, replicate, nat_le, slice_index, slice_index_or, slice_set}
use Rattle.graph.specs.Nets.{Net}
use Rattle.rules.specs.declared.cell.Cell.{Cell}
use Rattle.rules.specs.declared.cell.Colour.{Colour}
use Rattle.rules.specs.declared.cell.Colour.TheVariants.{White, Black, Grey}
use Rattle.rules.specs.declared.cell.Father.{Father}
use Rattle.rules.specs.declared.cell.Father.TheVariants.{Nobody, Source, Under}

-- what stands past the end of a table of cells
abbrev pub no_cell : Cell
no_cell = record { arity = 0; places = []; sources = 0; putoff = 0; first = 0; round = 0; colour = White; father = Nobody }

-- a newly opened cell: white, with father -1, the first round, and all else 0
abbrev pub free : ℕ → Cell
free round = record { arity = 0; places = replicate 8 0; sources = 0; putoff = 0; first = 0; round = round; colour = White; father = Nobody }

-- the cell in place j, counted from 1
abbrev pub place : Cell → ℕ → ℕ
place c j = slice_index c.places (j - 1)

-- one of the numbers 1 to n
abbrev pub within : ℕ → ℕ → Bool
within n x = nat_le 1 x && nat_le x n

-- the graph of the cells 1 to n whose arrows are the places 1 to a count
abbrev pub places_to : (Cell → ℕ) → ℕ → List Cell → Net
places_to count n cells = record {
  cells = n;
  arrows = λ x. cond (within n x) (count (slice_index_or cells x no_cell)) 0;
  leads = λ x j. cond (within n x && within (count (slice_index_or cells x no_cell)) j) (place (slice_index_or cells x no_cell) j) 0;
}

-- the children graph: the places 1 to arity
abbrev pub children : ℕ → List Cell → Net
children n cells = places_to (λ c. c.arity) n cells

-- the traced graph: the places 1 to first count
abbrev pub traced : ℕ → List Cell → Net
traced n cells = places_to (λ c. c.first) n cells

abbrev pub with_sources : Cell → ℕ → Cell
with_sources c n = record c { sources = n }

abbrev pub with_putoff : Cell → ℕ → Cell
with_putoff c n = record c { putoff = n }

abbrev pub with_colour : Cell → Colour → Cell
with_colour c k = record c { colour = k }

abbrev pub with_father : Cell → Father → Cell
with_father c f = record c { father = f }

-- y takes the next place
abbrev pub with_child : Cell → ℕ → Cell
with_child c y = record c { arity = c.arity + 1; places = slice_set c.places c.arity y }

-- black, with source count 1 and these children; the places past them keep their cells
abbrev pub made : Cell → List ℕ → Cell
made c list = record c { arity = length list; places = list ++ drop (length list) c.places; sources = 1; colour = Black }

abbrev pub is_white : Colour → Bool
is_white White = true
is_white Black = false
is_white Grey = false

abbrev pub is_grey : Colour → Bool
is_grey White = false
is_grey Black = false
is_grey Grey = true

abbrev pub is_source : Father → Bool
is_source Nobody = false
is_source Source = true
is_source (Under w) = false
