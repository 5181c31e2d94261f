-- What the steps and calls do to the cells.
use Rattle.std.proofs.Common.{ℕ, zero, suc, ◌-◌}
use Rattle.rules.proofs.Heap.{upd, Colour, white, black, grey, Father, none, source, under, Cells}

abbrev pub darken : Colour → Colour
darken white = white
darken black = grey
darken grey = grey

abbrev pub first_father : ℕ → Father
first_father zero = none
first_father (suc n) = source

abbrev pub scan_by : Cells → ℕ → ℕ → Cells
scan_by c x r = record c { colour = upd c.colour x (darken (c.colour x)); first = upd c.first x (c.arity x); round = upd c.round x (suc r); father = upd c.father x (first_father (c.sources x)) }

abbrev pub scan : Cells → ℕ → Cells
scan c x = scan_by c x c.rnd

abbrev pub claim : Cells → ℕ → ℕ → Cells
claim c w y = record c { father = upd c.father y (under w) }

abbrev pub paint : Cells → ℕ → Cells
paint c y = record c { colour = upd c.colour y black; sources = upd c.sources y (c.sources y - c.putoff y); putoff = upd c.putoff y 0 }

abbrev pub whiten : Cells → ℕ → Cells
whiten c x = record c { colour = upd c.colour x white }

abbrev pub turn : Cells → Cells
turn c = record c { rnd = suc c.rnd }

abbrev pub made : Cells → ℕ → ℕ → (ℕ → ℕ) → Cells
made c x n at = record c { colour = upd c.colour x black; arity = upd c.arity x n; place = upd c.place x at; sources = upd c.sources x 1 }

abbrev pub add : Cells → ℕ → ℕ → Cells
add c x y = record c { arity = upd c.arity x (suc (c.arity x)); place = upd c.place x (upd (c.place x) (suc (c.arity x)) y) }

abbrev pub counts : Cells → (ℕ → ℕ) → (ℕ → ℕ) → Cells
counts c s o = record c { sources = s; putoff = o }
