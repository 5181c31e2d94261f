-- The store seen as functions, as the theory has it.
use Rattle.std.proofs.Common.{ℕ, zero, suc, ◌+◌, ◌-◌, Bool, false, List, [], ◌∷◌, get_or}
use Rattle.lists.specs.Sets.{Sets}
use Rattle.lists.specs.declared.waiting.Set.{Set}
use Rattle.lists.specs.declared.waiting.Set.TheVariants.{Check, Start, Follow}
use Rattle.rules.specs.declared.cell.Cell.{Cell}
use Rattle.rules.specs.declared.cell.Colour.{Colour}
use Rattle.rules.specs.declared.cell.Colour.TheVariants.{White, Black, Grey}
use Rattle.rules.specs.declared.cell.Father.{Father}
use Rattle.rules.specs.declared.cell.Father.TheVariants.{Nobody, Source, Under}
use Rattle.rules.specs.declared.worker.Worker.{Worker}
use Rattle.rules.specs.declared.worker.Label.{Label}
use Rattle.rules.specs.declared.worker.Label.TheVariants.{Idle, L101, L108, L121, L122, L126, L150, L151, L157, L158, L163, L168, L175, L180, L129, L134, L135, L137}
use Rattle.rules.specs.Cells.{no_cell}
use Rattle.rules.specs.Workers.{no_worker}
use Rattle.rules.specs.States.{State}
use Rattle.rules.proofs.Heap.{Cells, white, black, grey, none, source, under, Colour as Shade, Father as Parent}
use Rattle.rules.proofs.Walkers.{idle, l101, l108, l121, l122, l126, l150, l151, l157, l158, l163, l168, l175, l180, l129, l134, l135, l137, Label as Stand, Worker as Walker}
use Rattle.rules.proofs.From1.{from1}
use Rattle.rules.proofs.Moves.{View}
use Rattle.rules.proofs.Copies.{copies}

abbrev pub shade : Colour → Shade
shade White = white
shade Black = black
shade Grey = grey

abbrev pub parent : Father → Parent
parent Nobody = none
parent Source = source
parent (Under w) = under w

-- the top first
abbrev pub stacked : List ℕ → ℕ → List ℕ
stacked xs zero = []
stacked xs (suc d) = get_or xs d 0 ∷ stacked xs d

-- where a worker stands: the copies still to be looked at, and those after the one that is looked at
abbrev pub stand : Label → ℕ → ℕ → ℕ → List ℕ → List ℕ → Stand
stand Idle x y v rest after = idle
stand L101 x y v rest after = l101
stand L108 x y v rest after = l108 x
stand L121 x y v rest after = l121
stand L122 x y v rest after = l122
stand L126 x y v rest after = l126 x
stand L150 x y v rest after = l150 x
stand L151 x y v rest after = l151 x
stand L157 x y v rest after = l157 x v
stand L158 x y v rest after = l158 x v rest
stand L163 x y v rest after = l163 x v y after
stand L168 x y v rest after = l168 x
stand L175 x y v rest after = l175 x y
stand L180 x y v rest after = l180
stand L129 x y v rest after = l129
stand L134 x y v rest after = l134 x
stand L135 x y v rest after = l135
stand L137 x y v rest after = l137

-- the copies from number j on
abbrev pub copies_from : Worker → ℕ → List ℕ
copies_from k j = copies (λ i. get_or k.copies (i - 1) 0) j (suc k.copied - j)

abbrev pub stand_of : Label → Worker → Stand
stand_of l k = stand l k.x k.y k.w (copies_from k k.j) (copies_from k (k.j + 1))

abbrev pub seen_worker : (Set → ℕ → Bool) → Worker → Walker
seen_worker sets k = record { own = k.own; label = stand_of k.label k; check = sets Check; start = sets Start; follow = sets Follow; stack = stacked k.stack k.depth }

abbrev pub seen_cells : ℕ → List Cell → Cells
seen_cells r xs = record {
  colour = λ x. shade (get_or xs x no_cell).colour;
  arity = λ x. (get_or xs x no_cell).arity;
  place = λ x. from1 (get_or xs x no_cell).places 0;
  sources = λ x. (get_or xs x no_cell).sources;
  putoff = λ x. (get_or xs x no_cell).putoff;
  first = λ x. (get_or xs x no_cell).first;
  round = λ x. (get_or xs x no_cell).round;
  father = λ x. parent (get_or xs x no_cell).father;
  rnd = r;
}

abbrev pub seen_workers : Sets → List Worker → ℕ → Walker
seen_workers sets ws p = seen_worker (sets p) (get_or ws p no_worker)

abbrev pub root_of : Worker → ℕ → Bool
root_of w x = get_or w.roots x false

abbrev pub box_of : Worker → ℕ → ℕ
box_of w r = get_or w.boxes r 0

abbrev pub view : State → View
view m = record {
  cells = seen_cells m.round m.cells;
  workers = seen_workers m.sets m.workers;
  roots = λ p. root_of (get_or m.workers p no_worker);
  box = λ p. box_of (get_or m.workers p no_worker);
}
