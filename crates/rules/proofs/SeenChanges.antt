-- Each change of a cell is the theory's.
use Rattle.std.proofs.Common.{◌≡◌, ℕ, zero, suc, ◌+◌, ◌-◌, ◌<◌, Bool, true, cond, ltb, List, length, get_or, set, refl, ap, ◌∙◌, add-one, arith}
use mathlib.Core.Path.{fun_ext}
use Rattle.rules.specs.declared.cell.Cell.{Cell}
use Rattle.rules.specs.declared.cell.Colour.{Colour}
use Rattle.rules.specs.declared.cell.Colour.TheVariants.{White, Black, Grey}
use Rattle.rules.specs.declared.cell.Father.TheVariants.{Nobody, Source, Under}
use Rattle.rules.specs.Cells.{no_cell}
use Rattle.rules.specs.Cells.{with_sources, with_putoff, with_colour, with_father, with_child, made}
use Rattle.rules.proofs.Seen.{shade, parent, seen_cells}
use Rattle.rules.specs.Rounds.{scanned, painted, greyed}
use Rattle.rules.proofs.Views.{upd_same, seen_put}
use Rattle.rules.proofs.Heap.{upd, Cells, white, black, under}
use Rattle.rules.proofs.HeapChanges.{darken, first_father, scan_by, claim, paint, whiten, add, counts, made as madeBy}
use Rattle.rules.proofs.Moves.{more}
use Rattle.rules.proofs.From1.{from1}
use Rattle.rules.proofs.Places.{from1_set}

dark : (c : Colour) → shade (greyed c) ≡ darken (shade c)
dark White = refl
dark Black = refl
dark Grey = refl

above : (n : ℕ) → ltb 0 (suc n) ≡ true
above n = grind arith

father_of : (n : ℕ) → parent (cond (ltb 0 n) Source Nobody) ≡ first_father n
father_of zero = refl
father_of (suc n) = ap (λ (b : Bool). parent (cond b Source Nobody)) (above n)

module _ (r : ℕ) (xs : List Cell) (k : ℕ) (h : k < length xs) where
  abbrev c : Cells
  c = seen_cells r xs

  abbrev q : Cell
  q = get_or xs k no_cell

  pub see_paint : seen_cells r (set xs k (painted q)) ≡ paint c k
  see_paint = seen_put r xs k (painted q) h ∙ (λ i. record {
    colour = upd c.colour k black;
    arity = upd_same c.arity k q.arity refl i;
    place = upd_same c.place k (c.place k) refl i;
    sources = upd c.sources k (c.sources k - c.putoff k);
    putoff = upd c.putoff k 0;
    first = upd_same c.first k (c.first k) refl i;
    round = upd_same c.round k (c.round k) refl i;
    father = upd_same c.father k (c.father k) refl i;
    rnd = r;
  })

  pub see_white : seen_cells r (set xs k (with_colour q White)) ≡ whiten c k
  see_white = seen_put r xs k (with_colour q White) h ∙ (λ i. record {
    colour = upd c.colour k white;
    arity = upd_same c.arity k q.arity refl i;
    place = upd_same c.place k (c.place k) refl i;
    sources = upd_same c.sources k (c.sources k) refl i;
    putoff = upd_same c.putoff k (c.putoff k) refl i;
    first = upd_same c.first k (c.first k) refl i;
    round = upd_same c.round k (c.round k) refl i;
    father = upd_same c.father k (c.father k) refl i;
    rnd = r;
  })

  pub see_scan : (own : ℕ) → seen_cells r (set xs k (scanned q own)) ≡ scan_by c k own
  see_scan own = seen_put r xs k (scanned q own) h ∙ (λ i. record {
    colour = upd c.colour k (dark q.colour i);
    arity = upd_same c.arity k q.arity refl i;
    place = upd_same c.place k (c.place k) refl i;
    sources = upd_same c.sources k (c.sources k) refl i;
    putoff = upd_same c.putoff k (c.putoff k) refl i;
    first = upd c.first k (c.arity k);
    round = upd c.round k (add-one own i);
    father = upd c.father k (father_of q.sources i);
    rnd = r;
  })

  -- a cell that is made has the children listed
  pub see_made : (list : List ℕ) → seen_cells r (set xs k (made q list)) ≡ madeBy c k (length list) (from1 (made q list).places 0)
  see_made list = seen_put r xs k (made q list) h ∙ (λ i. record {
    colour = upd c.colour k black;
    arity = upd c.arity k (length list);
    place = upd c.place k (from1 (made q list).places 0);
    sources = upd c.sources k 1;
    putoff = upd_same c.putoff k (c.putoff k) refl i;
    first = upd_same c.first k (c.first k) refl i;
    round = upd_same c.round k (c.round k) refl i;
    father = upd_same c.father k (c.father k) refl i;
    rnd = r;
  })

  pub see_source : seen_cells r (set xs k (with_sources q (q.sources + 1))) ≡ counts c (more c.sources k) c.putoff
  see_source = seen_put r xs k (with_sources q (q.sources + 1)) h ∙ (λ i. record {
    colour = upd_same c.colour k (c.colour k) refl i;
    arity = upd_same c.arity k q.arity refl i;
    place = upd_same c.place k (c.place k) refl i;
    sources = upd c.sources k (add-one q.sources i);
    putoff = upd_same c.putoff k (c.putoff k) refl i;
    first = upd_same c.first k (c.first k) refl i;
    round = upd_same c.round k (c.round k) refl i;
    father = upd_same c.father k (c.father k) refl i;
    rnd = r;
  })

  pub see_putoff : (n : ℕ) → n ≡ suc q.putoff → seen_cells r (set xs k (with_putoff q n)) ≡ counts c c.sources (more c.putoff k)
  see_putoff n e = seen_put r xs k (with_putoff q n) h ∙ (λ i. record {
    colour = upd_same c.colour k (c.colour k) refl i;
    arity = upd_same c.arity k q.arity refl i;
    place = upd_same c.place k (c.place k) refl i;
    sources = upd_same c.sources k (c.sources k) refl i;
    putoff = upd c.putoff k (e i);
    first = upd_same c.first k (c.first k) refl i;
    round = upd_same c.round k (c.round k) refl i;
    father = upd_same c.father k (c.father k) refl i;
    rnd = r;
  })

  pub see_add : (y : ℕ) → q.arity < length q.places → seen_cells r (set xs k (with_child q y)) ≡ add c k y
  see_add y l = seen_put r xs k (with_child q y) h ∙ (λ i. record {
    colour = upd_same c.colour k (c.colour k) refl i;
    arity = upd c.arity k (add-one q.arity i);
    place = upd c.place k (fun_ext (from1_set q.places 0 q.arity y l) i);
    sources = upd_same c.sources k (c.sources k) refl i;
    putoff = upd_same c.putoff k (c.putoff k) refl i;
    first = upd_same c.first k (c.first k) refl i;
    round = upd_same c.round k (c.round k) refl i;
    father = upd_same c.father k (c.father k) refl i;
    rnd = r;
  })

  pub see_claim : (v : ℕ) → seen_cells r (set xs k (with_father q (Under v))) ≡ claim c v k
  see_claim v = seen_put r xs k (with_father q (Under v)) h ∙ (λ i. record {
    colour = upd_same c.colour k (c.colour k) refl i;
    arity = upd_same c.arity k q.arity refl i;
    place = upd_same c.place k (c.place k) refl i;
    sources = upd_same c.sources k (c.sources k) refl i;
    putoff = upd_same c.putoff k (c.putoff k) refl i;
    first = upd_same c.first k (c.first k) refl i;
    round = upd_same c.round k (c.round k) refl i;
    father = upd c.father k (under v);
    rnd = r;
  })
