-- The graph that a drawing stands for, and what one more arrow does to it.
use Rattle.std.specs.Prelude.{◌≡◌, ℕ, ◌+◌, ◌*◌, ◌<◌, Bool, true, false, cond, ◌&&◌, List, replicate, slice_index, slice_set}
use Rattle.graph.specs.Nets.{Net, Within}
use Rattle.drawing.specs.declared.table.Drawing.{Drawing}
use Rattle.drawing.specs.Tests.{within}
use Rattle.drawing.specs.Held.{end_of}

-- the graph with n cells that these tables tell
abbrev pub net_of : ℕ → List ℕ → List ℕ → Net
net_of n arrows ends = record {
  cells = n;
  arrows = λ x. cond (within n x) (slice_index arrows x) 0;
  leads = λ x j. cond (within n x && within (slice_index arrows x) j) (end_of ends x j) 0;
}

-- n cells without an arrow
abbrev pub Blank : ℕ → Drawing → Type 0
Blank n d = (d.count ≡ n) × (d.arrows ≡ replicate 256 0)

-- an arrow can be drawn from x to y: both are cells, and x has room for one more
abbrev pub Drawable : Drawing → ℕ → ℕ → Type 0
Drawable d x y = Within d.count x × Within d.count y × (slice_index d.arrows x < 255)

-- an arrow from x to y is drawn as the last one of x if it can be drawn, and else nothing alters
abbrev pub Draws : ℕ → ℕ → Drawing → Drawing → Bool → Type 0
Draws x y d d' true = Drawable d x y × (d'.count ≡ d.count) × (d'.arrows ≡ slice_set d.arrows x (slice_index d.arrows x + 1)) × (d'.ends ≡ slice_set d.ends (256 * x + (slice_index d.arrows x + 1)) y)
Draws x y d d' false = (Drawable d x y → ⊥) × (d'.count ≡ d.count) × (d'.arrows ≡ d.arrows) × (d'.ends ≡ d.ends)
