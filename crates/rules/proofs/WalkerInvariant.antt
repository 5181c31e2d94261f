-- The invariant of a worker in step, by its label.
-- A taken cell still counts as a member of what it was taken from, until the label after it is done.
use Rattle.std.proofs.Common.{◌≡◌, ℕ, ◌≤◌, Bool, true, false, ◌⊎◌, List, [], ◌∷◌}
use Rattle.rules.proofs.Heap.{upd, black, grey, source, under, Cells, Fresh, Claimed, Is, Traced, S}
use Rattle.rules.proofs.CellInvariant.{Done}
use Rattle.rules.proofs.Walkers.{Label, idle, l101, l108, l121, l122, l126, l150, l151, l157, l158, l163, l168, l175, l180, l129, l134, l135, l137, Worker}

abbrev pub Mem : ℕ → List ℕ → Type 0
Mem z [] = ⊥
Mem z (v ∷ vs) = (z ≡ v) ⊎ Mem z vs

abbrev pub Full : (ℕ → Type 0) → Cells → Type 0
Full In c = (x : ℕ) → In x → Fresh c x

abbrev pub Scanning : (ℕ → Type 0) → Cells → (ℕ → Bool) → Type 0
Scanning In c check = (x : ℕ) → In x → (check x ≡ true) ⊎ Fresh c x

pub record Tracing (In : ℕ → Type 0) (c : Cells) (check : ℕ → Bool) : Type 0 where
  pub full : Full In c
  pub claimed : (x : ℕ) → In x → check x ≡ false → Claimed c x
  pub later : (z v : ℕ) → In z → check v ≡ true → c.father z ≡ under v → check z ≡ true

pub record Between (In : ℕ → Type 0) (c : Cells) (check start : ℕ → Bool) : Type 0 where
  pub tracing : Tracing In c check
  pub painted : (z : ℕ) → In z → c.father z ≡ source → (start z ≡ true) ⊎ Is c black z
  pub waiting : (z : ℕ) → In z → c.father z ≡ source → start z ≡ true → check z ≡ true

pub record Walk (In : ℕ → Type 0) (c : Cells) (check start follow : ℕ → Bool) (stack : List ℕ) (x : ℕ) : Type 0 where
  pub tracing : Tracing In c check
  pub x_in : In x
  pub painted : (z : ℕ) → In z → c.father z ≡ source → (start z ≡ true) ⊎ (Is c black z ⊎ (z ≡ x))
  pub waiting : (z : ℕ) → In z → c.father z ≡ source → start z ≡ true → check z ≡ true
  pub going : (follow x ≡ true) ⊎ (Mem x stack ⊎ Is c black x)
  pub following : (z : ℕ) → follow z ≡ true → Claimed c z × (check z ≡ false)
  pub later_too : (z v : ℕ) → In z → follow v ≡ true → c.father z ≡ under v → check z ≡ true

-- a place z of v has been seen to: it is black, or claimed, and by v only if it is in H
abbrev pub Seen : Cells → (ℕ → Type 0) → ℕ → ℕ → Type 0
Seen c H v z = Done c z ⊎ (Claimed c z × (c.father z ≡ under v → H z))

abbrev pub Nodes : Cells → (ℕ → Bool) → (ℕ → Type 0) → List ℕ → Type 0
Nodes c check H [] = Unit {0}
Nodes c check H (v ∷ vs) =
    (Claimed c v × (check v ≡ false) × ((z : ℕ) → Is c grey v → Traced c v z → Seen c H v z)) × Nodes c check (λ z. H z ⊎ (z ≡ v)) vs

abbrev pub InSet : (ℕ → Bool) → ℕ → Type 0
InSet f z = f z ≡ true

-- w is the top of the stack, and its places in rest are still to be seen to
pub record Places (In : ℕ → Type 0) (c : Cells) (check start follow : ℕ → Bool) (stack : List ℕ) (x w : ℕ) (rest : List ℕ) : Type 0 where
  pub below : List ℕ
  pub top : stack ≡ w ∷ below
  pub walk : Walk In c check start follow stack x
  pub nodes : Nodes c check (λ z. InSet follow z ⊎ (z ≡ w)) below
  pub w_claimed : Claimed c w
  pub w_struck : check w ≡ false
  pub w_taken : follow w ≡ false
  pub w_seen : (z : ℕ) → Is c grey w → Traced c w z → Mem z rest ⊎ Seen c (InSet follow) w z
  pub copied : (z : ℕ) → Mem z rest → Claimed c z ⊎ (Done c z ⊎ (Is c grey w × Traced c w z))
  pub mine : (z : ℕ) → In z → c.father z ≡ under w → (check z ≡ true) ⊎ (follow z ≡ true)

pub record Sweep (In : ℕ → Type 0) (c : Cells) (check : ℕ → Bool) : Type 0 where
  pub full : Full In c
  pub settled : (z : ℕ) → S c z → Is c grey z → ⊥
  pub left : (z : ℕ) → Is c grey z → check z ≡ true

abbrev pub LocAt : (ℕ → Type 0) → Cells → Worker → Label → Type 0
LocAt In c w idle = Unit {0}
LocAt In c w l101 = Scanning In c w.check
LocAt In c w (l108 x) = Scanning In c (upd w.check x true)
LocAt In c w l121 = Full In c
LocAt In c w l122 = Between In c w.check w.start
LocAt In c w (l126 x) = Between In c w.check (upd w.start x true) × In x × (w.start x ≡ false)
LocAt In c w (l150 x) = Between In c w.check (upd w.start x true) × In x × (w.start x ≡ false) × (c.father x ≡ source)
LocAt In c w (l151 x) = Walk In c w.check w.start w.follow w.stack x × Nodes c w.check (InSet w.follow) w.stack
LocAt In c w (l157 x v) = Walk In c w.check w.start (upd w.follow v true) w.stack x × Nodes c w.check (InSet (upd w.follow v true)) w.stack × (w.follow v ≡ false)
LocAt In c w (l158 x v rest) = Places In c w.check w.start w.follow w.stack x v rest
LocAt In c w (l163 x v y rest) = Places In c w.check w.start w.follow w.stack x v (y ∷ rest) × (w.check y ≡ true)
LocAt In c w (l168 x) = Walk In c w.check w.start w.follow w.stack x × Nodes c w.check (InSet w.follow) w.stack × ((z : ℕ) → w.follow z ≡ false)
LocAt In c w (l175 x y) = Walk In c w.check w.start w.follow (y ∷ w.stack) x × Nodes c w.check (InSet w.follow) (y ∷ w.stack) × ((z : ℕ) → w.follow z ≡ false)
LocAt In c w l180 = Between In c w.check w.start
LocAt In c w l129 = Sweep In c w.check
LocAt In c w (l134 x) = Sweep In c (upd w.check x true)
LocAt In c w l135 = Full In c × ((z : ℕ) → Is c grey z → ⊥)
LocAt In c w l137 = Unit {0}

pub record Local (In : ℕ → Type 0) (c : Cells) (w : Worker) : Type 0 where
  pub not_ahead : w.own ≤ c.rnd
  pub when_in_step : w.own ≡ c.rnd → LocAt In c w w.label
