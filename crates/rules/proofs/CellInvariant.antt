-- The invariant of the cells, and the order between two states of one round.
use Rattle.std.proofs.Common.{◌≡◌, ℕ, suc, ◌<◌, ◌≤◌, ◌⊎◌}
use Rattle.rules.proofs.Heap.{white, black, grey, none, under, Cells, Fresh, Claimed, Is, Child, Traced, S, Rooted}

abbrev pub Done : Cells → ℕ → Type 0
Done c z = Fresh c z × Is c black z

-- In: which numbers are cells of the store
pub record Global (In : ℕ → Type 0) (c : Cells) : Type 0 where
  pub rounds : (x : ℕ) → In x → c.rnd ≤ c.round x
  pub rounds_top : (x : ℕ) → c.round x ≤ suc c.rnd
  pub inside : (x : ℕ) → (Is c white x → ⊥) → In x
  pub grey_fresh : (x : ℕ) → Is c grey x → Fresh c x
  pub source_s : (x : ℕ) → 0 < c.sources x → S c x
  pub child_s : (x z : ℕ) → S c x → Child c x z → S c z
  pub white_s : (x : ℕ) → S c x → Is c white x → ⊥
  pub first_grey : (x : ℕ) → Is c grey x → c.first x ≤ c.arity x
  pub first_claimed : (x : ℕ) → Claimed c x → c.first x ≤ c.arity x
  pub rooted : (x : ℕ) → Claimed c x → Rooted c x
  pub father_traces : (x w : ℕ) → Claimed c x → c.father x ≡ under w → Is c grey w → Traced c w x
  pub black_done : (w z : ℕ) → Is c black w → Claimed c w → Traced c w z → Claimed c z ⊎ Done c z
  pub grey_father : (y w : ℕ) → Claimed c y → Is c grey y → c.father y ≡ under w → Is c grey w

-- what is kept from c to d in one round
pub record Keeps (c d : Cells) : Type 0 where
  pub same_rnd : d.rnd ≡ c.rnd
  pub fresh : (x : ℕ) → Fresh c x → Fresh d x
  pub father : (x : ℕ) → Fresh c x → (d.father x ≡ c.father x) ⊎ ((c.father x ≡ none) × ((w : ℕ) × (d.father x ≡ under w)))
  pub grey_old : (x : ℕ) → Fresh c x → Is d grey x → Is c grey x
  pub black_kept : (x : ℕ) → Fresh c x → Is c black x → Is d black x
  pub traced_same : (x z : ℕ) → Is c grey x → Traced c x z → Traced d x z
  pub traced_old : (x z : ℕ) → Is c grey x → Traced d x z → Traced c x z
  pub s_was : (x : ℕ) → S d x → S c x ⊎ Is d black x
