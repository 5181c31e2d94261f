-- The labelled steps of a worker, as a relation: cells and worker before, cells and worker after.
use Rattle.std.proofs.Common.{◌≡◌, ℕ, suc, Bool, true, false, ◌⊎◌, List, [], ◌∷◌}
use Rattle.rules.proofs.Heap.{upd, grey, none, source, under, Cells, Is}
use Rattle.rules.proofs.HeapChanges.{scan_by, claim, paint, whiten, turn}
use Rattle.rules.proofs.Copies.{copies}
use Rattle.rules.proofs.Walkers.{idle, l101, l108, l121, l122, l126, l150, l151, l157, l158, l163, l168, l175, l180, l129, l134, l135, l137, Worker, goto, with_check, with_start, with_walk, no_cells}

abbrev pub InStep : Cells → Worker → Type 0
InStep c w = w.own ≡ c.rnd

-- a cell that is grey and fresh as the worker w counts
abbrev pub GreyFresh : Cells → Worker → ℕ → Type 0
GreyFresh c w x = Is c grey x × (c.round x ≡ suc w.own)

abbrev pub Free : Cells → ℕ → ℕ → Type 0
Free c v y = (c.father y ≡ none) ⊎ (c.father y ≡ under v)

-- what Fill makes: a set that holds every cell
abbrev pub Fills : (ℕ → Type 0) → (ℕ → Bool) → Type 0
Fills In all = (x : ℕ) → In x → all x ≡ true

pub data Step (In : ℕ → Type 0) : Cells → Worker → Cells → Worker → Type 0 where
  a101_take : {c : Cells} {w : Worker} {x : ℕ} → w.label ≡ l101 → InStep c w → In x → w.check x ≡ true → Step In c w c (with_check w (upd w.check x false) (l108 x))
  a101_none : {c : Cells} {w : Worker} → w.label ≡ l101 → (InStep c w → (x : ℕ) → In x → w.check x ≡ false) → Step In c w c (goto w l121)
  a108_scan : {c : Cells} {w : Worker} {x : ℕ} → w.label ≡ l108 x → In x → c.round x ≡ w.own → Step In c w (scan_by c x w.own) (goto w l101)
  a108_skip : {c : Cells} {w : Worker} {x : ℕ} → w.label ≡ l108 x → In x → (c.round x ≡ w.own → ⊥) → Step In c w c (goto w l101)
  a121 : {c : Cells} {w : Worker} (all : ℕ → Bool) → Fills In all → w.label ≡ l121 → Step In c w c (with_start w all all l122)
  a122_take : {c : Cells} {w : Worker} {x : ℕ} → w.label ≡ l122 → InStep c w → In x → w.start x ≡ true → Step In c w c (with_start w w.check (upd w.start x false) (l126 x))
  a122_none : {c : Cells} {w : Worker} → w.label ≡ l122 → (InStep c w → (x : ℕ) → In x → w.start x ≡ false) → Step In c w c (goto w l129)
  a126_yes : {c : Cells} {w : Worker} {x : ℕ} → w.label ≡ l126 x → c.father x ≡ source → Step In c w c (goto w (l150 x))
  a126_no : {c : Cells} {w : Worker} {x : ℕ} → w.label ≡ l126 x → (c.father x ≡ source → ⊥) → Step In c w c (goto w l122)
  a150 : {c : Cells} {w : Worker} {x : ℕ} → w.label ≡ l150 x → Step In c w c (with_walk w (upd w.check x false) (upd no_cells x true) [] (l151 x))
  a151_take : {c : Cells} {w : Worker} {x v : ℕ} → w.label ≡ l151 x → InStep c w → w.follow v ≡ true → Step In c w c (with_walk w w.check (upd w.follow v false) w.stack (l157 x v))
  a151_none : {c : Cells} {w : Worker} {x : ℕ} → w.label ≡ l151 x → (InStep c w → (z : ℕ) → w.follow z ≡ false) → Step In c w c (goto w (l168 x))
  a157_go : {c : Cells} {w : Worker} {x v : ℕ} → w.label ≡ l157 x v → GreyFresh c w v → Step In c w c (with_walk w w.check w.follow (v ∷ w.stack) (l158 x v (copies (c.place v) 1 (c.first v))))
  a157_no : {c : Cells} {w : Worker} {x v : ℕ} → w.label ≡ l157 x v → (GreyFresh c w v → ⊥) → Step In c w c (goto w (l151 x))
  a158_in : {c : Cells} {w : Worker} {x v y : ℕ} {rest : List ℕ} → w.label ≡ l158 x v (y ∷ rest) → InStep c w → w.check y ≡ true → Step In c w c (goto w (l163 x v y rest))
  a158_out : {c : Cells} {w : Worker} {x v y : ℕ} {rest : List ℕ} → w.label ≡ l158 x v (y ∷ rest) → InStep c w → w.check y ≡ false → Step In c w c (goto w (l158 x v rest))
  a158_end : {c : Cells} {w : Worker} {x v : ℕ} {rest : List ℕ} → w.label ≡ l158 x v rest → (InStep c w → rest ≡ []) → Step In c w c (goto w (l151 x))
  a163_claim : {c : Cells} {w : Worker} {x v y : ℕ} {rest : List ℕ} → w.label ≡ l163 x v y rest → GreyFresh c w y → Free c v y → Step In c w (claim c v y) (with_walk w (upd w.check y false) (upd w.follow y true) w.stack (l158 x v rest))
  a163_no : {c : Cells} {w : Worker} {x v y : ℕ} {rest : List ℕ} → w.label ≡ l163 x v y rest → (GreyFresh c w y → Free c v y → ⊥) → Step In c w c (goto w (l158 x v rest))
  a168_pop : {c : Cells} {w : Worker} {x y : ℕ} {below : List ℕ} → w.label ≡ l168 x → InStep c w → w.stack ≡ y ∷ below → Step In c w c (with_walk w w.check w.follow below (l175 x y))
  a168_none : {c : Cells} {w : Worker} {x : ℕ} → w.label ≡ l168 x → (InStep c w → w.stack ≡ []) → Step In c w c (goto w l180)
  a175_paint : {c : Cells} {w : Worker} {x y : ℕ} → w.label ≡ l175 x y → GreyFresh c w y → Step In c w (paint c y) (goto w (l168 x))
  a175_no : {c : Cells} {w : Worker} {x y : ℕ} → w.label ≡ l175 x y → (GreyFresh c w y → ⊥) → Step In c w c (goto w (l168 x))
  a180 : {c : Cells} {w : Worker} → w.label ≡ l180 → Step In c w c (goto w l122)
  a129_take : {c : Cells} {w : Worker} {x : ℕ} → w.label ≡ l129 → InStep c w → In x → w.check x ≡ true → Step In c w c (with_check w (upd w.check x false) (l134 x))
  a129_none : {c : Cells} {w : Worker} → w.label ≡ l129 → (InStep c w → (x : ℕ) → In x → w.check x ≡ false) → Step In c w c (goto w l135)
  a134_white : {c : Cells} {w : Worker} {x : ℕ} → w.label ≡ l134 x → GreyFresh c w x → Step In c w (whiten c x) (goto w l129)
  a134_no : {c : Cells} {w : Worker} {x : ℕ} → w.label ≡ l134 x → (GreyFresh c w x → ⊥) → Step In c w c (goto w l129)
  a135_turn : {c : Cells} {w : Worker} → w.label ≡ l135 → InStep c w → Step In c w (turn c) (goto w l137)
  a135_no : {c : Cells} {w : Worker} → w.label ≡ l135 → (InStep c w → ⊥) → Step In c w c (goto w l137)
  a137 : {c : Cells} {w : Worker} → w.label ≡ l137 → Step In c w c (goto w idle)
