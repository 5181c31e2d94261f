-- What a step does to the cells, with what the invariant says of it.
use Rattle.std.proofs.Common.{◌≡◌, ℕ, sym, refl, ◌∙◌, subst, inl, inr, arith}
use Rattle.rules.proofs.Heap.{grey, none, Cells, Fresh, Claimed, Is, Traced}
use Rattle.rules.proofs.CellInvariant.{Global}
use Rattle.rules.proofs.HeapChanges.{scan_by, scan, claim, paint, whiten, turn}
use Rattle.rules.proofs.Walkers.{l163, l175, l135, Worker}
use Rattle.rules.proofs.WalkerInvariant.{Local}
use Rattle.rules.proofs.WalkerSteps.{Step, a101_take, a101_none, a108_scan, a108_skip, a121, a122_take, a122_none, a126_yes, a126_no, a150, a151_take, a151_none, a157_go, a157_no, a158_in, a158_out, a158_end, a163_claim, a163_no, a168_pop, a168_none, a175_paint, a175_no, a180, a129_take, a129_none, a134_white, a134_no, a135_turn, a135_no, a137}
use Rattle.rules.proofs.StepKept.{at, grey_in_step, old_in_step, claim_again}

pub data Effect (In : ℕ → Type 0) (c : Cells) : Cells → Type 0 where
  e_same : Effect In c c
  e_scan : (x : ℕ) → In x → c.round x ≡ c.rnd → Effect In c (scan c x)
  e_claim : (v y : ℕ) → c.father y ≡ none → Claimed c v → Is c grey v → Traced c v y → Effect In c (claim c v y)
  e_paint : (y : ℕ) → Claimed c y → Effect In c (paint c y)
  e_whiten : (x : ℕ) → Effect In c (whiten c x)
  e_turn : ((x : ℕ) → In x → Fresh c x) → ((x : ℕ) → Is c grey x → ⊥) → Effect In c (turn c)

pub step_effect : (In : ℕ → Type 0) {c : Cells} {w : Worker} {d : Cells} {w' : Worker} → Global In c → Local In c w → Step In c w d w' → Effect In c d
step_effect In {c} {w} g b (a101_take e p i m) = e_same
step_effect In {c} {w} g b (a101_none e n) = e_same
step_effect In {c} {w} g b (a108_skip e i n) = e_same
step_effect In {c} {w} g b (a121 all h e) = e_same
step_effect In {c} {w} g b (a122_take e p i m) = e_same
step_effect In {c} {w} g b (a122_none e n) = e_same
step_effect In {c} {w} g b (a126_yes e f) = e_same
step_effect In {c} {w} g b (a126_no e n) = e_same
step_effect In {c} {w} g b (a150 e) = e_same
step_effect In {c} {w} g b (a151_take e p m) = e_same
step_effect In {c} {w} g b (a151_none e n) = e_same
step_effect In {c} {w} g b (a157_go e k) = e_same
step_effect In {c} {w} g b (a157_no e n) = e_same
step_effect In {c} {w} g b (a158_in e p m) = e_same
step_effect In {c} {w} g b (a158_out e p m) = e_same
step_effect In {c} {w} g b (a158_end e n) = e_same
step_effect In {c} {w} g b (a163_no e n) = e_same
step_effect In {c} {w} g b (a168_pop e p m) = e_same
step_effect In {c} {w} g b (a168_none e n) = e_same
step_effect In {c} {w} g b (a175_no e n) = e_same
step_effect In {c} {w} g b (a180 e) = e_same
step_effect In {c} {w} g b (a129_take e p i m) = e_same
step_effect In {c} {w} g b (a129_none e n) = e_same
step_effect In {c} {w} g b (a134_no e n) = e_same
step_effect In {c} {w} g b (a135_no e n) = e_same
step_effect In {c} {w} g b (a137 e) = e_same
step_effect In {c} {w} g b (a108_scan {x} e i r) = subst (λ (n : ℕ). Effect In c (scan_by c x n)) (sym (old_in_step In c w g b x i r)) (e_scan x i (r ∙ old_in_step In c w g b x i r))
step_effect In {c} {w} g b (a163_claim {x} {v} {y} {rest} e h (inr f)) = subst (λ (d : Cells). Effect In c d) (claim_again In c w g b v y f) e_same
step_effect In {c} {w} g b (a163_claim {x} {v} {y} {rest} e h (inl f)) =
    let l = at In c w g b (l163 x v y rest) e (grey_in_step In c w g b y h) in
    let t : Is c grey v × Traced c v y = elim (l.0.copied y (inl refl))
    [ inl a ↦ absurd (a.1 f) | inr (inl a) ↦ absurd (let a1 = a.1 in let h0 = h.0 in grind arith) | inr (inr a) ↦ a ] in
    e_claim v y f l.0.w_claimed t.0 t.1
step_effect In {c} {w} g b (a175_paint {x} {y} e h) = let l = at In c w g b (l175 x y) e (grey_in_step In c w g b y h) in e_paint y l.1.0.0
step_effect In {c} {w} g b (a134_white {x} e h) = e_whiten x
step_effect In {c} {w} g b (a135_turn e p) = let l = at In c w g b l135 e p in e_turn l.0 l.1
