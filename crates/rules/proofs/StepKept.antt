-- Every step of a worker keeps the invariant.
use Rattle.std.proofs.Common.{◌≡◌, ℕ, suc, true, false, List, ◌∷◌, sym, refl, ap, ◌∙◌, subst, inl, inr, arith}
use mathlib.Core.Path.{fun_ext}
use Rattle.rules.proofs.Heap.{upd, grey, under, Cells, Fresh, Is, Traced}
use Rattle.rules.proofs.CellInvariant.{Global, Keeps}
use Rattle.rules.proofs.Walkers.{Label, l101, l108, l121, l122, l126, l150, l151, l157, l158, l163, l168, l175, l180, l129, l134, l135, l137, Worker, goto, with_walk}
use Rattle.rules.proofs.WalkerInvariant.{Walk, Nodes, InSet, Places, LocAt, Local}
use Rattle.rules.proofs.Basics.{upd_here}
use Rattle.rules.proofs.HeapChanges.{scan_by, scan, claim, paint, whiten, turn}
use Rattle.rules.proofs.WalkerSteps.{Step, InStep, GreyFresh, Free, a101_take, a101_none, a108_scan, a108_skip, a121, a122_take, a122_none, a126_yes, a126_no, a150, a151_take, a151_none, a157_go, a157_no, a158_in, a158_out, a158_end, a163_claim, a163_no, a168_pop, a168_none, a175_paint, a175_no, a180, a129_take, a129_none, a134_white, a134_no, a135_turn, a135_no, a137}
use Rattle.rules.proofs.Carrying.{local_kept, loc_kept}
use Rattle.rules.proofs.Mover as own
use Rattle.rules.proofs.Scanning.{scan_global, scan_keeps}
use Rattle.rules.proofs.Claiming.{claim_global, claim_keeps}
use Rattle.rules.proofs.Painting.{paint_global, paint_keeps}
use Rattle.rules.proofs.Whitening.{whiten_global, whiten_keeps}
use Rattle.rules.proofs.Turning.{turn_global}

-- what a step from c to d, whose worker comes to w, leaves
pub record After (In : ℕ → Type 0) (c d : Cells) (w : Worker) : Type 0 where
  pub global : Global In d
  pub moved : Local In d w
  pub others : (q : Worker) → Local In c q → Local In d q

module _ (In : ℕ → Type 0) (c : Cells) (w : Worker) (g : Global In c) (b : Local In c w) where
  -- a step that leaves the cells
  still : (w' : Worker) → w'.own ≡ w.own → (InStep c w → LocAt In c w' w'.label) → After In c c w'
  still w' e f = record { global = g; moved = record { not_ahead = (let h = b.not_ahead in omega arith); when_in_step = λ p. f (sym e ∙ p) }; others = λ q l. l }

  -- a step that changes the cells within a round
  within : (d : Cells) → Global In d → Keeps c d → (w' : Worker) → w'.own ≡ w.own → (InStep c w → LocAt In d w' w'.label) → After In c d w'
  within d g' k w' e f = record {
    global = g';
    moved = record { not_ahead = (let h = b.not_ahead in let r = k.same_rnd in omega arith); when_in_step = λ p. f (sym e ∙ (p ∙ k.same_rnd)) };
    others = local_kept c d k In g g';
  }

  pub at : (l : Label) → w.label ≡ l → InStep c w → LocAt In c w l
  at l e p = subst (LocAt In c w) e (b.when_in_step p)

  -- a worker that meets a grey cell of its round is in step
  pub grey_in_step : (x : ℕ) → GreyFresh c w x → InStep c w
  grey_in_step x h = let f = g.grey_fresh x h.0 in let r = h.1 in omega arith

  fresh_of : InStep c w → (x : ℕ) → GreyFresh c w x → Fresh c x
  fresh_of p x h = g.grey_fresh x h.0

  pub old_in_step : (x : ℕ) → In x → c.round x ≡ w.own → InStep c w
  old_in_step x i e = let f = g.rounds x i in let r = b.not_ahead in omega arith

  no_grey : (x : ℕ) → InStep c w → (GreyFresh c w x → ⊥) → Is c grey x → ⊥
  no_grey x p n e = n (e, (let f = g.grey_fresh x e in omega arith))

  do108 : (x : ℕ) → w.label ≡ l108 x → In x → c.round x ≡ w.own → After In c (scan_by c x w.own) (goto w l101)
  do108 x e i r =
      let p : InStep c w = old_in_step x i r in
      let a : After In c (scan c x) (goto w l101) =
      (let g' = scan_global In c x g i (r ∙ p) in let k = scan_keeps In c x g i (r ∙ p) in
      within (scan c x) g' k (goto w l101) refl (λ q. own.own108 In (scan c x) g' w.check x (loc_kept c (scan c x) k In g g' w (l108 x) (at (l108 x) e q)) (grind arith))) in
      subst (λ (n : ℕ). After In c (scan_by c x n) (goto w l101)) (sym p) a

  -- claiming again what is claimed already changes nothing
  pub claim_again : (v y : ℕ) → c.father y ≡ under v → c ≡ claim c v y
  claim_again v y e = let p : c.father ≡ upd c.father y (under v) = fun_ext (λ z. grind arith) in
      λ i. record { colour = c.colour; arity = c.arity; place = c.place; sources = c.sources; putoff = c.putoff; first = c.first; round = c.round; father = p i; rnd = c.rnd }

  do163 : (x v y : ℕ) (rest : List ℕ) → w.label ≡ l163 x v y rest → GreyFresh c w y → Free c v y
      → After In c (claim c v y) (with_walk w (upd w.check y false) (upd w.follow y true) w.stack (l158 x v rest))
  do163 x v y rest e h (inr m) =
      let f = g.grey_fresh y h.0 in
      let w' = with_walk w (upd w.check y false) (upd w.follow y true) w.stack (l158 x v rest) in
      subst (λ (d : Cells). After In c d w') (claim_again v y m)
      (still w' refl (λ q. let l = at (l163 x v y rest) e q in own.own163_yes In c g w.check w.start w.follow w.stack x v y rest l.0 l.1 f m))
  do163 x v y rest e h (inl m) =
      let p : InStep c w = grey_in_step y h in
      let f = g.grey_fresh y h.0 in
      let l = at (l163 x v y rest) e p in
      let t : Is c grey v × Traced c v y = elim (l.0.copied y (inl refl))
      [ inl a ↦ absurd (a.1 m) | inr (inl a) ↦ absurd (let a1 = a.1 in let h0 = h.0 in grind arith) | inr (inr a) ↦ a ] in
      let g' = claim_global In c v y g h.0 m l.0.w_claimed t.0 t.1 in
      let k = claim_keeps In c v y g h.0 m l.0.w_claimed t.0 t.1 in
      within (claim c v y) g' k (with_walk w (upd w.check y false) (upd w.follow y true) w.stack (l158 x v rest)) refl
      (λ q. let l' = loc_kept c (claim c v y) k In g g' w (l163 x v y rest) l in
      own.own163_yes In (claim c v y) g' w.check w.start w.follow w.stack x v y rest l'.0 l'.1 f (upd_here c.father y (under v)))

  do175 : (x y : ℕ) → w.label ≡ l175 x y → GreyFresh c w y → After In c (paint c y) (goto w (l168 x))
  do175 x y e h =
      let p : InStep c w = grey_in_step y h in
      let l = at (l175 x y) e p in
      let s = own.seen175 In c g w.check w.follow w.stack y l.1 l.2 h.0 in
      let g' = paint_global In c y g h.0 l.1.0.0 s in
      let k = paint_keeps In c y g h.0 l.1.0.0 s in
      within (paint c y) g' k (goto w (l168 x)) refl
      (λ q. let l' = loc_kept c (paint c y) k In g g' w (l175 x y) l in
      let r = own.own175 In (paint c y) g' w.check w.start w.follow w.stack x y (λ a. grind arith) l'.0 l'.1 in (r.0, r.1, l.2))

  do134 : (x : ℕ) → w.label ≡ l134 x → GreyFresh c w x → After In c (whiten c x) (goto w l129)
  do134 x e h =
      let p : InStep c w = grey_in_step x h in
      let l = at (l134 x) e p in
      let g' = whiten_global In c x g h.0 l.settled in
      let k = whiten_keeps In c x g h.0 l.settled in
      within (whiten c x) g' k (goto w l129) refl
      (λ q. own.own134 In (whiten c x) g' w.check x (λ a. grind arith) (loc_kept c (whiten c x) k In g g' w (l134 x) l))

  do135 : w.label ≡ l135 → InStep c w → After In c (turn c) (goto w l137)
  do135 e p =
      let l = at l135 e p in
      record {
        global = turn_global In c g l.0 l.1;
        moved = record { not_ahead = (let h = b.not_ahead in omega arith); when_in_step = λ q. tt };
        others = λ q m. record { not_ahead = (let h = m.not_ahead in omega arith); when_in_step = λ r. absurd (let h = m.not_ahead in omega arith) };
      }

pub step_kept : (In : ℕ → Type 0) {c : Cells} {w : Worker} {d : Cells} {w' : Worker} → Global In c → Local In c w → Step In c w d w' → After In c d w'
step_kept In {c} {w} g b (a101_take {x} e p i m) = still In c w g b _ refl (λ q z j. elim (at In c w g b l101 e q z j) [ inl r ↦ inl (grind arith) | inr f ↦ inr f ])
step_kept In {c} {w} g b (a101_none e n) = still In c w g b _ refl (λ q. own.own101 In c g w.check (at In c w g b l101 e q) (n q))
step_kept In {c} {w} g b (a108_scan {x} e i r) = do108 In c w g b x e i r
step_kept In {c} {w} g b (a108_skip {x} e i n) = still In c w g b _ refl (λ q. own.own108 In c g w.check x (at In c w g b (l108 x) e q) (let h = g.rounds x i in let t = g.rounds_top x in omega arith))
step_kept In {c} {w} g b (a121 all h e) = still In c w g b _ refl (λ q. own.own121 In c g all h (at In c w g b l121 e q))
step_kept In {c} {w} g b (a122_take {x} e p i m) = still In c w g b _ refl (λ q. (own.own122_take In c g w.check w.start x m (at In c w g b l122 e q), i, upd_here w.start x false))
step_kept In {c} {w} g b (a122_none e n) = still In c w g b _ refl (λ q. own.own122_none In c g w.check w.start (at In c w g b l122 e q) (n q))
step_kept In {c} {w} g b (a126_yes {x} e f) = still In c w g b _ refl (λ q. let l = at In c w g b (l126 x) e q in (l.0, l.1, l.2, f))
step_kept In {c} {w} g b (a126_no {x} e n) = still In c w g b _ refl (λ q. let l = at In c w g b (l126 x) e q in own.own126_no In c g w.check w.start x l.0 n)
step_kept In {c} {w} g b (a150 {x} e) = still In c w g b _ refl (λ q. let l = at In c w g b (l150 x) e q in (own.own150 In c g w.check w.start x l.0 l.1 l.2 l.3, tt))
step_kept In {c} {w} g b (a151_take {x} {v} e p m) = still In c w g b _ refl (λ q. own.own151_take In c g w.check w.start w.follow w.stack x v m (at In c w g b (l151 x) e q))
step_kept In {c} {w} g b (a151_none {x} e n) = still In c w g b _ refl (λ q. let l = at In c w g b (l151 x) e q in (l.0, l.1, n q))
step_kept In {c} {w} g b (a157_go {x} {v} e h) = still In c w g b _ refl (λ q. let l = at In c w g b (l157 x v) e q in own.own157_go In c g w.check w.start w.follow w.stack x v h.0 l.2 l.0 l.1)
step_kept In {c} {w} g b (a157_no {x} {v} e n) = still In c w g b _ refl (λ q. let l = at In c w g b (l157 x v) e q in own.own157_no In c g w.check w.start w.follow w.stack x v (λ a f. no_grey In c w g b v q n a) l.0 l.1)
step_kept In {c} {w} g b (a158_in {x} {v} {y} {rest} e p m) = still In c w g b _ refl (λ q. (at In c w g b (l158 x v (y ∷ rest)) e q, m))
step_kept In {c} {w} g b (a158_out {x} {v} {y} {rest} e p m) = still In c w g b _ refl (λ q. own.own158_out In c g w.check w.start w.follow w.stack x v y rest (at In c w g b (l158 x v (y ∷ rest)) e q) m)
step_kept In {c} {w} g b (a158_end {x} {v} {rest} e n) = still In c w g b _ refl (λ q. own.own158_end In c g w.check w.start w.follow w.stack x v (subst (Places In c w.check w.start w.follow w.stack x v) (n q) (at In c w g b (l158 x v rest) e q)))
step_kept In {c} {w} g b (a163_claim {x} {v} {y} {rest} e h m) = do163 In c w g b x v y rest e h m
step_kept In {c} {w} g b (a163_no {x} {v} {y} {rest} e n) = still In c w g b _ refl (λ q. own.own163_no In c g w.check w.start w.follow w.stack x v y rest (at In c w g b (l163 x v y rest) e q).0 (λ a f m. n (a, f ∙ ap suc (sym q)) m))
step_kept In {c} {w} g b (a168_pop {x} {y} {below} e p m) = still In c w g b _ refl (λ q. let l = at In c w g b (l168 x) e q in
    (subst (λ (vs : List ℕ). Walk In c w.check w.start w.follow vs x) m l.0, subst (Nodes c w.check (InSet w.follow)) m l.1, l.2))
step_kept In {c} {w} g b (a168_none {x} e n) = still In c w g b _ refl (λ q. let l = at In c w g b (l168 x) e q in
    own.own168_none In c g w.check w.start w.follow x (subst (λ (vs : List ℕ). Walk In c w.check w.start w.follow vs x) (n q) l.0) l.2)
step_kept In {c} {w} g b (a175_paint {x} {y} e h) = do175 In c w g b x y e h
step_kept In {c} {w} g b (a175_no {x} {y} e n) = still In c w g b _ refl (λ q. let l = at In c w g b (l175 x y) e q in
    let r = own.own175 In c g w.check w.start w.follow w.stack x y (no_grey In c w g b y q n) l.0 l.1 in (r.0, r.1, l.2))
step_kept In {c} {w} g b (a180 e) = still In c w g b _ refl (λ q. at In c w g b l180 e q)
step_kept In {c} {w} g b (a129_take {x} e p i m) = still In c w g b _ refl (λ q. own.own129_take In c g w.check x m (at In c w g b l129 e q))
step_kept In {c} {w} g b (a129_none e n) = still In c w g b _ refl (λ q. own.own129_none In c g w.check (at In c w g b l129 e q) (n q))
step_kept In {c} {w} g b (a134_white {x} e h) = do134 In c w g b x e h
step_kept In {c} {w} g b (a134_no {x} e n) = still In c w g b _ refl (λ q. own.own134 In c g w.check x (no_grey In c w g b x q n) (at In c w g b (l134 x) e q))
step_kept In {c} {w} g b (a135_turn e p) = do135 In c w g b e p
step_kept In {c} {w} g b (a135_no e n) = still In c w g b _ refl (λ q. tt)
step_kept In {c} {w} g b (a137 e) = still In c w g b _ refl (λ q. tt)
