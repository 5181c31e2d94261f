-- A dead cell has been free by the third rise of the round number.
use Rattle.std.proofs.Common.{◌≡◌, ℕ, zero, suc, ◌+◌, ◌-◌, ◌≤◌, true, false, eqb, sym, refl, ap, ◌∙◌, subst, inl, inr, arith}
use Rattle.rules.proofs.Heap.{upd, Colour, white, black, grey, under, Cells, Fresh, Is, Child, S, s_claimed}
use Rattle.rules.proofs.HeapChanges.{darken, first_father, scan, whiten, made, add, counts}
use Rattle.rules.proofs.Walkers.{Worker, begun}
use Rattle.rules.proofs.Moves.{View, Range, Reach, at_root, on, Live, live_root, live_box, live_child, moved, called, root, boxed, more, Move, step, begin, make, append_child, protect, un_protect, send, receive, receive_again}
use Rattle.rules.proofs.Invariant.{bit, sum, root_count, box_count, Inv}
use Rattle.rules.proofs.Basics.{upd_other, same?, back, upd_at}
use Rattle.rules.proofs.Carrying.{bool?}
use Rattle.rules.proofs.Sums.{sum_at}
use Rattle.rules.proofs.Dying.{Track}
use Rattle.rules.proofs.Effects.{Effect, e_same, e_scan, e_claim, e_paint, e_whiten, e_turn, step_effect}
use Rattle.rules.proofs.Safety.{roots_else, boxes_at, is_one, is_none, reach_s}
use Rattle.rules.proofs.Making.{arrow_back}
use Rattle.rules.proofs.Adding.{child_old}

sum_none_in : (f : ℕ → ℕ) (n : ℕ) → ((q : ℕ) → 1 ≤ q → q ≤ n → f q ≡ 0) → sum f n ≡ 0
unfolding sum
sum_none_in f zero e = refl
sum_none_in f (suc n) e = let a = sum_none_in f n (λ q l h. e q l (omega arith)) in let b = e (suc n) (omega arith) (omega arith) in omega arith

dark_grey : (k : Colour) → (k ≡ white → ⊥) → darken k ≡ grey
dark_grey white h = absurd (h refl)
dark_grey black h = refl
dark_grey grey h = refl

scan_grey : (c : Cells) (x z : ℕ) → z ≡ x → (Is c white z → ⊥) → Is (scan c x) grey z
scan_grey c x z p h = upd_at c.colour x (darken (c.colour x)) z p ∙ dark_grey (c.colour x) (λ e. h (ap c.colour p ∙ e))

-- those of D that are not white in c either
abbrev pub Still : (ℕ → Type 0) → Cells → ℕ → Type 0
Still D c z = D z × (Is c white z → ⊥)

-- z stands in d as in c
abbrev Alike : Cells → Cells → ℕ → Type 0
Alike c d z = (d.round z ≡ c.round z) × (d.colour z ≡ c.colour z) × (d.sources z ≡ c.sources z) × (d.father z ≡ c.father z)

module _ (n m r : ℕ) (D : ℕ → Type 0) (s : View) (v : Inv n m s) (t : Track m r D s) where
  low : (z : ℕ) → D z → 1 ≤ z
  low z d = (v.global.inside z (t.nonwhite z d)).0

  track_same : (u : View) → u.cells.rnd ≡ s.cells.rnd → ((z : ℕ) → Still D u.cells z → Alike s.cells u.cells z)
      → ((z : ℕ) → Still D u.cells z → root_count m u.roots z + box_count m u.box z ≡ 0)
      → ((x z : ℕ) → Still D u.cells z → Child u.cells x z → (Is u.cells white x → ⊥) → D x) → Track m r (Still D u.cells) u
  track_same u e a h k = record {
    since = (let b = t.since in omega arith);
    nonwhite = λ z d. d.1;
    unheld = h;
    parents = λ x z d c w. (k x z d c w, w);
    line1 = λ q z d f. (let b = a z d in elim (t.line1 (sym e ∙ q) z d.0 (sym b.0 ∙ (f ∙ ap suc e))) [ inl c ↦ inl (b.1 ∙ c) | inr c ↦ inr (b.2 ∙ c) ]);
    line2 = λ q z d. (let b = a z d in let l = t.line2 (sym e ∙ q) z d.0 in
        (b.2 ∙ l.0, λ f. let o = l.1 (sym b.0 ∙ (f ∙ ap suc e)) in (b.1 ∙ o.0, b.3 ∙ o.1)));
    line3 = λ q z d. t.line3 (subst (λ (y : ℕ). r + 3 ≤ y) e q) z d.0;
  }

  -- what a worker holds is not in D
  root_out : (p x : ℕ) → Range m p → s.roots p x ≡ true → D x → ⊥
  root_out p x i e d = let a = sum_at (λ q. bit (s.roots q x)) p m i.0 i.1 in let b = t.unheld x d in let k = ap bit e in omega arith

  box_out : (p q x : ℕ) → Range m p → Range m q → s.box p q ≡ x → D x → ⊥
  box_out p q x i j e d =
      let a = sum_at (λ o. sum (λ y. bit (eqb (s.box o y) x)) m) p m i.0 i.1 in
      let a2 = sum_at (λ y. bit (eqb (s.box p y) x)) q m j.0 j.1 in
      let b = t.unheld x d in let k = is_one n m s v (s.box p q) x e in omega arith

  reach_out : (p : ℕ) → Range m p → {x : ℕ} → Reach s.cells (s.roots p) x → D x → ⊥
  reach_out p i (at_root {x} e) d = root_out p x i e d
  reach_out p i (on {x} {z} a c) d = reach_out p i a (t.parents x z d c (v.global.white_s x (reach_s n m s v p i a)))

  -- the children, roots and boxes as they were, and nothing that was white is another colour
  track_step : (d : Cells) (ws : ℕ → Worker) → Effect (Range n) s.cells d → Track m r (Still D d) (moved s d ws)
  track_step d ws e_same = track_same (moved s s.cells ws) refl (λ z a. (refl, refl, refl, refl)) (λ z a. t.unheld z a.0) (λ x z a c w. t.parents x z a.0 c w)
  track_step d ws (e_whiten x) = track_same (moved s (whiten s.cells x) ws) refl
      (λ z a. (refl, (let b = a.1 in grind arith), refl, refl)) (λ z a. t.unheld z a.0) (λ y z a c w. t.parents y z a.0 c (λ e. w (grind arith)))
  track_step d ws (e_scan x i e) =
      let b : (z : ℕ) → D z → s.cells.colour z ≡ white → ⊥ = t.nonwhite in
      record {
        since = t.since;
        nonwhite = λ z a. a.1;
        unheld = λ z a. t.unheld z a.0;
        parents = λ y z a c w. (t.parents y z a.0 c (λ o. w (grind arith)), w);
        line1 = λ q z a f. elim (same? z x) [
          | inl p ↦ inl (scan_grey s.cells x z p (b z a.0))
          | inr p ↦ elim (t.line1 q z a.0 (back s.cells.round x _ z p f)) [ inl c ↦ inl (upd_other s.cells.colour x _ z p ∙ c) | inr c ↦ inr c ]
        ];
        line2 = λ q z a. (
          (t.line2 q z a.0).0,
          λ f. elim (same? z x) [
            | inl p ↦ (scan_grey s.cells x z p (b z a.0), upd_at s.cells.father x _ z p ∙ ap first_father (ap s.cells.sources (sym p) ∙ (t.line2 q z a.0).0))
            | inr p ↦ (let o = (t.line2 q z a.0).1 (back s.cells.round x _ z p f) in
                (upd_other s.cells.colour x _ z p ∙ o.0, upd_other s.cells.father x _ z p ∙ o.1))
          ],
        );
        line3 = λ q z a. t.line3 q z a.0;
      }
  track_step d ws (e_claim w y f k e a) =
      record {
        since = t.since;
        nonwhite = λ z b. b.1;
        unheld = λ z b. t.unheld z b.0;
        parents = λ x z b c o. (t.parents x z b.0 c o, o);
        line1 = λ q z b. t.line1 q z b.0;
        line2 = λ q z b. (let l = t.line2 q z b.0 in (
          l.0,
          λ o. let l2 = l.1 o in (
            l2.0,
            elim (same? z y) [
              | inl p ↦ absurd (k.1 ((t.line2 q w (t.parents w z b.0
                  (record { at = a.at; low = a.low; high = (let h = a.high in let h2 = v.global.first_grey w e in omega arith); here = a.here ∙ sym p }) (λ c. grind arith))).1 k.0).1)
              | inr p ↦ upd_other s.cells.father y (under w) z p ∙ l2.1
            ],
          ),
        ));
        line3 = λ q z b. t.line3 q z b.0;
      }
  track_step d ws (e_paint y k) =
      record {
        since = t.since;
        nonwhite = λ z b. b.1;
        unheld = λ z b. t.unheld z b.0;
        parents = λ x z b c o. (t.parents x z b.0 c (λ e. elim (same? x y) [ inl p ↦ v.global.white_s y (s_claimed k) (ap s.cells.colour (sym p) ∙ e) | inr p ↦ o (upd_other s.cells.colour y black x p ∙ e) ]), o);
        line1 = λ q z b f. elim (same? z y) [
          | inl p ↦ inr (let h = t.unheld z b.0 in let bal = v.balance z (low z b.0) in let c = ap s.cells.sources p in let c2 = ap s.cells.putoff p in
              let o = upd_at s.cells.sources y (s.cells.sources y - s.cells.putoff y) z p in omega arith)
          | inr p ↦ elim (t.line1 q z b.0 f) [ inl c ↦ inl (upd_other s.cells.colour y black z p ∙ c) | inr c ↦ inr (upd_other s.cells.sources y _ z p ∙ c) ]
        ];
        line2 = λ q z b. (let l = t.line2 q z b.0 in
            let p : (z ≡ y → ⊥) = (λ e. k.1 (ap s.cells.father (sym e) ∙ (l.1 (ap s.cells.round e ∙ k.0)).1)) in
            (upd_other s.cells.sources y _ z p ∙ l.0, λ f. let o = l.1 f in (upd_other s.cells.colour y black z p ∙ o.0, o.1)));
        line3 = λ q z b. t.line3 q z b.0;
      }
  track_step d ws (e_turn full none-grey) =
      let old : (z : ℕ) → s.cells.round z ≡ suc (suc s.cells.rnd) → ⊥ = (λ z f. let h = v.global.rounds_top z in omega arith) in
      let fr : (z : ℕ) → D z → Fresh s.cells z = (λ z a. full z (v.global.inside z (t.nonwhite z a))) in
      record {
        since = (let h = t.since in omega arith);
        nonwhite = λ z b. b.1;
        unheld = λ z b. t.unheld z b.0;
        parents = λ x z b c o. (t.parents x z b.0 c o, o);
        line1 = λ q z b f. absurd (old z f);
        line2 = λ q z b. (elim (t.line1 (omega arith) z b.0 (fr z b.0)) [ inl c ↦ absurd (none-grey z c) | inr c ↦ c ], λ f. absurd (old z f));
        line3 = λ q z b. elim (same? s.cells.rnd (r + 2)) [
          | inl p ↦ none-grey z ((t.line2 p z b.0).1 (fr z b.0)).0
          | inr p ↦ t.line3 (omega arith) z b.0
        ];
      }

-- every move keeps what is known of the dead cells
pub track_move : (n m r : ℕ) (D : ℕ → Type 0) {s u : View} → Inv n m s → Track m r D s → Move n m s u → Track m r (Still D u.cells) u
track_move n m r D {s} v t (step {d} {w} p i a) = track_step n m r D s v t d (upd s.workers p w) (step_effect (Range n) v.global (v.locals p) a)
track_move n m r D {s} v t (begin p all h i e) = track_step n m r D s v t s.cells (upd s.workers p (begun (s.workers p) s.cells.rnd all)) e_same
track_move n m r D {s} v t (make p x k to i j e kids) =
    let c = s.cells in
    let out : D x → ⊥ = (λ d. t.nonwhite x d e) in
    let ne : (z : ℕ) → D z → (z ≡ x → ⊥) = (λ z d q. out (subst D q d)) in
    let ks : (a : ℕ) → 1 ≤ a → a ≤ k → S c (to a) = (λ a l h. reach_s n m s v p i (kids a l h)) in
    track_same n m r D s v t (called s (made c x k to) (root s p x true) s.box) refl
    (λ z a. let q = ne z a.0 in (refl, upd_other c.colour x black z q, upd_other c.sources x 1 z q, refl))
    (λ z a. let q = ne z a.0 in let b = roots_else n m s v p x true i z q in let b2 = t.unheld z a.0 in omega arith)
    (λ y z a h w. elim (same? y x) [
      | inl q ↦ absurd (reach_out n m r D s v t p i
          (subst (Reach c (s.roots p)) (let e2 = h.here in ap (λ (f : ℕ → ℕ). f h.at) (sym (upd_at c.place x to y q)) ∙ e2)
          (kids h.at h.low (let e3 = upd_at c.arity x k y q in let e4 = h.high in omega arith))) a.0)
      | inr q ↦ t.parents y z a.0 (arrow_back (Range n) c x k to v.global j e ks y z q h) (λ o. w (upd_other c.colour x black y q ∙ o))
    ])
track_move n m r D {s} v t (append_child p x y i a b) =
    let c = s.cells in
    track_same n m r D s v t (called s (add c x y) s.roots s.box) refl (λ z o. (refl, refl, refl, refl)) (λ z o. t.unheld z o.0)
    (λ q z o h w. elim (child_old (Range n) c x y v.global (reach_s n m s v p i a) (reach_s n m s v p i b) q z h)
    [ inl k ↦ t.parents q z o.0 k w | inr k ↦ absurd (reach_out n m r D s v t p i b (subst D k.1 o.0)) ])
track_move n m r D {s} v t (protect p x i j a e) =
    let c = s.cells in
    let ne : (z : ℕ) → D z → (z ≡ x → ⊥) = (λ z d q. reach_out n m r D s v t p i a (subst D q d)) in
    track_same n m r D s v t (called s (counts c (more c.sources x) c.putoff) (root s p x true) s.box) refl
    (λ z o. (refl, refl, upd_other c.sources x _ z (ne z o.0), refl))
    (λ z o. let b = roots_else n m s v p x true i z (ne z o.0) in let b2 = t.unheld z o.0 in omega arith)
    (λ q z o h w. t.parents q z o.0 h w)
track_move n m r D {s} v t (un_protect p x i j e) =
    let c = s.cells in
    let ne : (z : ℕ) → D z → (z ≡ x → ⊥) = (λ z d q. root_out n m r D s v t p x i e (subst D q d)) in
    track_same n m r D s v t (called s (counts c c.sources (more c.putoff x)) (root s p x false) s.box) refl
    (λ z o. (refl, refl, refl, refl))
    (λ z o. let b = roots_else n m s v p x false i z (ne z o.0) in let b2 = t.unheld z o.0 in omega arith)
    (λ q z o h w. t.parents q z o.0 h w)
track_move n m r D {s} v t (send p x q i j k a e) =
    let c = s.cells in
    let ne : (z : ℕ) → D z → (z ≡ x → ⊥) = (λ z d o. reach_out n m r D s v t p i a (subst D o d)) in
    track_same n m r D s v t (called s (counts c (more c.sources x) c.putoff) s.roots (boxed s p q x)) refl
    (λ z o. (refl, refl, upd_other c.sources x _ z (ne z o.0), refl))
    (λ z o. let b = boxes_at n m s v p q x i j z in let b2 = t.unheld z o.0 in let b3 = is_none n m s v x z (λ y. ne z o.0 (sym y)) in omega arith)
    (λ y z o h w. t.parents y z o.0 h w)
track_move n m r D {s} v t (receive p q x i j k e f) =
    let c = s.cells in
    let ne : (z : ℕ) → D z → (z ≡ x → ⊥) = (λ z d o. box_out n m r D s v t q p x j i e (subst D o d)) in
    track_same n m r D s v t (called s c (root s p x true) (boxed s q p 0)) refl (λ z o. (refl, refl, refl, refl))
    (λ z o. let l = low n m r D s v t z o.0 in let b = boxes_at n m s v q p 0 j i z in let b2 = t.unheld z o.0 in let b3 = is_none n m s v 0 z (λ y. omega arith) in
    let b4 = roots_else n m s v p x true i z (ne z o.0) in omega arith)
    (λ y z o h w. t.parents y z o.0 h w)
track_move n m r D {s} v t (receive_again p q x i j k e f) =
    let c = s.cells in
    track_same n m r D s v t (called s (counts c c.sources (more c.putoff x)) s.roots (boxed s q p 0)) refl (λ z o. (refl, refl, refl, refl))
    (λ z o. let l = low n m r D s v t z o.0 in let b = boxes_at n m s v q p 0 j i z in let b2 = t.unheld z o.0 in let b3 = is_none n m s v 0 z (λ y. omega arith) in omega arith)
    (λ y z o h w. t.parents y z o.0 h w)

-- at the moment s itself, all that is dead and not white
pub track_here : (n m : ℕ) (s : View) → Inv n m s → Track m s.cells.rnd (λ z. (Live m s z → ⊥) × (Is s.cells white z → ⊥)) s
track_here n m s v =
    let low : (z : ℕ) → (Is s.cells white z → ⊥) → 1 ≤ z = (λ z w. (v.global.inside z w).0) in
    record {
      since = omega arith;
      nonwhite = λ z d. d.1;
      unheld = λ z d.
          let a = sum_none_in (λ p. bit (s.roots p z)) m (λ p l h. elim (bool? (s.roots p z))
          [ inl e ↦ absurd (d.0 (live_root p (l, h) e (low z d.1))) | inr e ↦ ap bit e ]) in
          let b = sum_none_in (λ p. sum (λ q. bit (eqb (s.box p q) z)) m) m (λ p l h. sum_none_in (λ q. bit (eqb (s.box p q) z)) m (λ q l2 h2. elim (same? (s.box p q) z)
          [ inl e ↦ absurd (d.0 (live_box p q (l, h) (l2, h2) e (low z d.1))) | inr e ↦ is_none n m s v (s.box p q) z e ])) in
          omega arith;
      parents = λ x z d c w. (λ a. d.0 (live_child a c), w);
      line1 = λ q u d f. absurd (omega arith);
      line2 = λ q u d. absurd (omega arith);
      line3 = λ q u d. omega arith;
    }

pub track_weaken : (m r : ℕ) (D E : ℕ → Type 0) (s : View) → ((z : ℕ) → D z → E z) → ((z : ℕ) → E z → D z) → Track m r D s → Track m r E s
track_weaken m r D E s f b t = record {
  since = t.since;
  nonwhite = λ u d. t.nonwhite u (b u d);
  unheld = λ u d. t.unheld u (b u d);
  parents = λ x z d c w. f x (t.parents x z (b z d) c w);
  line1 = λ q u d. t.line1 q u (b u d);
  line2 = λ q u d. t.line2 q u (b u d);
  line3 = λ q u d. t.line3 q u (b u d);
}
