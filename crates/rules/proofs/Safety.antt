-- The invariant holds along every run, so no live cell is free.
use Rattle.std.proofs.Common.{◌≡◌, ℕ, suc, ◌+◌, ◌<◌, ◌≤◌, Bool, true, false, eqb, sym, ap, ◌∙◌, subst, inl, inr, arith}
use Rattle.rules.proofs.Heap.{upd, white, grey, Cells, Fresh, Is, S, s_source, s_claimed, s_black, s_old, s_grey}
use Rattle.rules.proofs.CellInvariant.{Global, Keeps}
use Rattle.rules.proofs.HeapChanges.{made, add, counts}
use Rattle.rules.proofs.Walkers.{Worker, begun}
use Rattle.rules.proofs.WalkerInvariant.{LocAt, Local}
use Rattle.rules.proofs.WalkerSteps.{Step, a101_take, a101_none, a108_scan, a108_skip, a121, a122_take, a122_none, a126_yes, a126_no, a150, a151_take, a151_none, a157_go, a157_no, a158_in, a158_out, a158_end, a163_claim, a163_no, a168_pop, a168_none, a175_paint, a175_no, a180, a129_take, a129_none, a134_white, a134_no, a135_turn, a135_no, a137}
use Rattle.rules.proofs.Moves.{View, Range, Reach, at_root, on, Live, live_root, live_box, live_child, called, root, boxed, more, Move, step, begin, make, append_child, protect, un_protect, send, receive, receive_again, Starts}
use Rattle.rules.proofs.Invariant.{bit, sum, root_count, box_count, Balance, Inv}
use Rattle.rules.proofs.Basics.{upd_other, same?, upd_all, upd_at}
use Rattle.rules.proofs.Carrying.{keeps_refl, local_kept}
use Rattle.rules.proofs.StepKept.{step_kept}
use Rattle.rules.proofs.Counting.{counts_global, counts_keeps}
use Rattle.rules.proofs.Adding.{add_global, add_keeps}
use Rattle.rules.proofs.Making.{made_global, made_keeps}
use Rattle.rules.proofs.Sums.{sum_at, sum_none, roots_change, boxes_change}

-- a step leaves what is owed of each count
step_counts : (In : ℕ → Type 0) {c : Cells} {w : Worker} {d : Cells} {w' : Worker} → Step In c w d w' → (x h : ℕ) → c.sources x ≡ c.putoff x + h → d.sources x ≡ d.putoff x + h
step_counts In (a101_take e p i m) x h b = b
step_counts In (a101_none e n) x h b = b
step_counts In (a108_scan e i r) x h b = b
step_counts In (a108_skip e i n) x h b = b
step_counts In (a121 all k e) x h b = b
step_counts In (a122_take e p i m) x h b = b
step_counts In (a122_none e n) x h b = b
step_counts In (a126_yes e f) x h b = b
step_counts In (a126_no e n) x h b = b
step_counts In (a150 e) x h b = b
step_counts In (a151_take e p m) x h b = b
step_counts In (a151_none e n) x h b = b
step_counts In (a157_go e k) x h b = b
step_counts In (a157_no e n) x h b = b
step_counts In (a158_in e p m) x h b = b
step_counts In (a158_out e p m) x h b = b
step_counts In (a158_end e n) x h b = b
step_counts In (a163_claim e k m) x h b = b
step_counts In (a163_no e n) x h b = b
step_counts In (a168_pop e p m) x h b = b
step_counts In (a168_none e n) x h b = b
step_counts In {c} (a175_paint {y} e k) x h b = grind arith
step_counts In (a175_no e n) x h b = b
step_counts In (a180 e) x h b = b
step_counts In (a129_take e p i m) x h b = b
step_counts In (a129_none e n) x h b = b
step_counts In (a134_white e k) x h b = b
step_counts In (a134_no e n) x h b = b
step_counts In (a135_turn e p) x h b = b
step_counts In (a135_no e n) x h b = b
step_counts In (a137 e) x h b = b

module _ (n m : ℕ) (s : View) (v : Inv n m s) where
  pub g : Global (Range n) s.cells
  g = v.global

  root_s : (p x : ℕ) → Range m p → 1 ≤ x → s.roots p x ≡ true → S s.cells x
  root_s p x r i e = v.global.source_s x
      (let a = sum_at (λ q. bit (s.roots q x)) p m r.0 r.1 in let b = v.balance x i in let k = ap bit e in omega arith)

  box_s : (p r x : ℕ) → Range m p → Range m r → 1 ≤ x → s.box p r ≡ x → S s.cells x
  box_s p r x i j l e = v.global.source_s x
      (let a = sum_at (λ q. sum (λ t. bit (eqb (s.box q t) x)) m) p m i.0 i.1 in
      let a2 = sum_at (λ t. bit (eqb (s.box p t) x)) r m j.0 j.1 in
      let b = v.balance x l in let k : bit (eqb (s.box p r) x) ≡ 1 = grind arith in omega arith)

  live_s : {x : ℕ} → Live m s x → S s.cells x
  live_s (live_root {x} p i e l) = root_s p x i l e
  live_s (live_box {x} p r i j e l) = box_s p r x i j l e
  live_s (live_child {x} {z} a t) = v.global.child_s x z (live_s a) t

  pub live_kept : {x : ℕ} → Live m s x → Is s.cells white x → ⊥
  live_kept {x} a e = v.global.white_s x (live_s a) e

  pub reach_s : (p : ℕ) → Range m p → {x : ℕ} → Reach s.cells (s.roots p) x → S s.cells x
  reach_s p i (at_root {x} e) = root_s p x i (v.roots_low p x e) e
  reach_s p i (on {x} {z} a t) = v.global.child_s x z (reach_s p i a) t

  -- a call that leaves the workers, and changes the cells within a round
  call : (d : Cells) (rs : ℕ → ℕ → Bool) (bs : ℕ → ℕ → ℕ) → Global (Range n) d → Keeps s.cells d → Balance m d rs bs
      → ((p x : ℕ) → rs p x ≡ true → 1 ≤ x) → Inv n m (called s d rs bs)
  call d rs bs g' k b r = record { global = g'; locals = λ p. local_kept s.cells d k (Range n) g g' (s.workers p) (v.locals p); balance = b; roots_low = r }

  root_low : (p x : ℕ) (b : Bool) → 1 ≤ x → (q z : ℕ) → root s p x b q z ≡ true → 1 ≤ z
  root_low p x b i q z e = elim (same? z x) [
    | inl a ↦ omega arith
    | inr a ↦ v.roots_low q z (elim (same? q p) [
      | inl c ↦ (let e2 : upd (s.roots p) x b z ≡ true = sym (ap (λ (f : ℕ → Bool). f z) (upd_at s.roots p (upd (s.roots p) x b) q c)) ∙ e in
          ap (λ (t : ℕ). s.roots t z) c ∙ (sym (upd_other (s.roots p) x b z a) ∙ e2))
      | inr c ↦ sym (ap (λ (f : ℕ → Bool). f z) (upd_other s.roots p (upd (s.roots p) x b) q c)) ∙ e
    ])
  ]

  -- the count of roots after one is set
  roots_at : (p x : ℕ) (b : Bool) → Range m p → (z : ℕ) → z ≡ x → root_count m (root s p x b) z + bit (s.roots p z) ≡ root_count m s.roots z + bit b
  roots_at p x b i z e = roots_change m s.roots p x b i.0 i.1 z ∙ ap (λ (t : Bool). root_count m s.roots z + bit t) (upd_at (s.roots p) x b z e)

  pub roots_else : (p x : ℕ) (b : Bool) → Range m p → (z : ℕ) → (z ≡ x → ⊥) → root_count m (root s p x b) z ≡ root_count m s.roots z
  roots_else p x b i z e = let a = roots_change m s.roots p x b i.0 i.1 z in let k = ap bit (upd_other (s.roots p) x b z e) in omega arith

  pub boxes_at : (p r y : ℕ) → Range m p → Range m r → (z : ℕ) → box_count m (boxed s p r y) z + bit (eqb (s.box p r) z) ≡ box_count m s.box z + bit (eqb y z)
  boxes_at p r y i j z = boxes_change m s.box p r y i.0 i.1 j.0 j.1 z

  pub is_one : (a b : ℕ) → a ≡ b → bit (eqb a b) ≡ 1
  is_one a b e = grind arith

  pub is_none : (a b : ℕ) → (a ≡ b → ⊥) → bit (eqb a b) ≡ 0
  is_none a b e = grind arith

  white_counts : (x : ℕ) → 1 ≤ x → Is s.cells white x → s.cells.sources x ≡ 0
  white_counts x i e = elim (same? (s.cells.sources x) 0) [ inl p ↦ p | inr q ↦ absurd (g.white_s x (g.source_s x (omega arith)) e) ]

  more_up : (x z : ℕ) → s.cells.sources z ≤ more s.cells.sources x z
  more_up x z = grind arith

  more_s : (x : ℕ) → S s.cells x → (z : ℕ) → 0 < more s.cells.sources x z → S s.cells z
  more_s x r z h = elim (same? z x) [ inl p ↦ subst (S s.cells) (sym p) r | inr q ↦ g.source_s z (grind arith) ]

  make_balance : (p x k : ℕ) (to : ℕ → ℕ) → Range m p → Range n x → Is s.cells white x → Balance m (made s.cells x k to) (root s p x true) s.box
  make_balance p x k to i j e z l = elim (same? z x) [
    | inl q ↦ (let a = roots_at p x true i z q in let b = v.balance z l in let c = white_counts x j.0 e in let c2 = ap s.cells.sources q in
        let t = upd_at s.cells.sources x 1 z q in let u = sum_at (λ y. bit (s.roots y z)) p m i.0 i.1 in omega arith)
    | inr q ↦ (let a = roots_else p x true i z q in let b = v.balance z l in let t = upd_other s.cells.sources x 1 z q in omega arith)
  ]

  protect_balance : (p x : ℕ) → Range m p → s.roots p x ≡ false → Balance m (counts s.cells (more s.cells.sources x) s.cells.putoff) (root s p x true) s.box
  protect_balance p x i e z l = elim (same? z x) [
    | inl q ↦ (let a = roots_at p x true i z q in let b = v.balance z l in let c = ap s.cells.sources q in
        let t = upd_at s.cells.sources x (suc (s.cells.sources x)) z q in let k : bit (s.roots p z) ≡ 0 = ap (λ (y : ℕ). bit (s.roots p y)) q ∙ ap bit e in omega arith)
    | inr q ↦ (let a = roots_else p x true i z q in let b = v.balance z l in let t = upd_other s.cells.sources x (suc (s.cells.sources x)) z q in omega arith)
  ]

  un_protect_balance : (p x : ℕ) → Range m p → s.roots p x ≡ true → Balance m (counts s.cells s.cells.sources (more s.cells.putoff x)) (root s p x false) s.box
  un_protect_balance p x i e z l = elim (same? z x) [
    | inl q ↦ (let a = roots_at p x false i z q in let b = v.balance z l in let c = ap s.cells.putoff q in
        let t = upd_at s.cells.putoff x (suc (s.cells.putoff x)) z q in let k : bit (s.roots p z) ≡ 1 = ap (λ (y : ℕ). bit (s.roots p y)) q ∙ ap bit e in omega arith)
    | inr q ↦ (let a = roots_else p x false i z q in let b = v.balance z l in let t = upd_other s.cells.putoff x (suc (s.cells.putoff x)) z q in omega arith)
  ]

  send_balance : (p x r : ℕ) → Range m p → Range m r → s.box p r ≡ 0 → Balance m (counts s.cells (more s.cells.sources x) s.cells.putoff) s.roots (boxed s p r x)
  send_balance p x r i j e z l =
      let a = boxes_at p r x i j z in let b = v.balance z l in let k = is_none (s.box p r) z (λ y. omega arith) in
      elim (same? z x) [
        | inl q ↦ (let c = ap s.cells.sources q in let t = upd_at s.cells.sources x (suc (s.cells.sources x)) z q in let o = is_one x z (sym q) in omega arith)
        | inr q ↦ (let t = upd_other s.cells.sources x (suc (s.cells.sources x)) z q in let o = is_none x z (λ y. q (sym y)) in omega arith)
      ]

  receive_balance : (p r x : ℕ) → Range m p → Range m r → s.box r p ≡ x → s.roots p x ≡ false → Balance m s.cells (root s p x true) (boxed s r p 0)
  receive_balance p r x i j e f z l =
      let a = boxes_at r p 0 j i z in let b = v.balance z l in let k = is_none 0 z (λ y. omega arith) in
      elim (same? z x) [
        | inl q ↦ (let c = roots_at p x true i z q in let o = is_one (s.box r p) z (e ∙ sym q) in let t : bit (s.roots p z) ≡ 0 = ap (λ (y : ℕ). bit (s.roots p y)) q ∙ ap bit f in omega arith)
        | inr q ↦ (let c = roots_else p x true i z q in let o = is_none (s.box r p) z (λ y. q (sym y ∙ e)) in omega arith)
      ]

  receive_again_balance : (p r x : ℕ) → Range m p → Range m r → s.box r p ≡ x → Balance m (counts s.cells s.cells.sources (more s.cells.putoff x)) s.roots (boxed s r p 0)
  receive_again_balance p r x i j e z l =
      let a = boxes_at r p 0 j i z in let b = v.balance z l in let k = is_none 0 z (λ y. omega arith) in
      elim (same? z x) [
        | inl q ↦ (let o = is_one (s.box r p) z (e ∙ sym q) in let c = ap s.cells.putoff q in let t = upd_at s.cells.putoff x (suc (s.cells.putoff x)) z q in omega arith)
        | inr q ↦ (let o = is_none (s.box r p) z (λ y. q (sym y ∙ e)) in let t = upd_other s.cells.putoff x (suc (s.cells.putoff x)) z q in omega arith)
      ]

  -- a count of what is put off stays below the count of sources, so it fits where that does
  pub unprotect_fits : (p x : ℕ) → Range m p → 1 ≤ x → s.roots p x ≡ true → s.cells.putoff x < s.cells.sources x
  unprotect_fits p x r i e = let a = sum_at (λ q. bit (s.roots q x)) p m r.0 r.1 in let b = v.balance x i in let k = ap bit e in omega arith

  pub receive_fits : (p r x : ℕ) → Range m p → Range m r → 1 ≤ x → s.box p r ≡ x → s.cells.putoff x < s.cells.sources x
  receive_fits p r x i j l e =
      let a = sum_at (λ q. sum (λ t. bit (eqb (s.box q t) x)) m) p m i.0 i.1 in
      let a2 = sum_at (λ t. bit (eqb (s.box p t) x)) r m j.0 j.1 in
      let b = v.balance x l in let k : bit (eqb (s.box p r) x) ≡ 1 = grind arith in omega arith

  less : (o : ℕ → ℕ) → Global (Range n) (counts s.cells s.cells.sources o) × Keeps s.cells (counts s.cells s.cells.sources o)
  less o = let up : (z : ℕ) → s.cells.sources z ≤ s.cells.sources z = (λ z. omega arith) in
      (counts_global (Range n) s.cells s.cells.sources o g up g.source_s, counts_keeps (Range n) s.cells s.cells.sources o g up g.source_s)

pub move_kept : (n m : ℕ) {s t : View} → Inv n m s → Move n m s t → Inv n m t
move_kept n m {s} v (step {d} {w} p i a) =
    let r = step_kept (Range n) v.global (v.locals p) a in
    record {
      global = r.global;
      locals = upd_all (Local (Range n) d) s.workers p w r.moved (λ q. r.others (s.workers q) (v.locals q));
      balance = λ x l. step_counts (Range n) a x (root_count m s.roots x + box_count m s.box x) (v.balance x l);
      roots_low = v.roots_low;
    }
move_kept n m {s} v (begin p all h i e) =
    record {
      global = v.global;
      locals = upd_all (Local (Range n) s.cells) s.workers p (begun (s.workers p) s.cells.rnd all) (record { not_ahead = omega arith; when_in_step = λ q x j. inl (h x j) }) v.locals;
      balance = v.balance;
      roots_low = v.roots_low;
    }
move_kept n m {s} v (make p x k to i j e kids) =
    let ks : (a : ℕ) → 1 ≤ a → a ≤ k → S s.cells (to a) = (λ a l h. reach_s n m s v p i (kids a l h)) in
    call n m s v (made s.cells x k to) (root s p x true) s.box (made_global (Range n) s.cells x k to v.global j e ks) (made_keeps (Range n) s.cells x k to v.global j e ks)
    (make_balance n m s v p x k to i j e) (root_low n m s v p x true j.0)
move_kept n m {s} v (append_child p x y i a b) =
    let xs = reach_s n m s v p i a in let ys = reach_s n m s v p i b in
    call n m s v (add s.cells x y) s.roots s.box (add_global (Range n) s.cells x y v.global xs ys) (add_keeps (Range n) s.cells x y v.global xs ys) v.balance v.roots_low
move_kept n m {s} v (protect p x i j a e) =
    let xs = more_s n m s v x (reach_s n m s v p i a) in let up = more_up n m s v x in let c = s.cells in
    call n m s v (counts c (more c.sources x) c.putoff) (root s p x true) s.box (counts_global (Range n) c (more c.sources x) c.putoff v.global up xs)
    (counts_keeps (Range n) c (more c.sources x) c.putoff v.global up xs) (protect_balance n m s v p x i e) (root_low n m s v p x true j.0)
move_kept n m {s} v (un_protect p x i j e) =
    let c = s.cells in let l = less n m s v (more c.putoff x) in
    call n m s v (counts c c.sources (more c.putoff x)) (root s p x false) s.box l.0 l.1 (un_protect_balance n m s v p x i e) (root_low n m s v p x false j.0)
move_kept n m {s} v (send p x r i j k a e) =
    let xs = more_s n m s v x (reach_s n m s v p i a) in let up = more_up n m s v x in let c = s.cells in
    call n m s v (counts c (more c.sources x) c.putoff) s.roots (boxed s p r x) (counts_global (Range n) c (more c.sources x) c.putoff v.global up xs)
    (counts_keeps (Range n) c (more c.sources x) c.putoff v.global up xs) (send_balance n m s v p x r i j e) v.roots_low
move_kept n m {s} v (receive p r x i j k e f) =
    call n m s v s.cells (root s p x true) (boxed s r p 0) v.global (keeps_refl s.cells) (receive_balance n m s v p r x i j e f) (root_low n m s v p x true k.0)
move_kept n m {s} v (receive_again p r x i j k e f) =
    let c = s.cells in let l = less n m s v (more c.putoff x) in
    call n m s v (counts c c.sources (more c.putoff x)) s.roots (boxed s r p 0) l.0 l.1 (receive_again_balance n m s v p r x i j e) v.roots_low

starts_no_S : (n : ℕ) (s : View) → Starts n s → {x : ℕ} → S s.cells x → ⊥
starts_no_S n s o (s_source {x} a h) = omega (arith, o.no_source x)
starts_no_S n s o (s_claimed {x} k) = omega (arith, o.rounds x)
starts_no_S n s o (s_black {x} f e) = omega (arith, o.rounds x)
starts_no_S n s o (s_old r a t) = starts_no_S n s o r
starts_no_S n s o (s_grey r f e t) = starts_no_S n s o r

pub starts_inv : (n m : ℕ) (s : View) → Starts n s → Inv n m s
starts_inv n m s o =
    let old : (x : ℕ) → Fresh s.cells x → ⊥ = (λ x f. omega (arith, o.rounds x)) in
    let w : (x : ℕ) → Is s.cells grey x → ⊥ = (λ x e. let q = o.all_white x in grind arith) in
    record {
      global = record {
        rounds = λ x i. omega (arith, o.rounds_in x i);
        rounds_top = λ x. omega (arith, o.rounds x);
        inside = λ x h. absurd (h (o.all_white x));
        grey_fresh = λ x e. absurd (w x e);
        source_s = λ x h. absurd (omega (arith, o.no_source x));
        child_s = λ x z r t. absurd (starts_no_S n s o r);
        white_s = λ x r e. starts_no_S n s o r;
        first_grey = λ x e. absurd (w x e);
        first_claimed = λ x k. absurd (old x k.0);
        rooted = λ x k. absurd (old x k.0);
        father_traces = λ x v k e f. absurd (old x k.0);
        black_done = λ v z e k t. absurd (old v k.0);
        grey_father = λ y v k e r. absurd (old y k.0);
      };
      locals = λ p. record { not_ahead = omega (arith, o.own p); when_in_step = λ e. subst (LocAt (Range n) s.cells (s.workers p)) (sym (o.all_idle p)) tt };
      balance = λ x l.
          let a = sum_none (λ p. bit (s.roots p x)) (λ p. ap bit (o.no_root p x)) m in
          let b = sum_none (λ p. sum (λ r. bit (eqb (s.box p r) x)) m) (λ p. sum_none (λ r. bit (eqb (s.box p r) x)) (λ r. let q = o.no_box p r in grind arith) m) m in
          omega (arith, o.no_source x, o.no_putoff x);
      roots_low = λ p x e. absurd (let q = o.no_root p x in grind arith);
    }
