use Rattle.std.proofs.Common.{◌≡◌, ℕ, suc, ◌≤◌, ◌⊎◌, sym, refl, subst, inl, inr, arith}
use Rattle.rules.proofs.Heap.{Cells, Child, Traced, S, s_source, s_claimed, s_black, s_old, s_grey, Rooted, r_source, r_under}
use Rattle.rules.proofs.CellInvariant.{Global, Keeps}
use Rattle.rules.proofs.HeapChanges.{add}
use Rattle.rules.proofs.Basics.{same?}

module _ (In : ℕ → Type 0) (c : Cells) (x y : ℕ) (g : Global In c) (x_s : S c x) (y_s : S c y) where
  child_kept : (v z : ℕ) → Child c v z → Child (add c x y) v z
  child_kept v z t = record { at = t.at; low = t.low; high = (let h = t.high in grind arith); here = (let h = t.high in let e = t.here in grind arith) }

  pub child_old : (v z : ℕ) → Child (add c x y) v z → Child c v z ⊎ ((v ≡ x) × (z ≡ y))
  child_old v z t = elim (same? v x) [
    | inr n ↦ inl (record { at = t.at; low = t.low; high = (let h = t.high in grind arith); here = (let e = t.here in grind arith) })
    | inl p ↦ elim (same? t.at (suc (c.arity x))) [
      | inl q ↦ inr (p, (let e = t.here in grind arith))
      | inr n ↦ inl (record { at = t.at; low = t.low; high = (let h = t.high in grind arith); here = (let e = t.here in grind arith) })
    ]
  ]

  traced_kept : (v z : ℕ) → c.first v ≤ c.arity v → Traced c v z → Traced (add c x y) v z
  traced_kept v z l t = record { at = t.at; low = t.low; high = t.high; here = (let h = t.high in let e = t.here in grind arith) }

  traced_old : (v z : ℕ) → c.first v ≤ c.arity v → Traced (add c x y) v z → Traced c v z
  traced_old v z l t = record { at = t.at; low = t.low; high = t.high; here = (let h = t.high in let e = t.here in grind arith) }

  kept : {z : ℕ} → S c z → S (add c x y) z
  kept (s_source n h) = s_source n h
  kept (s_claimed k) = s_claimed k
  kept (s_black f b) = s_black f b
  kept (s_old {x = v} {z} s n h) = s_old (kept s) n (child_kept v z h)
  kept (s_grey {x = v} {z} s f e t) = s_grey (kept s) f e (traced_kept v z (g.first_grey v e) t)

  old : {z : ℕ} → S (add c x y) z → S c z
  old (s_source n h) = s_source n h
  old (s_claimed k) = s_claimed k
  old (s_black f b) = s_black f b
  old (s_old {x = v} {z} s n h) = go (old s) (child_old v z h)
    where
      go : S c v → Child c v z ⊎ ((v ≡ x) × (z ≡ y)) → S c z
      go k (inl t) = s_old k n t
      go k (inr p) = subst (S c) (sym p.1) y_s
  old (s_grey {x = v} {z} s f e t) = s_grey (old s) f e (traced_old v z (g.first_grey v e) t)

  rooted_kept : {z : ℕ} → Rooted c z → Rooted (add c x y) z
  rooted_kept (r_source f e) = r_source f e
  rooted_kept (r_under f e r) = r_under f e (rooted_kept r)

  pub add_global : Global In (add c x y)
  add_global = record {
    rounds = g.rounds;
    rounds_top = g.rounds_top;
    inside = g.inside;
    grey_fresh = g.grey_fresh;
    source_s = λ z h. kept (g.source_s z h);
    child_s = λ v z s h. elim (child_old v z h) [ inl t ↦ kept (g.child_s v z (old s) t) | inr p ↦ kept (subst (S c) (sym p.1) y_s) ];
    white_s = λ z s e. g.white_s z (old s) e;
    first_grey = λ z e. let h = g.first_grey z e in grind arith;
    first_claimed = λ z k. let h = g.first_claimed z k in grind arith;
    rooted = λ z k. rooted_kept (g.rooted z k);
    father_traces = λ z w k e e2. traced_kept w z (g.first_grey w e2) (g.father_traces z w k e e2);
    black_done = λ w z e k t. g.black_done w z e k (traced_old w z (g.first_claimed w k) t);
    grey_father = g.grey_father;
  }

  pub add_keeps : Keeps c (add c x y)
  add_keeps = record {
    same_rnd = refl;
    fresh = λ z f. f;
    father = λ z f. inl refl;
    grey_old = λ z f e. e;
    black_kept = λ z f e. e;
    traced_same = λ v z a t. traced_kept v z (g.first_grey v a) t;
    traced_old = λ v z a t. traced_old v z (g.first_grey v a) t;
    s_was = λ z s. inl (old s);
  }
