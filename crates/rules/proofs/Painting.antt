use Rattle.std.proofs.Common.{◌≡◌, ℕ, ◌⊎◌, sym, refl, subst, inl, inr, arith}
use Rattle.rules.proofs.Heap.{black, grey, under, Cells, Claimed, Is, Traced, S, s_source, s_claimed, s_black, s_old, s_grey, Rooted, r_source, r_under}
use Rattle.rules.proofs.CellInvariant.{Global, Done, Keeps}
use Rattle.rules.proofs.HeapChanges.{paint}
use Rattle.rules.proofs.Basics.{same?, back}

module _ (In : ℕ → Type 0) (c : Cells) (y : ℕ) (g : Global In c) (yGrey : Is c grey y) (yClaimed : Claimed c y)
    (seen : (z : ℕ) → Traced c y z → Done c z ⊎ (Claimed c z × (c.father z ≡ under y → ⊥))) where
  kept : {z : ℕ} → S c z → S (paint c y) z
  kept (s_source {x} n h) = s_source n (grind arith)
  kept (s_claimed k) = s_claimed k
  kept (s_black f b) = s_black f (grind arith)
  kept (s_old s n h) = s_old (kept s) n h
  kept (s_grey {x} {z} s f e t) = go (same? x y) (kept s)
    where
      go : (x ≡ y) ⊎ (x ≡ y → ⊥) → S (paint c y) x → S (paint c y) z
      go (inl e) k = elim (seen z (subst (λ (u : ℕ). Traced c u z) e t)) [ inl d ↦ s_black d.0 (grind arith) | inr d ↦ s_claimed d.0 ]
      go (inr n) k = s_grey k f (grind arith) t

  old : {z : ℕ} → S (paint c y) z → S c z
  old (s_source {x} n h) = g.source_s x (grind arith)
  old (s_claimed k) = s_claimed k
  old (s_black {x} f b) = elim (same? x y) [ inl e ↦ s_claimed (subst (λ (u : ℕ). Claimed c u) (sym e) yClaimed) | inr n ↦ s_black f (grind arith) ]
  old (s_old s n h) = s_old (old s) n h
  old (s_grey {x} s f e t) = s_grey (old s) f (grind arith) t

  rooted_kept : {z : ℕ} → Rooted c z → Rooted (paint c y) z
  rooted_kept (r_source f e) = r_source f e
  rooted_kept (r_under f e r) = r_under f e (rooted_kept r)

  pub paint_global : Global In (paint c y)
  paint_global = record {
    rounds = g.rounds;
    rounds_top = g.rounds_top;
    inside = λ x n. g.inside x (grind arith);
    grey_fresh = λ x e. g.grey_fresh x (grind arith);
    source_s = λ x h. kept (g.source_s x (grind arith));
    child_s = λ x z s h. kept (g.child_s x z (old s) h);
    white_s = λ x s e. g.white_s x (old s) (grind arith);
    first_grey = λ x e. g.first_grey x (grind arith);
    first_claimed = g.first_claimed;
    rooted = λ x k. rooted_kept (g.rooted x k);
    father_traces = λ x w k e e2. g.father_traces x w k e (grind arith);
    black_done = λ w z e k t. elim (same? w y) [ inl p ↦ grind (arith, seen) | inr n ↦ elim (g.black_done w z (back c.colour y black w n e) k t) [ inl a ↦ inl a | inr d ↦ inr (d.0, grind arith) ] ];
    grey_father = λ v w k e r. grind (arith, seen, g.grey_father, g.father_traces);
  }

  pub paint_keeps : Keeps c (paint c y)
  paint_keeps = record {
    same_rnd = refl;
    fresh = λ x f. f;
    father = λ x f. inl refl;
    grey_old = λ x f e. grind arith;
    black_kept = λ x f e. grind arith;
    traced_same = λ x z a t. t;
    traced_old = λ x z a t. t;
    s_was = λ x s. inl (old s);
  }
