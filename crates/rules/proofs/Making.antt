use Rattle.std.proofs.Common.{◌≡◌, ℕ, suc, ◌≤◌, ◌⊎◌, sym, refl, ap, ◌∙◌, subst, inl, inr, arith}
use Rattle.rules.proofs.Heap.{white, Cells, Is, Child, Traced, S, s_source, s_claimed, s_black, s_old, s_grey, Rooted, r_source, r_under}
use Rattle.rules.proofs.CellInvariant.{Global, Keeps}
use Rattle.rules.proofs.HeapChanges.{made}
use Rattle.rules.proofs.Basics.{same?}

module _ (In : ℕ → Type 0) (c : Cells) (x n : ℕ) (to : ℕ → ℕ) (g : Global In c) (x_in : In x) (xWhite : Is c white x)
    (kids : (j : ℕ) → 1 ≤ j → j ≤ n → S c (to j)) where
  others : (z : ℕ) → S c z → (z ≡ x → ⊥)
  others z s p = g.white_s z s (ap c.colour p ∙ xWhite)

  arrow_same : (v z : ℕ) → (v ≡ x → ⊥) → Child c v z → Child (made c x n to) v z
  arrow_same v z m t = record { at = t.at; low = t.low; high = (let h = t.high in grind arith); here = (let e = t.here in grind arith) }

  pub arrow_back : (v z : ℕ) → (v ≡ x → ⊥) → Child (made c x n to) v z → Child c v z
  arrow_back v z m t = record { at = t.at; low = t.low; high = (let h = t.high in grind arith); here = (let e = t.here in grind arith) }

  traced_same : (v z : ℕ) → (v ≡ x → ⊥) → Traced c v z → Traced (made c x n to) v z
  traced_same v z m t = record { at = t.at; low = t.low; high = t.high; here = (let e = t.here in grind arith) }

  traced_back : (v z : ℕ) → (v ≡ x → ⊥) → Traced (made c x n to) v z → Traced c v z
  traced_back v z m t = record { at = t.at; low = t.low; high = t.high; here = (let e = t.here in grind arith) }

  kid_s : (z : ℕ) → Child (made c x n to) x z → S c z
  kid_s z t = subst (S c) (let e = t.here in grind arith) (kids t.at t.low (let h = t.high in grind arith))

  kept : {z : ℕ} → S c z → S (made c x n to) z
  kept (s_source {x = v} m h) = s_source m (grind arith)
  kept (s_claimed k) = s_claimed k
  kept (s_black f b) = s_black f (grind arith)
  kept (s_old {x = v} {z} s m h) = s_old (kept s) m (arrow_same v z (others v s) h)
  kept (s_grey {x = v} {z} s f e t) = let m : (v ≡ x → ⊥) = others v s in s_grey (kept s) f (grind arith) (traced_same v z m t)

  x_s : S (made c x n to) x
  x_s = elim (same? (c.round x) (suc c.rnd)) [ inl f ↦ s_black f (grind arith) | inr m ↦ s_source m (grind arith) ]

  old : {z : ℕ} → S (made c x n to) z → S c z ⊎ (z ≡ x)
  old (s_source {x = v} m h) = elim (same? v x) [ inl p ↦ inr p | inr q ↦ inl (s_source m (grind arith)) ]
  old (s_claimed k) = inl (s_claimed k)
  old (s_black {x = v} f b) = elim (same? v x) [ inl p ↦ inr p | inr q ↦ inl (s_black f (grind arith)) ]
  old (s_old {x = v} {z} s m h) = go (old s)
    where
      go : S c v ⊎ (v ≡ x) → S c z ⊎ (z ≡ x)
      go (inl k) = inl (s_old k m (arrow_back v z (others v k) h))
      go (inr p) = inl (kid_s z (subst (λ (u : ℕ). Child (made c x n to) u z) p h))
  old (s_grey {x = v} {z} s f e t) = go (old s)
    where
      go : S c v ⊎ (v ≡ x) → S c z ⊎ (z ≡ x)
      go (inl k) = let m : (v ≡ x → ⊥) = others v k in inl (s_grey k f (grind arith) (traced_back v z m t))
      go (inr p) = absurd (grind arith)

  rooted_kept : {z : ℕ} → Rooted c z → Rooted (made c x n to) z
  rooted_kept (r_source f e) = r_source f e
  rooted_kept (r_under f e r) = r_under f e (rooted_kept r)

  pub made_global : Global In (made c x n to)
  made_global = record {
    rounds = g.rounds;
    rounds_top = g.rounds_top;
    inside = λ z m. elim (same? z x) [ inl p ↦ subst In (sym p) x_in | inr q ↦ g.inside z (grind arith) ];
    grey_fresh = λ z e. g.grey_fresh z (grind arith);
    source_s = λ z h. elim (same? z x) [ inl p ↦ subst (S (made c x n to)) (sym p) x_s | inr q ↦ kept (g.source_s z (grind arith)) ];
    child_s = λ v z s h. elim (old s) [ inl k ↦ kept (g.child_s v z k (arrow_back v z (others v k) h)) | inr p ↦ kept (kid_s z (subst (λ (u : ℕ). Child (made c x n to) u z) p h)) ];
    white_s = λ z s e. elim (old s) [ inl k ↦ g.white_s z k (grind arith) | inr p ↦ grind arith ];
    first_grey = λ z e. let m : (z ≡ x → ⊥) = (λ p. grind arith) in let h = g.first_grey z (grind arith) in grind arith;
    first_claimed = λ z k. let m : (z ≡ x → ⊥) = others z (s_claimed k) in let h = g.first_claimed z k in grind arith;
    rooted = λ z k. rooted_kept (g.rooted z k);
    father_traces = λ z w k e e2. let m : (w ≡ x → ⊥) = (λ p. grind arith) in traced_same w z m (g.father_traces z w k e (grind arith));
    black_done = λ w z e k t. let m : (w ≡ x → ⊥) = others w (s_claimed k) in
        elim (g.black_done w z (grind arith) k (traced_back w z m t)) [ inl a ↦ inl a | inr d ↦ inr (d.0, grind arith) ];
    grey_father = λ v w k e r.
        let a = g.grey_father v w k (grind arith) r in grind arith;
  }

  pub made_keeps : Keeps c (made c x n to)
  made_keeps = record {
    same_rnd = refl;
    fresh = λ z f. f;
    father = λ z f. inl refl;
    grey_old = λ z f e. grind arith;
    black_kept = λ z f e. grind arith;
    traced_same = λ v z a t. traced_same v z (λ p. grind arith) t;
    traced_old = λ v z a t. traced_back v z (λ p. grind arith) t;
    s_was = λ z s. elim (old s) [ inl k ↦ inl k | inr p ↦ inr (grind arith) ];
  }
