use Rattle.std.proofs.Common.{◌≡◌, ℕ, zero, suc, ◌<◌, ◌⊎◌, refl, ap, ◌∙◌, subst, inl, inr, arith}
use Rattle.rules.proofs.Heap.{Colour, white, black, grey, none, source, under, Cells, Fresh, Claimed, Is, Child, Traced, S, s_source, s_claimed, s_black, s_old, s_grey, Rooted, r_source, r_under}
use Rattle.rules.proofs.CellInvariant.{Global, Keeps}
use Rattle.rules.proofs.HeapChanges.{scan, darken, first_father}
use Rattle.rules.proofs.Basics.{upd_other, same?, back}

module _ (In : ℕ → Type 0) (c : Cells) (x : ℕ) (g : Global In c) (x_in : In x) (xOld : c.round x ≡ c.rnd) where
  nf : Fresh c x → ⊥
  nf f = omega arith

  others : (z : ℕ) → Fresh c z → (z ≡ x → ⊥)
  others z f p = omega (arith, ap c.round p)

  fresh_kept : (z : ℕ) → Fresh c z → Fresh (scan c x) z
  fresh_kept z f = grind arith

  fresh_back : (z : ℕ) → (z ≡ x → ⊥) → Fresh (scan c x) z → Fresh c z
  fresh_back z n f = grind arith

  claimed_stays : (z : ℕ) → Claimed c z → Claimed (scan c x) z
  claimed_stays z k = let n : (z ≡ x → ⊥) = others z k.0 in (fresh_kept z k.0, grind arith)

  claimed_back : (z : ℕ) → (z ≡ x → ⊥) → Claimed (scan c x) z → Claimed c z
  claimed_back z n k = (fresh_back z n k.0, grind arith)

  sources_of : (n : ℕ) → (first_father n ≡ none → ⊥) → 0 < n
  sources_of zero h = absurd (h refl)
  sources_of (suc n) h = omega arith

  father_above : (n : ℕ) → 0 < n → first_father n ≡ source
  father_above zero h = absurd (omega arith)
  father_above (suc n) h = refl

  x_claimed : (z : ℕ) → z ≡ x → Claimed (scan c x) z → 0 < c.sources x
  x_claimed z p k = sources_of (c.sources x) (grind arith)

  -- a cell that is no more fresh than it was has not been scanned
  apart : (z : ℕ) → (Fresh (scan c x) z → ⊥) → (z ≡ x → ⊥)
  apart z n p = n (grind arith)

  not_fresh_back : (z : ℕ) → (Fresh (scan c x) z → ⊥) → Fresh c z → ⊥
  not_fresh_back z n f = n (fresh_kept z f)

  grey_x : S c x → Is (scan c x) grey x
  grey_x s = grind (arith, g.white_s, g.grey_fresh)

  traced_x : (z : ℕ) → Child c x z → Traced (scan c x) x z
  traced_x z t = record { at = t.at; low = t.low; high = grind arith; here = t.here }

  traced_kept : (v z : ℕ) → (v ≡ x → ⊥) → Traced c v z → Traced (scan c x) v z
  traced_kept v z n t = record { at = t.at; low = t.low; high = grind arith; here = t.here }

  traced_back : (v z : ℕ) → (v ≡ x → ⊥) → Traced (scan c x) v z → Traced c v z
  traced_back v z n t = record { at = t.at; low = t.low; high = grind arith; here = t.here }

  traced_of_x : (z : ℕ) → Traced (scan c x) x z → Child c x z
  traced_of_x z t = record { at = t.at; low = t.low; high = grind arith; here = t.here }

  darkened : (k : Colour) → darken k ≡ black → ⊥
  darkened white e = grind arith
  darkened black e = grind arith
  darkened grey e = grind arith

  not_black : (v : ℕ) → v ≡ x → Is (scan c x) black v → ⊥
  not_black v p b = darkened (c.colour x) (grind arith)

  not_under : (n w : ℕ) → first_father n ≡ under w → ⊥
  not_under zero w e = grind arith
  not_under (suc n) w e = grind arith

  kept : {z : ℕ} → S c z → S (scan c x) z
  kept (s_source {x = v} n h) = elim (same? v x) [
    | inl p ↦ s_claimed (grind arith, grind (arith, father_above))
    | inr m ↦ s_source (λ f. n (fresh_back v m f)) h
  ]
  kept (s_claimed {x = v} k) = s_claimed (claimed_stays v k)
  kept (s_black {x = v} f b) = s_black (fresh_kept v f) (let m : (v ≡ x → ⊥) = others v f in grind arith)
  kept (s_old {x = v} {z} s n h) = go (same? v x) s (kept s)
    where
      go : (v ≡ x) ⊎ (v ≡ x → ⊥) → S c v → S (scan c x) v → S (scan c x) z
      go (inl p) s k = s_grey (subst (S (scan c x)) p k) (grind arith) (grey_x (subst (S c) p s)) (traced_x z (subst (λ (u : ℕ). Child c u z) p h))
      go (inr m) s k = s_old k (λ f. n (fresh_back v m f)) h
  kept (s_grey {x = v} {z} s f e t) =
      let m : (v ≡ x → ⊥) = others v f in s_grey (kept s) (fresh_kept v f) (grind arith) (traced_kept v z m t)

  old : {z : ℕ} → S (scan c x) z → S c z
  old (s_source {x = v} n h) = s_source (not_fresh_back v n) h
  old (s_claimed {x = v} k) = elim (same? v x) [ inl p ↦ g.source_s v (let h = x_claimed v p k in grind arith) | inr m ↦ s_claimed (claimed_back v m k) ]
  old (s_black {x = v} f b) = elim (same? v x) [ inl p ↦ absurd (not_black v p b) | inr m ↦ s_black (fresh_back v m f) (back c.colour x _ v m b) ]
  old (s_old {x = v} s n h) = s_old (old s) (not_fresh_back v n) h
  old (s_grey {x = v} {z} s f e t) = go (same? v x) (old s)
    where
      go : (v ≡ x) ⊎ (v ≡ x → ⊥) → S c v → S c z
      go (inl p) k = g.child_s x z (subst (S c) p k) (traced_of_x z (subst (λ (u : ℕ). Traced (scan c x) u z) p t))
      go (inr m) k = s_grey k (fresh_back v m f) (back c.colour x _ v m e) (traced_back v z m t)

  rooted_kept : {z : ℕ} → Rooted c z → Rooted (scan c x) z
  rooted_kept (r_source {x = v} f e) = let m : (v ≡ x → ⊥) = others v f in r_source (fresh_kept v f) (grind arith)
  rooted_kept (r_under {x = v} f e r) = let m : (v ≡ x → ⊥) = others v f in r_under (fresh_kept v f) (grind arith) (rooted_kept r)

  -- the father of a claimed cell is fresh
  father_fresh : {z w : ℕ} → c.father z ≡ under w → Rooted c z → Fresh c w
  father_fresh {z} {w} e (r_source f e2) = grind arith
  father_fresh {z} {w} e (r_under {w = w2} f e2 (r_source f2 e3)) = let p : w ≡ w2 = cc in grind arith
  father_fresh {z} {w} e (r_under {w = w2} f e2 (r_under f2 e3 r)) = let p : w ≡ w2 = cc in grind arith

  pub scan_global : Global In (scan c x)
  scan_global = record {
    rounds = λ z i. grind (arith, g.rounds z i);
    rounds_top = λ z. grind (arith, g.rounds_top z);
    inside = λ z n. g.inside z (grind arith);
    grey_fresh = λ z e. elim (same? z x) [ inl p ↦ grind arith | inr m ↦ fresh_kept z (g.grey_fresh z (back c.colour x _ z m e)) ];
    source_s = λ z h. kept (g.source_s z h);
    child_s = λ v z s h. kept (g.child_s v z (old s) h);
    white_s = λ z s e. g.white_s z (old s) (grind arith);
    first_grey = λ z e. elim (same? z x) [ inl p ↦ grind arith | inr m ↦ (let h = g.first_grey z (back c.colour x _ z m e) in grind arith) ];
    first_claimed = λ z k. elim (same? z x) [ inl p ↦ grind arith | inr m ↦ (let h = g.first_claimed z (claimed_back z m k) in grind arith) ];
    rooted = λ z k. elim (same? z x) [ inl p ↦ r_source k.0 (let h = father_above (c.sources x) (x_claimed z p k) in grind arith) | inr m ↦ rooted_kept (g.rooted z (claimed_back z m k)) ];
    father_traces = λ z w k e e2.
        let m : (z ≡ x → ⊥) = (λ p. not_under (c.sources x) w (grind arith)) in
        let e3 : c.father z ≡ under w = back c.father x _ z m e in
        let k2 : Claimed c z = claimed_back z m k in
        let n : (w ≡ x → ⊥) = others w (father_fresh e3 (g.rooted z k2)) in
        traced_kept w z n (g.father_traces z w k2 e3 (back c.colour x _ w n e2));
    black_done = λ w z e k t.
        let n : (w ≡ x → ⊥) = (λ p. not_black w p e) in
        elim (g.black_done w z (back c.colour x _ w n e) (claimed_back w n k) (traced_back w z n t)) [
          | inl a ↦ inl (claimed_stays z a)
          | inr d ↦ inr (fresh_kept z d.0, (let m : (z ≡ x → ⊥) = others z d.0 in upd_other c.colour x _ z m ∙ d.1))
        ];
    grey_father = λ y w k e r.
        let m : (y ≡ x → ⊥) = (λ p. not_under (c.sources x) w (grind arith)) in
        let e3 : c.father y ≡ under w = back c.father x _ y m r in
        let k2 : Claimed c y = claimed_back y m k in
        let n : (w ≡ x → ⊥) = others w (father_fresh e3 (g.rooted y k2)) in
        upd_other c.colour x _ w n ∙ g.grey_father y w k2 (back c.colour x _ y m e) e3;
  }

  pub scan_keeps : Keeps c (scan c x)
  scan_keeps = record {
    same_rnd = refl;
    fresh = fresh_kept;
    father = λ z f. let m : (z ≡ x → ⊥) = others z f in inl (grind arith);
    grey_old = λ z f e. let m : (z ≡ x → ⊥) = others z f in grind arith;
    black_kept = λ z f e. let m : (z ≡ x → ⊥) = others z f in grind arith;
    traced_same = λ v z a t. traced_kept v z (others v (g.grey_fresh v a)) t;
    traced_old = λ v z a t. traced_back v z (others v (g.grey_fresh v a)) t;
    s_was = λ z s. inl (old s);
  }
