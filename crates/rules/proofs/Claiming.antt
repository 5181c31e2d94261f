use Rattle.std.proofs.Common.{◌≡◌, ℕ, sym, refl, subst, inl, inr, arith}
use Rattle.rules.proofs.Heap.{grey, none, Cells, Claimed, Is, Traced, S, s_source, s_claimed, s_black, s_old, s_grey, Rooted, r_source, r_under}
use Rattle.rules.proofs.CellInvariant.{Global, Keeps}
use Rattle.rules.proofs.HeapChanges.{claim}
use Rattle.rules.proofs.Basics.{same?}

module _ (In : ℕ → Type 0) (c : Cells) (w y : ℕ) (g : Global In c) (yGrey : Is c grey y) (yNone : c.father y ≡ none)
    (w_claimed : Claimed c w) (wGrey : Is c grey w) (wy : Traced c w y) where
  claimed_stays : (z : ℕ) → Claimed c z → Claimed (claim c w y) z
  claimed_stays z k = (k.0, grind arith)

  kept : {z : ℕ} → S c z → S (claim c w y) z
  kept (s_source n h) = s_source n h
  kept (s_claimed {x} k) = s_claimed (claimed_stays x k)
  kept (s_black f b) = s_black f b
  kept (s_old s n h) = s_old (kept s) n h
  kept (s_grey s f e t) = s_grey (kept s) f e t

  y_s : S c y
  y_s = s_grey (s_claimed w_claimed) w_claimed.0 wGrey wy

  old : {z : ℕ} → S (claim c w y) z → S c z
  old (s_source n h) = s_source n h
  old (s_claimed {x} k) = elim (same? x y) [ inl p ↦ subst (S c) (sym p) y_s | inr n ↦ s_claimed (k.0, grind arith) ]
  old (s_black f b) = s_black f b
  old (s_old s n h) = s_old (old s) n h
  old (s_grey s f e t) = s_grey (old s) f e t

  rooted_kept : {z : ℕ} → Rooted c z → Rooted (claim c w y) z
  rooted_kept (r_source f e) = r_source f (grind arith)
  rooted_kept (r_under f e r) = r_under f (grind arith) (rooted_kept r)

  pub claim_global : Global In (claim c w y)
  claim_global = record {
    rounds = g.rounds;
    rounds_top = g.rounds_top;
    inside = g.inside;
    grey_fresh = g.grey_fresh;
    source_s = λ z h. kept (g.source_s z h);
    child_s = λ v z s h. kept (g.child_s v z (old s) h);
    white_s = λ z s e. g.white_s z (old s) e;
    first_grey = g.first_grey;
    first_claimed = λ z k. elim (same? z y) [ inl p ↦ g.first_grey z (grind arith) | inr n ↦ g.first_claimed z (k.0, grind arith) ];
    rooted = λ z k. elim (same? z y) [ inl p ↦ r_under {w = w} k.0 (grind arith) (rooted_kept (g.rooted w w_claimed)) | inr n ↦ rooted_kept (g.rooted z (k.0, grind arith)) ];
    father_traces = λ z v k e e2. elim (same? z y) [ inl p ↦ grind arith | inr n ↦ g.father_traces z v (k.0, grind arith) (grind arith) e2 ];
    black_done = λ v z e k t. elim (same? v y) [ inl p ↦ grind arith | inr n ↦ elim (g.black_done v z e (k.0, grind arith) t) [ inl a ↦ inl (claimed_stays z a) | inr d ↦ inr d ] ];
    grey_father = λ z v k e r. elim (same? z y) [ inl p ↦ grind arith | inr n ↦ g.grey_father z v (k.0, grind arith) e (grind arith) ];
  }

  pub claim_keeps : Keeps c (claim c w y)
  claim_keeps = record {
    same_rnd = refl;
    fresh = λ z f. f;
    father = λ z f. elim (same? z y) [ inl p ↦ inr (grind arith, (w, grind arith)) | inr n ↦ inl (grind arith) ];
    grey_old = λ z f e. e;
    black_kept = λ z f e. e;
    traced_same = λ v z a t. t;
    traced_old = λ v z a t. t;
    s_was = λ z s. inl (old s);
  }
