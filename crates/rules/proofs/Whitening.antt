use Rattle.std.proofs.Common.{ℕ, refl, inl, inr, arith}
use Rattle.rules.proofs.Heap.{grey, Cells, Is, S, s_source, s_claimed, s_black, s_old, s_grey, Rooted, r_source, r_under}
use Rattle.rules.proofs.CellInvariant.{Global, Keeps}
use Rattle.rules.proofs.HeapChanges.{whiten}
use Rattle.rules.proofs.Basics.{same?}

module _ (In : ℕ → Type 0) (c : Cells) (x : ℕ) (g : Global In c) (xGrey : Is c grey x) (none-grey : (z : ℕ) → S c z → Is c grey z → ⊥) where
  kept : {z : ℕ} → S c z → S (whiten c x) z
  kept (s_source n h) = s_source n h
  kept (s_claimed k) = s_claimed k
  kept (s_black f b) = s_black f (grind arith)
  kept (s_old s n h) = s_old (kept s) n h
  kept (s_grey {x = v} s f e t) = absurd (none-grey v s e)

  old : {z : ℕ} → S (whiten c x) z → S c z
  old (s_source n h) = s_source n h
  old (s_claimed k) = s_claimed k
  old (s_black f b) = s_black f (grind arith)
  old (s_old s n h) = s_old (old s) n h
  old (s_grey s f e t) = s_grey (old s) f (grind arith) t

  rooted_kept : {z : ℕ} → Rooted c z → Rooted (whiten c x) z
  rooted_kept (r_source f e) = r_source f e
  rooted_kept (r_under f e r) = r_under f e (rooted_kept r)

  pub whiten_global : Global In (whiten c x)
  whiten_global = record {
    rounds = g.rounds;
    rounds_top = g.rounds_top;
    inside = λ z n. g.inside z (grind arith);
    grey_fresh = λ z e. g.grey_fresh z (grind arith);
    source_s = λ z h. kept (g.source_s z h);
    child_s = λ v z s h. kept (g.child_s v z (old s) h);
    white_s = λ z s e. elim (same? z x) [ inl p ↦ none-grey z (old s) (grind arith) | inr n ↦ g.white_s z (old s) (grind arith) ];
    first_grey = λ z e. g.first_grey z (grind arith);
    first_claimed = g.first_claimed;
    rooted = λ z k. rooted_kept (g.rooted z k);
    father_traces = λ z w k e e2. g.father_traces z w k e (grind arith);
    black_done = λ w z e k t. elim (g.black_done w z (grind arith) k t) [ inl a ↦ inl a | inr d ↦ inr (d.0, grind arith) ];
    grey_father = λ v w k e r. absurd (none-grey v (s_claimed k) (grind arith));
  }

  pub whiten_keeps : Keeps c (whiten c x)
  whiten_keeps = record {
    same_rnd = refl;
    fresh = λ z f. f;
    father = λ z f. inl refl;
    grey_old = λ z f e. grind arith;
    black_kept = λ z f e. grind arith;
    traced_same = λ v z a t. t;
    traced_old = λ v z a t. t;
    s_was = λ z s. inl (old s);
  }
