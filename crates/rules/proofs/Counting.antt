use Rattle.std.proofs.Common.{ℕ, ◌<◌, ◌≤◌, refl, inl, arith}
use Rattle.rules.proofs.Heap.{Cells, S, s_source, s_claimed, s_black, s_old, s_grey, Rooted, r_source, r_under}
use Rattle.rules.proofs.CellInvariant.{Global, Keeps}
use Rattle.rules.proofs.HeapChanges.{counts}

module _ (In : ℕ → Type 0) (c : Cells) (s o : ℕ → ℕ) (g : Global In c) (up : (z : ℕ) → c.sources z ≤ s z) (new : (z : ℕ) → 0 < s z → S c z) where
  kept : {z : ℕ} → S c z → S (counts c s o) z
  kept (s_source {x} n h) = s_source n (omega (arith, up x))
  kept (s_claimed k) = s_claimed k
  kept (s_black f b) = s_black f b
  kept (s_old r n h) = s_old (kept r) n h
  kept (s_grey r f e t) = s_grey (kept r) f e t

  old : {z : ℕ} → S (counts c s o) z → S c z
  old (s_source {x} n h) = new x h
  old (s_claimed k) = s_claimed k
  old (s_black f b) = s_black f b
  old (s_old r n h) = s_old (old r) n h
  old (s_grey r f e t) = s_grey (old r) f e t

  rooted_kept : {z : ℕ} → Rooted c z → Rooted (counts c s o) z
  rooted_kept (r_source f e) = r_source f e
  rooted_kept (r_under f e r) = r_under f e (rooted_kept r)

  pub counts_global : Global In (counts c s o)
  counts_global = record {
    rounds = g.rounds;
    rounds_top = g.rounds_top;
    inside = g.inside;
    grey_fresh = g.grey_fresh;
    source_s = λ z h. kept (new z h);
    child_s = λ v z r h. kept (g.child_s v z (old r) h);
    white_s = λ z r e. g.white_s z (old r) e;
    first_grey = g.first_grey;
    first_claimed = g.first_claimed;
    rooted = λ z k. rooted_kept (g.rooted z k);
    father_traces = g.father_traces;
    black_done = g.black_done;
    grey_father = g.grey_father;
  }

  pub counts_keeps : Keeps c (counts c s o)
  counts_keeps = record {
    same_rnd = refl;
    fresh = λ z f. f;
    father = λ z f. inl refl;
    grey_old = λ z f e. e;
    black_kept = λ z f e. e;
    traced_same = λ v z a t. t;
    traced_old = λ v z a t. t;
    s_was = λ z r. inl (old r);
  }
