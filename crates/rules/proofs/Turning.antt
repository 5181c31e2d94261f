use Rattle.std.proofs.Common.{ℕ, arith}
use Rattle.rules.proofs.Heap.{grey, Cells, Fresh, Is, S, s_source, s_claimed, s_black, s_old, s_grey}
use Rattle.rules.proofs.CellInvariant.{Global}
use Rattle.rules.proofs.HeapChanges.{turn}

module _ (In : ℕ → Type 0) (c : Cells) (g : Global In c) (all-fresh : (x : ℕ) → In x → Fresh c x) (none-grey : (x : ℕ) → Is c grey x → ⊥) where
  old : {z : ℕ} → S (turn c) z → S c z
  old (s_source {x} n h) = g.source_s x h
  old (s_claimed {x} k) = absurd (omega (arith, g.rounds_top x))
  old (s_black {x} f b) = absurd (omega (arith, g.rounds_top x))
  old (s_old {x} {z} s n h) = g.child_s x z (old s) h
  old (s_grey {x} s f e t) = absurd (none-grey x e)

  not_fresh : (x : ℕ) → Fresh (turn c) x → ⊥
  not_fresh x f = omega (arith, g.rounds_top x)

  pub turn_global : Global In (turn c)
  turn_global = record {
    rounds = λ x i. omega (arith, all-fresh x i);
    rounds_top = λ x. omega (arith, g.rounds_top x);
    inside = g.inside;
    grey_fresh = λ x e. absurd (none-grey x e);
    source_s = λ x h. s_source (not_fresh x) h;
    child_s = λ x z s h. s_old s (not_fresh x) h;
    white_s = λ x s e. g.white_s x (old s) e;
    first_grey = g.first_grey;
    first_claimed = λ x k. absurd (not_fresh x k.0);
    rooted = λ x k. absurd (not_fresh x k.0);
    father_traces = λ x w k e e2. absurd (not_fresh x k.0);
    black_done = λ w z e k t. absurd (not_fresh w k.0);
    grey_father = λ y w k e r. absurd (not_fresh y k.0);
  }
