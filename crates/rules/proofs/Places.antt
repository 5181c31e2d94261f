-- A write to the list of records, seen as functions.
use Rattle.std.proofs.Common.{◌≡◌, ℕ, zero, suc, ◌<◌, List, length, get_or, set, sym, ap, ◌∙◌, inl, inr, arith, get_or-set_other, get_or-set_same}
use Rattle.rules.proofs.Heap.{upd}
use Rattle.rules.proofs.From1.{from1}
use Rattle.rules.proofs.Basics.{upd_other, same?, upd_at}

pub from1_set : {A : Type 0} (xs : List A) (d : A) (k : ℕ) (v : A) → k < length xs → (z : ℕ) → from1 (set xs k v) d z ≡ upd (from1 xs d) (suc k) v z
from1_set xs d k v h zero = sym (upd_other (from1 xs d) (suc k) v 0 (λ p. omega arith))
from1_set xs d k v h (suc z) = elim (same? z k) [
  | inl p ↦ ap (λ (y : ℕ). get_or (set xs k v) y d) p ∙ (get_or-set_same xs k v d h ∙ sym (upd_at (from1 xs d) (suc k) v (suc z) (ap suc p)))
  | inr n ↦ get_or-set_other xs k z v d n ∙ sym (upd_other (from1 xs d) (suc k) v (suc z) (λ p. n (omega arith)))
]
