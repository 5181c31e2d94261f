use Rattle.std.proofs.Common.{◌≡◌, ℕ, ◌⊎◌, sym, ◌∙◌, subst, inl, inr, arith}
use Rattle.rules.proofs.Heap.{upd}

pub upd_here : {A : Type 0} (f : ℕ → A) (k : ℕ) (v : A) → upd f k v k ≡ v
upd_here f k v = grind arith

pub upd_other : {A : Type 0} (f : ℕ → A) (k : ℕ) (v : A) (z : ℕ) → (z ≡ k → ⊥) → upd f k v z ≡ f z
upd_other f k v z h = grind arith

pub same? : (z k : ℕ) → (z ≡ k) ⊎ (z ≡ k → ⊥)
same? z k = grind arith

-- what stands at another number than the one set
pub back : {A : Type 0} (f : ℕ → A) (k : ℕ) (v : A) (z : ℕ) {a : A} → (z ≡ k → ⊥) → upd f k v z ≡ a → f z ≡ a
back f k v z n h = sym (upd_other f k v z n) ∙ h

-- what holds of the value set and of all that stood there
pub upd_all : {A : Type 0} (P : A → Type 0) (f : ℕ → A) (k : ℕ) (v : A) → P v → ((z : ℕ) → P (f z)) → (z : ℕ) → P (upd f k v z)
upd_all P f k v a h z = elim (same? z k) [
  | inl p ↦ (let e : v ≡ upd f k v z = grind arith in subst P e a)
  | inr n ↦ subst P (sym (upd_other f k v z n)) (h z)
]

pub upd_at : {A : Type 0} (f : ℕ → A) (k : ℕ) (v : A) (z : ℕ) → z ≡ k → upd f k v z ≡ v
upd_at f k v z p = grind arith
