-- The sizes of the tables, which a model does not say by itself.
use Rattle.std.proofs.Common.{◌≡◌, ℕ, ◌<◌, ◌≤◌, Bool, true, false, cond, not, ◌&&◌, ◌||◌, eqb, ◌⊎◌, List, length, get_or, set, sym, refl, ap, ◌∙◌, subst, inl, inr, arith, length-set, get_or-set_other, get_or-set_same}
use mathlib.Core.Path.{fun_ext}
use Rattle.std.proofs.lemmas.Bool.Decides.{nat_tests}
use Rattle.lists.specs.Sets.{Sets, with_set, filled, struck, cleared, added, takes}
use Rattle.lists.specs.Sets.{in_range}
use Rattle.lists.specs.Sets.{set_no}
use Rattle.lists.specs.declared.waiting.Set.{Set}
use Rattle.rules.specs.declared.cell.Cell.{Cell}
use Rattle.rules.specs.declared.worker.Worker.{Worker}
use Rattle.rules.specs.declared.worker.Label.{Label}
use Rattle.rules.specs.declared.worker.Label.TheVariants.{Idle, L101, L108, L121, L122, L126, L150, L151, L157, L158, L163, L168, L175, L180, L129, L134, L135, L137}
use Rattle.rules.specs.Cells.{no_cell}
use Rattle.rules.specs.Workers.{no_worker}
use Rattle.rules.specs.States.{State}
use Rattle.rules.proofs.Heap.{upd}
use Rattle.rules.proofs.Moves.{Range}
use Rattle.rules.proofs.Basics.{same?}

abbrev pub Each : {A : Type 0} → (A → Type 0) → A → ℕ → List A → Type 0
Each P d n xs = (length xs ≡ n) × ((k : ℕ) → k < n → P (get_or xs k d))

pub each_set : {A : Type 0} (P : A → Type 0) (d : A) (n : ℕ) (xs : List A) (k : ℕ) (v : A) → P v → Each P d n xs → Each P d n (set xs k v)
each_set P d n xs k v a e = (
  length-set xs k v ∙ e.0,
  λ z h. elim (same? z k) [
    | inl p ↦ (let l = e.0 in subst P (sym (ap (λ (y : ℕ). get_or (set xs k v) y d) p ∙ get_or-set_same xs k v d (omega arith))) a)
    | inr q ↦ subst P (sym (get_or-set_other xs k z v d q)) (e.1 z h)
  ],
)

abbrev pub CellOk : Cell → Type 0
CellOk c = (length c.places ≡ 8) × (c.sources ≤ 65535) × (c.arity ≤ 8) × (c.first ≤ 8) × (c.round ≤ 4294967294)

-- at 108 the held cell is one of the store
abbrev pub Held : ℕ → ℕ → Label → Type 0
Held n x Idle = Unit {0}
Held n x L101 = Unit {0}
Held n x L108 = Range n x
Held n x L121 = Unit {0}
Held n x L122 = Unit {0}
Held n x L126 = Range n x
Held n x L150 = Range n x
Held n x L151 = Unit {0}
Held n x L157 = Unit {0}
Held n x L158 = Unit {0}
Held n x L163 = Unit {0}
Held n x L168 = Unit {0}
Held n x L175 = Unit {0}
Held n x L180 = Unit {0}
Held n x L129 = Unit {0}
Held n x L134 = Unit {0}
Held n x L135 = Unit {0}
Held n x L137 = Unit {0}

abbrev pub WorkerOk : ℕ → Worker → Type 0
WorkerOk n w = (length w.roots ≡ 256) × Held n w.x w.label × (length w.stack ≡ 256) × (length w.boxes ≡ 9) × (w.depth ≤ n) × (w.own < 4294967294)

abbrev pub SetsOk : ℕ → Sets → Type 0
SetsOk n s = (p : ℕ) (k : Set) (c : ℕ) → s p k c ≡ true → Range n c

pub record Shape (m : State) : Type 0 where
  pub some : 1 ≤ m.ncells
  pub few : m.ncells ≤ 255
  pub carried : m.ncells ≤ m.top
  pub crew : m.nworkers ≤ 8
  pub rounds : m.round ≤ 4294967294
  pub cells : Each CellOk no_cell 256 m.cells
  pub workers : Each (WorkerOk m.ncells) no_worker 9 m.workers
  pub sets : SetsOk m.ncells m.sets

-- sets
eqb_same : (p : ℕ) → eqb p p ≡ true
eqb_same p = grind arith

eqb_off : (q p : ℕ) → (q ≡ p → ⊥) → eqb q p ≡ false
eqb_off q p n = grind arith

pub off_set : (s : Sets) (p : ℕ) (k : Set) (f : ℕ → Bool) (q : ℕ) → (q ≡ p → ⊥) → ◌≡◌ {A = Set → ℕ → Bool} (with_set s p k f q) (s q)
off_set s p k f q n = fun_ext (λ k'. fun_ext (λ c. ap (λ (b : Bool). cond (b && eqb (set_no k') (set_no k)) (f c) (s q k' c)) (eqb_off q p n)))

pub at_set : (s : Sets) (p : ℕ) (k : Set) (f : ℕ → Bool) → ◌≡◌ {A = Set → ℕ → Bool} (with_set s p k f p) (λ k' c. cond (eqb (set_no k') (set_no k)) (f c) (s p k' c))
at_set s p k f = fun_ext (λ k'. fun_ext (λ c. ap (λ (b : Bool). cond (b && eqb (set_no k') (set_no k)) (f c) (s p k' c)) (eqb_same p)))

nand : (b a : Bool) → (not b && a) ≡ cond b false a
nand true a = refl
nand false a = refl

pub struck_is : (s : ℕ → Bool) (x : ℕ) → ◌≡◌ {A = ℕ → Bool} (λ c. not (eqb c x) && s c) (upd s x false)
struck_is s x = fun_ext (λ c. nand (eqb c x) (s c))

either_true : (b a d : Bool) → cond b a d ≡ true → (a ≡ true) ⊎ (d ≡ true)
either_true true a d e = inl e
either_true false a d e = inr e

and_right : (a b : Bool) → (a && b) ≡ true → b ≡ true
and_right true b e = e
and_right false b e = absurd (let z : ◌≡◌ {A = Bool} false true = e in grind arith)

pub line_in_range : (c n : ℕ) → in_range c n ≡ true → Range n c
line_in_range c n e = (grind (arith, nat_tests), grind (arith, nat_tests))

pub range_in : (c n : ℕ) → Range n c → in_range c n ≡ true
range_in c n r = let a = r.0 in let b = r.1 in grind (arith, nat_tests)

pub filled_ok : (n : ℕ) (s : Sets) (p : ℕ) (k : Set) → SetsOk n s → SetsOk n (filled s p k n)
filled_ok n s p k h q k' c e = elim (either_true _ (in_range c n) (s q k' c) e) [ inl a ↦ line_in_range c n a | inr a ↦ h q k' c a ]

pub struck_ok : (n : ℕ) (s : Sets) (p : ℕ) (k : Set) (x : ℕ) → SetsOk n s → SetsOk n (struck s p k x)
struck_ok n s p k x h q k' c e = elim (either_true _ (not (eqb c x) && s p k c) (s q k' c) e) [ inl a ↦ h p k c (and_right (not (eqb c x)) (s p k c) a) | inr a ↦ h q k' c a ]

pub all_taken : (top p n : ℕ) → Range 8 p → Range top n → takes top p n ≡ true
all_taken top p n a b = let a0 = a.0 in let a1 = a.1 in let b0 = b.0 in let b1 = b.1 in grind (arith, nat_tests)

or_either : (a b : Bool) → (a || b) ≡ true → (a ≡ true) ⊎ (b ≡ true)
or_either true b e = inl refl
or_either false b e = inr e

pub put_ok : (n : ℕ) (s : Sets) (p : ℕ) (k : Set) (x : ℕ) → Range n x → SetsOk n s → SetsOk n (added s p k x)
put_ok n s p k x r h q k' c e = elim (either_true _ (eqb c x || s p k c) (s q k' c) e)
    [ inl a ↦ elim (or_either (eqb c x) (s p k c) a) [ inl b ↦ (let f : x ≡ c = grind arith in subst (Range n) f r) | inr b ↦ h p k c b ] | inr a ↦ h q k' c a ]

pub cleared_ok : (n : ℕ) (s : Sets) (p : ℕ) (k : Set) → SetsOk n s → SetsOk n (cleared s p k)
cleared_ok n s p k h q k' c e = elim (either_true _ false (s q k' c) e) [ inl a ↦ absurd (grind arith) | inr a ↦ h q k' c a ]

or_is : (b a : Bool) → (b || a) ≡ cond b true a
or_is true a = refl
or_is false a = refl

pub put_is : (s : ℕ → Bool) (x : ℕ) → ◌≡◌ {A = ℕ → Bool} (λ c. eqb c x || s c) (upd s x true)
put_is s x = fun_ext (λ c. or_is (eqb c x) (s c))
