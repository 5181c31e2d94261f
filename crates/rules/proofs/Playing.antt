-- A step with the lowest member taken, as a function; it is a step of the rules.
use Rattle.std.proofs.Common.{◌≡◌, ℕ, zero, suc, ◌+◌, ◌<◌, ◌≤◌, Bool, true, false, cond, eqb, Some, None, Ok, MatchBool, Option, refl, ap, ◌∙◌, subst, inl, inr, arith}
use Rattle.lists.specs.Sets.{Sets, Took, struck}
use Rattle.lists.specs.declared.waiting.Set.{Set}
use Rattle.lists.specs.declared.waiting.Set.TheVariants.{Check, Start, Follow}
use Rattle.rules.specs.declared.cell.Colour.TheVariants.{White}
use Rattle.rules.specs.declared.worker.Label.{Label}
use Rattle.rules.specs.declared.worker.Label.TheVariants.{Idle, L101, L108, L121, L122, L126, L150, L151, L157, L158, L163, L168, L175, L180, L129, L134, L135, L137}
use Rattle.rules.specs.declared.worker.Worker.{Worker}
use Rattle.rules.specs.Cells.{is_source, with_colour}
use Rattle.rules.specs.Workers.{label_number, at_label, holding_x, holding_w, at_copy, with_stack}
use Rattle.rules.specs.States.{State, cell, worker, with_cell, with_worker, with_sets, with_round, HasWorker, idle}
use Rattle.rules.specs.Rounds.{in_step, grey_and_fresh, goes, filled_with_all, drawn, next_of, Draws, To, scanning, following_alone, copying, copy_left, copy, looked, claims, claimed, stack_left, unstacked, painted, StepsAt, Steps}
use Rattle.rules.proofs.Shape.{SetsOk}
use Rattle.rules.proofs.Moves.{Range}
use Rattle.rules.proofs.Basics.{same?}

pub record Next : Type 0 where
  pub label : Label
  pub store : State

abbrev to : Label → State → Next
to l s = record { label = l; store = s }

-- the least of the n numbers after k that is in
abbrev lowest : (ℕ → Bool) → ℕ → ℕ → Option ℕ
lowest f k zero = None
lowest f k (suc n) = cond (f (suc k)) (Some (suc k)) (lowest f (suc k) n)

abbrev left : Sets → ℕ → Set → Option ℕ → Sets
left t p k None = t
left t p k (Some x) = struck t p k x

abbrev least : State → ℕ → Set → Option ℕ
least s p k = lowest (s.sets p k) 0 s.ncells

abbrev draws : Set → (Worker → ℕ → Worker) → Label → Label → State → ℕ → Next
draws k hold l other s p =
    cond (in_step s p)
    (to (next_of (least s p k) l other) (with_sets (drawn hold s p (least s p k) l other) (left s.sets p k (least s p k))))
    (to other (goes s p other))

abbrev next_at : Label → State → ℕ → Next
next_at Idle s p = to Idle s
next_at L101 s p = draws Check holding_x L108 L121 s p
next_at L108 s p = to L101 (goes (scanning s p (worker s p).x) p L101)
next_at L121 s p = to L122 (goes (with_sets s (filled_with_all s p Start (filled_with_all s p Check s.sets))) p L122)
next_at L122 s p = draws Start holding_x L126 L129 s p
next_at L126 s p = to (cond (is_source (cell s (worker s p).x).father) L150 L122) (goes s p (cond (is_source (cell s (worker s p).x).father) L150 L122))
next_at L150 s p = to L151 (with_worker (with_sets s (following_alone s p (worker s p).x)) p (at_label (with_stack (worker s p) 0 (worker s p).stack) L151))
next_at L151 s p = draws Follow holding_w L157 L168 s p
next_at L157 s p = cond (grey_and_fresh s p (worker s p).w) (to L158 (with_worker s p (at_label (copying s (worker s p)) L158))) (to L151 (goes s p L151))
next_at L158 s p =
    cond (copy_left s p)
    (to (cond (s.sets p Check (copy (worker s p))) L163 L158) (looked s p (s.sets p Check (copy (worker s p)))))
    (to L151 (goes s p L151))
next_at L163 s p = to L158 (with_worker (cond (claims s p) (claimed s p (worker s p).y) s) p (at_label (at_copy (worker s p) ((worker s p).j + 1)) L158))
next_at L168 s p = cond (stack_left s p) (to L175 (with_worker s p (at_label (unstacked (worker s p)) L175))) (to L180 (goes s p L180))
next_at L175 s p = to L168 (goes (cond (grey_and_fresh s p (worker s p).y) (with_cell s (worker s p).y (painted (cell s (worker s p).y))) s) p L168)
next_at L180 s p = to L122 (goes s p L122)
next_at L129 s p = draws Check holding_x L134 L135 s p
next_at L134 s p = to L129 (goes (cond (grey_and_fresh s p (worker s p).x) (with_cell s (worker s p).x (with_colour (cell s (worker s p).x) White)) s) p L129)
next_at L135 s p = to L137 (goes (cond (in_step s p) (with_round s (s.round + 1)) s) p L137)
next_at L137 s p = to Idle (goes s p Idle)

abbrev pub next : State → ℕ → Next
next s p = next_at (worker s p).label s p

-- a choice, seen from both sides
chosen : (b : Bool) (P Q : Next → Type 0) (x y : Next) → (b ≡ true → P x) → (b ≡ false → Q y) → MatchBool b (P (cond b x y)) (Q (cond b x y))
chosen true P Q x y f g = f refl
chosen false P Q x y f g = g refl

lowest_took : (f : ℕ → Bool) (k n x : ℕ) → lowest f k n ≡ Some x → f x ≡ true
lowest_took f k zero x e = absurd (let z : ◌≡◌ {A = ℕ} 0 1 = cc in omega arith)
lowest_took f k (suc n) x e = at_first (f (suc k)) refl e (λ q. lowest_took f (suc k) n x q)
  where
    at_first : (b : Bool) → f (suc k) ≡ b → cond b (Some (suc k)) (lowest f (suc k) n) ≡ Some x → (lowest f (suc k) n ≡ Some x → f x ≡ true) → f x ≡ true
    at_first true h q r = subst (λ (z : ℕ). f z ≡ true) (let w : suc k ≡ x = cc in w) h
    at_first false h q r = r q

lowest_none : (f : ℕ → Bool) (k n x : ℕ) → lowest f k n ≡ None → k < x → x ≤ k + n → f x ≡ false
lowest_none f k zero x e l h = absurd (omega arith)
lowest_none f k (suc n) x e l h = at_first (f (suc k)) refl e (λ q l2 h2. lowest_none f (suc k) n x q l2 h2)
  where
    at_first : (b : Bool) → f (suc k) ≡ b → cond b (Some (suc k)) (lowest f (suc k) n) ≡ None → (lowest f (suc k) n ≡ None → suc k < x → x ≤ suc k + n → f x ≡ false) → f x ≡ false
    at_first true g q r = absurd (let z : ◌≡◌ {A = ℕ} 0 1 = cc in omega arith)
    at_first false g q r = elim (same? x (suc k)) [ inl p ↦ ap f p ∙ g | inr d ↦ r q (omega arith) (omega arith) ]

outside : (f : ℕ → Bool) (n : ℕ) → ((x : ℕ) → f x ≡ true → Range n x) → ((x : ℕ) → 0 < x → x ≤ 0 + n → f x ≡ false) → (x : ℕ) → f x ≡ false
outside f n h g x = at (f x) refl
  where
    at : (b : Bool) → f x ≡ b → f x ≡ false
    at true e = let r = h x e in let r0 = r.0 in let r1 = r.1 in g x (omega arith) (omega arith)
    at false e = e

module _ (s : State) (k : SetsOk s.ncells s.sets) (p : ℕ) where
  took : (c : Set) (o : Option ℕ) → least s p c ≡ o → Took s.sets p c o (left s.sets p c o)
  took c None e = (outside (s.sets p c) s.ncells (k p c) (λ x l h. lowest_none (s.sets p c) 0 s.ncells x e l h), refl)
  took c (Some x) e = (lowest_took (s.sets p c) 0 s.ncells x e, refl)

  sets_of : (hold : Worker → ℕ → Worker) (c : Set) (l other : Label) (o : Option ℕ) → (with_sets (drawn hold s p o l other) (left s.sets p c o)).sets ≡ left s.sets p c o
  sets_of hold c l other o = refl

  draws_is : (c : Set) (hold : Worker → ℕ → Worker) (l other : Label) → Draws c hold l other s p (draws c hold l other s p).label (draws c hold l other s p).store
  draws_is c hold l other =
      chosen (in_step s p)
      (λ r. (o : Option ℕ) × (Took s.sets p c o r.store.sets × (r.store ≡ with_sets (drawn hold s p o l other) r.store.sets) × (r.label ≡ next_of o l other)))
      (λ r. To s p other r.label r.store)
      (to (next_of (least s p c) l other) (with_sets (drawn hold s p (least s p c) l other) (left s.sets p c (least s p c)))) (to other (goes s p other))
      (λ e. (least s p c, (took c (least s p c) refl, refl, refl))) (λ e. (refl, refl))

  next_is : (l : Label) → (l ≡ Idle → ⊥) → StepsAt l s p (next_at l s p).label (next_at l s p).store
  next_is Idle n = n refl
  next_is L101 n = draws_is Check holding_x L108 L121
  next_is L108 n = (refl, refl)
  next_is L121 n = (refl, refl)
  next_is L122 n = draws_is Start holding_x L126 L129
  next_is L126 n = (refl, refl)
  next_is L150 n = (refl, refl)
  next_is L151 n = draws_is Follow holding_w L157 L168
  next_is L157 n = chosen (grey_and_fresh s p (worker s p).w) (λ r. (r.store ≡ with_worker s p (at_label (copying s (worker s p)) L158)) × (r.label ≡ L158)) (λ r. To s p L151 r.label r.store) _ _ (λ e. (refl, refl)) (λ e. (refl, refl))
  next_is L158 n = chosen (copy_left s p) (λ r. (r.store ≡ looked s p (s.sets p Check (copy (worker s p)))) × (r.label ≡ cond (s.sets p Check (copy (worker s p))) L163 L158)) (λ r. To s p L151 r.label r.store) _ _ (λ e. (refl, refl)) (λ e. (refl, refl))
  next_is L163 n = (refl, refl)
  next_is L168 n = chosen (stack_left s p) (λ r. (r.store ≡ with_worker s p (at_label (unstacked (worker s p)) L175)) × (r.label ≡ L175)) (λ r. To s p L180 r.label r.store) _ _ (λ e. (refl, refl)) (λ e. (refl, refl))
  next_is L175 n = (refl, refl)
  next_is L180 n = (refl, refl)
  next_is L129 n = draws_is Check holding_x L134 L135
  next_is L134 n = (refl, refl)
  next_is L135 n = (refl, refl)
  next_is L137 n = (refl, refl)

busy_label : (l : Label) → eqb (label_number l) 0 ≡ false → l ≡ Idle → ⊥
busy_label l e q = let z = ap (λ (k : Label). eqb (label_number k) 0) q in grind arith

pub steps_next : (s : State) → SetsOk s.ncells s.sets → (p : ℕ) → HasWorker s p → idle s p ≡ false → Steps s p (Ok (next s p).label) (next s p).store
steps_next s k p i e = ((i, (e, tt)), next_is s k p (worker s p).label (busy_label (worker s p).label e))
