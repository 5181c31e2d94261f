-- No cell stands twice in a worker's stack, so the stack fits a table of the cells. Of the worker alone, in step or not.
use Rattle.std.proofs.Common.{◌≡◌, ℕ, zero, suc, ◌<◌, ◌≤◌, Bool, true, false, List, [], ◌∷◌, length, sym, refl, ap, ◌∙◌, subst, inl, inr, arith}
use Rattle.rules.proofs.Heap.{upd, Cells}
use Rattle.rules.proofs.CellInvariant.{Global}
use Rattle.rules.proofs.WalkerInvariant.{Mem}
use Rattle.rules.proofs.Walkers.{Label, idle, l101, l108, l121, l122, l126, l150, l151, l157, l158, l163, l168, l175, l180, l129, l134, l135, l137, Worker, no_cells}
use Rattle.rules.proofs.WalkerSteps.{Step, GreyFresh, a101_take, a101_none, a108_scan, a108_skip, a121, a122_take, a122_none, a126_yes, a126_no, a150, a151_take, a151_none, a157_go, a157_no, a158_in, a158_out, a158_end, a163_claim, a163_no, a168_pop, a168_none, a175_paint, a175_no, a180, a129_take, a129_none, a134_white, a134_no, a135_turn, a135_no, a137}
use Rattle.rules.proofs.Moves.{View, Range, Move, step, begin, make, append_child, protect, un_protect, send, receive, receive_again}
use Rattle.rules.proofs.Invariant.{Inv, bit, sum}
use Rattle.rules.proofs.Basics.{upd_here, upd_other, upd_at, same?, back, upd_all}
use Rattle.rules.proofs.Sums.{sum_change}

abbrev pub Once : List ℕ → Type 0
Once [] = Unit {0}
Once (v ∷ vs) = (Mem v vs → ⊥) × Once vs

pub record Apart (In : ℕ → Type 0) (check follow : ℕ → Bool) (stack : List ℕ) : Type 0 where
  pub follow_out : (z : ℕ) → follow z ≡ true → check z ≡ false
  pub stack_out : (z : ℕ) → Mem z stack → check z ≡ false
  pub disjoint : (z : ℕ) → follow z ≡ true → Mem z stack → ⊥
  pub once : Once stack
  pub stack_in : (z : ℕ) → Mem z stack → In z

abbrev pub ApartAt : (ℕ → Type 0) → Worker → Label → Type 0
ApartAt In w idle = Unit {0}
ApartAt In w l101 = Unit {0}
ApartAt In w (l108 x) = Unit {0}
ApartAt In w l121 = Unit {0}
ApartAt In w l122 = Unit {0}
ApartAt In w (l126 x) = Unit {0}
ApartAt In w (l150 x) = Unit {0}
ApartAt In w (l151 x) = Apart In w.check w.follow w.stack
ApartAt In w (l157 x v) = Apart In w.check w.follow w.stack × (w.check v ≡ false) × (w.follow v ≡ false) × (Mem v w.stack → ⊥)
ApartAt In w (l158 x v rest) = Apart In w.check w.follow w.stack
ApartAt In w (l163 x v y rest) = Apart In w.check w.follow w.stack × (w.check y ≡ true)
ApartAt In w (l168 x) = Apart In w.check w.follow w.stack
ApartAt In w (l175 x y) = Apart In w.check w.follow w.stack
ApartAt In w l180 = Unit {0}
ApartAt In w l129 = Unit {0}
ApartAt In w (l134 x) = Unit {0}
ApartAt In w l135 = Unit {0}
ApartAt In w l137 = Unit {0}

taken_apart : (In : ℕ → Type 0) (check follow : ℕ → Bool) (stack : List ℕ) (v : ℕ) → Apart In check follow stack → Apart In check (upd follow v false) stack
taken_apart In check follow stack v a = record
    { follow_out = λ z f. a.follow_out z (grind arith); stack_out = a.stack_out; disjoint = λ z f m. a.disjoint z (grind arith) m; once = a.once; stack_in = a.stack_in }

push_apart : (In : ℕ → Type 0) (check follow : ℕ → Bool) (stack : List ℕ) (v : ℕ) → Apart In check follow stack → check v ≡ false → follow v ≡ false → (Mem v stack → ⊥) → In v → Apart In check follow (v ∷ stack)
push_apart In check follow stack v a c f n i = record {
  follow_out = a.follow_out;
  stack_out = λ z m. elim m [ inl p ↦ ap check p ∙ c | inr k ↦ a.stack_out z k ];
  disjoint = λ z g m. elim m [ inl p ↦ (let q = sym (ap follow p) ∙ g in grind arith) | inr k ↦ a.disjoint z g k ];
  once = (n, a.once);
  stack_in = λ z m. elim m [ inl p ↦ subst In (sym p) i | inr k ↦ a.stack_in z k ];
}

claim_apart : (In : ℕ → Type 0) (check follow : ℕ → Bool) (stack : List ℕ) (y : ℕ) → Apart In check follow stack → check y ≡ true → Apart In (upd check y false) (upd follow y true) stack
claim_apart In check follow stack y a c = record {
  follow_out = λ z f. elim (same? z y) [ inl p ↦ upd_at check y false z p | inr n ↦ upd_other check y false z n ∙ a.follow_out z (back follow y true z n f) ];
  stack_out = λ z m. elim (same? z y) [ inl p ↦ upd_at check y false z p | inr n ↦ upd_other check y false z n ∙ a.stack_out z m ];
  disjoint = λ z f m. elim (same? z y) [ inl p ↦ (let q = a.stack_out z m in let r = ap check p ∙ c in grind arith) | inr n ↦ a.disjoint z (back follow y true z n f) m ];
  once = a.once;
  stack_in = a.stack_in;
}

pop_apart : (In : ℕ → Type 0) (check follow : ℕ → Bool) (y : ℕ) (below : List ℕ) → Apart In check follow (y ∷ below) → Apart In check follow below
pop_apart In check follow y below a = record
    { follow_out = a.follow_out; stack_out = λ z m. a.stack_out z (inr m); disjoint = λ z f m. a.disjoint z f (inr m); once = a.once.1; stack_in = λ z m. a.stack_in z (inr m) }

first_apart : (In : ℕ → Type 0) (check : ℕ → Bool) (x : ℕ) → Apart In (upd check x false) (upd no_cells x true) []
first_apart In check x = record
    { follow_out = λ z f. grind arith; stack_out = λ z m. absurd m; disjoint = λ z f m. m; once = tt; stack_in = λ z m. absurd m }

pub apart_step : (In : ℕ → Type 0) {c : Cells} {w : Worker} {d : Cells} {u : Worker} → Global In c → Step In c w d u → ApartAt In w w.label → ApartAt In u u.label
apart_step In g (a101_take e p i m) h = tt
apart_step In g (a101_none e n) h = tt
apart_step In g (a108_scan e i r) h = tt
apart_step In g (a108_skip e i n) h = tt
apart_step In g (a121 all k e) h = tt
apart_step In g (a122_take e p i m) h = tt
apart_step In g (a122_none e n) h = tt
apart_step In g (a126_yes e f) h = tt
apart_step In g (a126_no e n) h = tt
apart_step In {w} g (a150 {x} e) h = first_apart In w.check x
apart_step In {w} g (a151_take {x} {v} e p m) h = let a = subst (ApartAt In w) e h in
    (taken_apart In w.check w.follow w.stack v a, a.follow_out v m, upd_here w.follow v false, a.disjoint v m)
apart_step In {w} g (a151_none e n) h = subst (ApartAt In w) e h
apart_step In {c} {w} g (a157_go {x} {v} e k) h = let a = subst (ApartAt In w) e h in
    push_apart In w.check w.follow w.stack v a.0 a.1 a.2 a.3 (g.inside v (λ q. let r = k.0 in grind arith))
apart_step In {w} g (a157_no {x} {v} e n) h = let a : ApartAt In w (l157 x v) = subst (ApartAt In w) e h in a.0
apart_step In {w} g (a158_in e p m) h = (subst (ApartAt In w) e h, m)
apart_step In {w} g (a158_out e p m) h = subst (ApartAt In w) e h
apart_step In {w} g (a158_end e n) h = subst (ApartAt In w) e h
apart_step In {w} g (a163_claim {x} {v} {y} {rest} e k m) h = let a : ApartAt In w (l163 x v y rest) = subst (ApartAt In w) e h in claim_apart In w.check w.follow w.stack y a.0 a.1
apart_step In {w} g (a163_no {x} {v} {y} {rest} e n) h = let a : ApartAt In w (l163 x v y rest) = subst (ApartAt In w) e h in a.0
apart_step In {w} g (a168_pop {x} {y} {below} e p m) h = let a : ApartAt In w (l168 x) = subst (ApartAt In w) e h in
    pop_apart In w.check w.follow y below (subst (Apart In w.check w.follow) m a)
apart_step In g (a168_none e n) h = tt
apart_step In {w} g (a175_paint e k) h = subst (ApartAt In w) e h
apart_step In {w} g (a175_no e n) h = subst (ApartAt In w) e h
apart_step In g (a180 e) h = tt
apart_step In g (a129_take e p i m) h = tt
apart_step In g (a129_none e n) h = tt
apart_step In g (a134_white e k) h = tt
apart_step In g (a134_no e n) h = tt
apart_step In g (a135_turn e p) h = tt
apart_step In g (a135_no e n) h = tt
apart_step In g (a137 e) h = tt

abbrev pub AllApart : ℕ → (ℕ → Worker) → Type 0
AllApart n ws = (p : ℕ) → ApartAt (Range n) (ws p) (ws p).label

pub apart_move : (n m : ℕ) {s t : View} → Inv n m s → Move n m s t → AllApart n s.workers → AllApart n t.workers
apart_move n m {s} v (step {d} {w} p i a) h = upd_all (λ (u : Worker). ApartAt (Range n) u u.label) s.workers p w (apart_step (Range n) v.global a (h p)) h
apart_move n m {s} v (begin p all k i e) h = upd_all (λ (u : Worker). ApartAt (Range n) u u.label) s.workers p _ tt h
apart_move n m v (make p x k to i j e kids) h = h
apart_move n m v (append_child p x y i a b) h = h
apart_move n m v (protect p x i j a e) h = h
apart_move n m v (un_protect p x i j e) h = h
apart_move n m v (send p x r i j k a e) h = h
apart_move n m v (receive p r x i j k e f) h = h
apart_move n m v (receive_again p r x i j k e f) h = h

-- a list of different numbers from 1 to n is no longer than n
among : List ℕ → ℕ → Bool
among [] k = false
among (v ∷ vs) k = upd (among vs) v true k

among_mem : (xs : List ℕ) (k : ℕ) → among xs k ≡ true → Mem k xs
unfolding among
among_mem [] k e = absurd (grind arith)
among_mem (v ∷ vs) k e = elim (same? k v) [ inl p ↦ inl p | inr n ↦ inr (among_mem vs k (back (among vs) v true k n e)) ]

sum_bits : (f : ℕ → Bool) (n : ℕ) → sum (λ k. bit (f k)) n ≤ n
unfolding sum
sum_bits f zero = omega arith
sum_bits f (suc n) = let a = sum_bits f n in let b : bit (f (suc n)) ≤ 1 = grind arith in omega arith

is_bit : (b : Bool) → (b ≡ true → ⊥) → bit b ≡ 0
is_bit true h = absurd (h refl)
is_bit false h = refl

length-sum : (n : ℕ) (xs : List ℕ) → Once xs → ((z : ℕ) → Mem z xs → Range n z) → length xs ≤ sum (λ k. bit (among xs k)) n
unfolding among
length-sum n [] o i = omega arith
length-sum n (v ∷ vs) o i =
    let a = length-sum n vs o.1 (λ z m. i z (inr m)) in
    let r = i v (inl refl) in
    let b = sum_change (λ k. bit (among vs k)) (λ k. bit (upd (among vs) v true k)) v (λ q k. ap bit (upd_other (among vs) v true q k)) n r.0 r.1 in
    let c = is_bit (among vs v) (λ e. o.0 (among_mem vs v e)) in
    let d = ap bit (upd_here (among vs) v true) in omega arith

pub once_fits : (n : ℕ) (xs : List ℕ) → Once xs → ((z : ℕ) → Mem z xs → Range n z) → length xs ≤ n
once_fits n xs o i = let a = length-sum n xs o i in let b = sum_bits (among xs) n in omega arith

-- the stack has room for what 157 puts on it
pub room : (n : ℕ) (c : Cells) (w : Worker) (x v : ℕ) → Global (Range n) c → w.label ≡ l157 x v → ApartAt (Range n) w w.label → GreyFresh c w v → length w.stack < n
room n c w x v g e h k =
    let a : ApartAt (Range n) w (l157 x v) = subst (ApartAt (Range n) w) e h in
    let b = push_apart (Range n) w.check w.follow w.stack v a.0 a.1 a.2 a.3 (g.inside v (λ q. let r = k.0 in grind arith)) in
    let f = once_fits n (v ∷ w.stack) b.once b.stack_in in omega arith
