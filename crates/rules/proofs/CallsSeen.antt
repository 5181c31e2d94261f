-- A call on the store is a move of the theory.
use Rattle.std.proofs.Common.{◌≡◌, ℕ, zero, suc, ◌+◌, ◌-◌, ◌<◌, ◌≤◌, Bool, true, false, cond, ◌&&◌, eqb, ltb, List, [], ◌∷◌, ◌++◌, length, get_or, drop, set, Ok, Err, Result, sym, refl, ap, ◌∙◌, subst, inl, inr, arith, length-append, length-drop, length-set}
use mathlib.Core.Path.{fun_ext}
use Rattle.std.proofs.lemmas.Bool.Decides.{nat_tests}
use Rattle.lists.specs.Sets.{filled, in_range}
use Rattle.lists.specs.declared.waiting.Set.{Set}
use Rattle.lists.specs.declared.waiting.Set.TheVariants.{Check}
use Rattle.graph.specs.Nets.{Path, stay, walk}
use Rattle.rules.specs.declared.refusal.Refusal.{Refusal}
use Rattle.rules.specs.declared.cell.Cell.{Cell}
use Rattle.rules.specs.declared.cell.Colour.TheVariants.{White}
use Rattle.rules.specs.declared.worker.Worker.{Worker}
use Rattle.rules.specs.declared.worker.Label.{Label}
use Rattle.rules.specs.declared.worker.Label.TheVariants.{Idle, L101, L108, L121, L122, L126, L150, L151, L157, L158, L163, L168, L175, L180, L129, L134, L135, L137}
use Rattle.rules.specs.Cells.{no_cell, within, with_sources, with_putoff, with_child, made}
use Rattle.rules.specs.Workers.{no_worker, label_number, at_label, with_own, with_roots, with_boxes}
use Rattle.rules.specs.States.{State, cell, worker, with_cell, with_worker, with_sets, root as is-root, boxed as in-box, children_of, Reach as Reaches}
use Rattle.rules.specs.Calls.{Each as All, add_root, fill_box, one_putoff_more, risen, received, Creates, AddsChild, GetsChild, Makes, Protects, UnProtects, Sends, Receives, Begins}
use Rattle.rules.specs.Rounds.{Steps}
use Rattle.rules.specs.Laws.{Told, told_root, told_box, told_children, tell, create as Create, add_child as AddChild, get_child as GetChild, make as Make, protect as Protect, unprotect as UnProtect, send as Send, receive as Receive}
use Rattle.rules.proofs.Seen.{view, shade, stand_of, seen_worker, seen_cells}
use Rattle.rules.proofs.Views.{upd_same, moved_view, rooted_view, boxed_view}
use Rattle.rules.proofs.SeenChanges.{see_made, see_source, see_putoff, see_add}
use Rattle.rules.proofs.Shape.{each_set, CellOk, WorkerOk, Shape, off_set, at_set, range_in, filled_ok}
use Rattle.rules.proofs.Led.{tables, Leads, moves, Led, led_same}
use Rattle.rules.proofs.Heap.{upd, Cells, Child}
use Rattle.rules.proofs.HeapChanges.{add, counts, made as madeBy}
use Rattle.rules.proofs.Walkers.{idle, begun, Worker as Walker}
use Rattle.rules.proofs.Moves.{View, Range, Reach, at_root, on, live_box, Move, begin, make, append_child, protect, un_protect, send, receive, receive_again, called, moved, more, root, boxed}
use Rattle.rules.proofs.Copies.{copies}
use Rattle.rules.proofs.From1.{from1}
use Rattle.rules.proofs.Invariant.{Inv}
use Rattle.rules.proofs.Basics.{upd_other, same?, upd_at}
use Rattle.rules.proofs.Safety.{unprotect_fits, receive_fits, live_kept}
use Rattle.rules.proofs.Apart.{AllApart}
use Rattle.rules.proofs.StepsSeen.{all_ok, steps}

-- what a worker reaches

arrow_in : (b : Bool) (a j : ℕ) → 1 ≤ j → j ≤ cond b a 0 → (b ≡ true) × (j ≤ a)
arrow_in true a j l h = (refl, h)
arrow_in false a j l h = absurd (omega arith)

within_yes : (n x : ℕ) → 1 ≤ x → x ≤ n → within n x ≡ true
within_yes n x l h = grind (arith, nat_tests)

place_is : (ps : List ℕ) (a b : Bool) (j : ℕ) → a ≡ true → b ≡ true → 1 ≤ j → from1 ps 0 j ≡ cond (a && b) (get_or ps (j - 1) 0) 0
place_is ps true true zero e f l = absurd (omega arith)
place_is ps true true (suc k) e f l = ap (λ (i : ℕ). get_or ps i 0) (let q : k ≡ suc k - 1 = omega arith in q)
place_is ps true false j e f l = absurd (grind arith)
place_is ps false b j e f l = absurd (grind arith)

module _ (m : State) (p : ℕ) where
  child_seen : (y j : ℕ) → 1 ≤ j → j ≤ (children_of m).arrows y → Child (view m).cells y ((children_of m).leads y j)
  child_seen y j l h =
      let k = arrow_in (within m.ncells y) (cell m y).arity j l h in
      record { at = j; low = l; high = k.1; here = place_is (cell m y).places (within m.ncells y) (within (cell m y).arity j) j k.0 (within_yes _ j l k.1) l }

  path_seen : {a b : ℕ} → Reach (view m).cells ((view m).roots p) a → Path (children_of m) a b → Reach (view m).cells ((view m).roots p) b
  path_seen r stay = r
  path_seen r (walk y j h e) = on (path_seen r h) (child_seen y j e.0 e.1)

  reach_seen : (x : ℕ) → Reaches m p x → Reach (view m).cells ((view m).roots p) x
  reach_seen x r = path_seen (at_root r.starts) r.path

-- lists of children

all_at : (P : ℕ → Type 0) (xs rest : List ℕ) → All P xs → (j : ℕ) → 1 ≤ j → j ≤ length xs → P (from1 (xs ++ rest) 0 j)
all_at P [] rest e j l h = absurd (omega arith)
all_at P (x ∷ xs) rest e zero l h = absurd (omega arith)
all_at P (x ∷ xs) rest e (suc zero) l h = e.0
all_at P (x ∷ xs) rest e (suc (suc j)) l h = all_at P xs rest e.1 (suc j) (omega arith) (omega arith)

copies_past : (x : ℕ) (ys : List ℕ) (k n : ℕ) → copies (from1 (x ∷ ys) 0) (suc (suc k)) n ≡ copies (from1 ys 0) (suc k) n
copies_past x ys k zero = refl
copies_past x ys k (suc n) = ap (λ (l : List ℕ). get_or ys k 0 ∷ l) (copies_past x ys (suc k) n)

copies_list : (xs rest : List ℕ) → copies (from1 (xs ++ rest) 0) 1 (length xs) ≡ xs
copies_list [] rest = refl
copies_list (x ∷ xs) rest = ap (λ (l : List ℕ). x ∷ l) (copies_past x (xs ++ rest) 0 (length xs) ∙ copies_list xs rest)

copies_more : (at : ℕ → ℕ) (y k n j : ℕ) → j ≡ k + n → copies (upd at j y) k (suc n) ≡ copies at k n ++ (y ∷ [])
copies_more at y k zero j e = ap (λ (z : ℕ). z ∷ []) (upd_at at j y k (omega arith))
copies_more at y k (suc n) j e =
    let a = upd_other at j y k (λ q. omega arith) in let b = copies_more at y (suc k) n j (omega arith) in
    ap (λ (z : ℕ). z ∷ copies (upd at j y) (suc k) (suc n)) a ∙ ap (λ (l : List ℕ). at k ∷ l) b

abbrev kids_of : Cells → ℕ → List ℕ
kids_of c x = copies (c.place x) 1 (c.arity x)

-- places and arity written at one cell
kids_set : (c : Cells) (x k : ℕ) (to : ℕ → ℕ) (list : List ℕ) → copies to 1 k ≡ list → ◌≡◌ {A = ℕ → List ℕ} (λ z. copies (upd c.place x to z) 1 (upd c.arity x k z)) (upd (λ z. copies (c.place z) 1 (c.arity z)) x list)
kids_set c x k to list e = fun_ext (λ z. elim (same? z x) [
  | inl p ↦ ap (λ (f : ℕ → ℕ). copies f 1 (upd c.arity x k z)) (upd_at c.place x to z p) ∙ (ap (copies to 1) (upd_at c.arity x k z p) ∙ (e ∙ sym (upd_at (kids_of c) x list z p)))
  | inr n ↦ ap (λ (f : ℕ → ℕ). copies f 1 (upd c.arity x k z)) (upd_other c.place x to z n) ∙ (ap (copies (c.place z) 1) (upd_other c.arity x k z n) ∙ sym (upd_other (kids_of c) x list z n))
])

idle_is : (l : Label) (k : Worker) → eqb (label_number l) 0 ≡ true → stand_of l k ≡ idle
idle_is Idle k e = refl
idle_is L101 k e = absurd (grind arith)
idle_is L108 k e = absurd (grind arith)
idle_is L121 k e = absurd (grind arith)
idle_is L122 k e = absurd (grind arith)
idle_is L126 k e = absurd (grind arith)
idle_is L150 k e = absurd (grind arith)
idle_is L151 k e = absurd (grind arith)
idle_is L157 k e = absurd (grind arith)
idle_is L158 k e = absurd (grind arith)
idle_is L163 k e = absurd (grind arith)
idle_is L168 k e = absurd (grind arith)
idle_is L175 k e = absurd (grind arith)
idle_is L180 k e = absurd (grind arith)
idle_is L129 k e = absurd (grind arith)
idle_is L134 k e = absurd (grind arith)
idle_is L135 k e = absurd (grind arith)
idle_is L137 k e = absurd (grind arith)

risen_is : (n : ℕ) → n < 65535 → risen n ≡ suc n
risen_is n h = grind (arith, nat_tests)

-- a write to the tables: its sizes and its view

abbrev set_root : State → ℕ → ℕ → Bool → State
set_root m p x b = with_worker m p (with_roots (worker m p) (set (worker m p).roots x b))

module _ (m : State) (s : Shape m) where
  in_workers : (p : ℕ) → Range m.nworkers p → p < 9
  in_workers p i = let a = i.1 in let b = s.crew in omega arith

  in_cells : (x : ℕ) → Range m.ncells x → x < 256
  in_cells x r = let a = r.1 in let b = s.few in omega arith

  worker_shape : (p : ℕ) (u : Worker) → WorkerOk m.ncells u → Shape (with_worker m p u)
  worker_shape p u k = record { some = s.some; few = s.few; carried = s.carried; crew = s.crew; rounds = s.rounds; cells = s.cells; workers = each_set (WorkerOk m.ncells) no_worker 9 m.workers p u k s.workers; sets = s.sets }

  cell_shape : (x : ℕ) (q : Cell) → CellOk q → Shape (with_cell m x q)
  cell_shape x q k = record { some = s.some; few = s.few; carried = s.carried; crew = s.crew; rounds = s.rounds; cells = each_set CellOk no_cell 256 m.cells x q k s.cells; workers = s.workers; sets = s.sets }

  root_shape : (p x : ℕ) (b : Bool) → p < 9 → Shape (set_root m p x b)
  root_shape p x b l = let o = s.workers.1 p l in worker_shape p (with_roots (worker m p) (set (worker m p).roots x b)) (length-set (worker m p).roots x b ∙ o.0, o.1, o.2, o.3, o.4, o.5)

  box_shape : (p r x : ℕ) → p < 9 → Shape (fill_box m p r x)
  box_shape p r x l = let o = s.workers.1 p l in worker_shape p (with_boxes (worker m p) (set (worker m p).boxes r x)) (o.0, o.1, o.2, length-set (worker m p).boxes r x ∙ o.3, o.4, o.5)

  root_view : (p x : ℕ) (b : Bool) → p < 9 → x < 256 → view (set_root m p x b) ≡ called (view m) (view m).cells (root (view m) p x b) (view m).box
  root_view p x b l h = rooted_view m p (with_roots (worker m p) (set (worker m p).roots x b)) (let e = s.workers.0 in omega arith) m.cells m.round x b (let e = (s.workers.1 p l).0 in omega arith) refl refl refl

  box_view : (p r x : ℕ) → p < 9 → r < 9 → view (fill_box m p r x) ≡ called (view m) (view m).cells (view m).roots (boxed (view m) p r x)
  box_view p r x l h = boxed_view m p (with_boxes (worker m p) (set (worker m p).boxes r x)) (let e = s.workers.0 in omega arith) m.cells m.round r x (let e = (s.workers.1 p l).3 in omega arith) refl refl refl

  cell_view : (t : View) (x : ℕ) (q : Cell) (d : Cells) → view m ≡ t → seen_cells m.round (set m.cells x q) ≡ d → view (with_cell m x q) ≡ called t d t.roots t.box
  cell_view t x q d a b = λ i. called (a i) (b i) (a i).roots (a i).box

module _ (m : State) (s : Shape m) (v : Inv m.ncells m.nworkers (view m)) where
  abbrev N : ℕ
  N = m.ncells

  abbrev C : Cells
  C = (view m).cells

  leads_to : (f : Told → Told) (m' : State) (t : View) → m'.ncells ≡ m.ncells → m'.nworkers ≡ m.nworkers → Shape m' → view m' ≡ t → Move N m.nworkers (view m) t → tables t ≡ f (tables (view m)) → Led f m m'
  leads_to f m' t a b k e g h = record { shape = k; cells_n = a; crew_n = b; leads = subst (Leads N m.nworkers (view m)) (sym e) (moves g); telling = ap tables e ∙ h }

  ok : (x : ℕ) → Range N x → CellOk (cell m x)
  ok x r = s.cells.1 x (in_cells m s x r)

  in_table : (x : ℕ) → Range N x → x < length m.cells
  in_table x r = let a = in_cells m s x r in let b = s.cells.0 in omega arith

  -- a cell of these children made
  made_ok : (x : ℕ) (list : List ℕ) → Range N x → length list ≤ 8 → CellOk (made (cell m x) list)
  made_ok x list r h =
      let c = cell m x in let a = length-append list (drop (length list) c.places) in let b = length-drop (length list) c.places in let o = ok x r in let e = o.0 in (omega arith, omega arith, h, o.3, o.4)

  made_led : (p x : ℕ) (list : List ℕ) (m' : State) → Range m.nworkers p → Range N x → (cell m x).colour ≡ White → length list ≤ 8 → All (Reaches m p) list
      → m' ≡ add_root (with_cell m x (made (cell m x) list)) p x → Led (λ t. told_children (told_root t p x true) x list) m m'
  made_led p x list m' i r e h near q =
      let l = in_workers m s p i in let m1 = set_root m p x true in let rest = drop (length list) (cell m x).places in let to = from1 (list ++ rest) 0 in
      subst (Led (λ t. told_children (told_root t p x true) x list) m) (sym q)
      (leads_to (λ t. told_children (told_root t p x true) x list) (with_cell m1 x (made (cell m x) list)) (called (view m) (madeBy C x (length list) to) (root (view m) p x true) (view m).box) refl refl
      (cell_shape m1 (root_shape m s p x true l) x (made (cell m x) list) (made_ok x list r h))
      (cell_view m1 (root_shape m s p x true l) (called (view m) C (root (view m) p x true) (view m).box) x (made (cell m x) list) (madeBy C x (length list) to) (root_view m s p x true l (in_cells m s x r)) (see_made m.round m.cells x (in_table x r) list))
      (make p x (length list) to i r (ap shade e) (λ j a b. reach_seen m p (to j) (all_at (Reaches m p) list rest near j a b)))
      (λ j. record { roots = root (view m) p x true; boxes = (view m).box; children = kids_set C x (length list) to list (copies_list list rest) j }))

  pub creates : (p x : ℕ) (a : Result ℕ Refusal) (m' : State) → Creates m p x a m' → Led (tell (Create p x a)) m m'
  creates p x (Err e) m' h = led_same m m' s h.1
  creates p x (Ok a) m' h = let k = h.0 in made_led p x [] m' k.0 k.1.1.0 k.1.1.1.0 (omega arith) tt h.1.1

  pub makes : (p x : ℕ) (list : List ℕ) (a : Result ℕ Refusal) (m' : State) → Makes m p x list a m' → Led (tell (Make p x list a)) m m'
  makes p x list (Err e) m' h = led_same m m' s h.1
  makes p x list (Ok a) m' h =
      let k = h.0 in made_led p x list m' k.0 k.1.1.1.0.0 k.1.1.1.1.1.0 k.1.1.0.1 k.1.1.1.1.0 h.1.1

  adds : (p x y : ℕ) (b : Bool) (m' : State) → b ≡ ltb (cell m x).arity 8 → m' ≡ cond (ltb (cell m x).arity 8) (with_cell m x (with_child (cell m x) y)) m
      → Range m.nworkers p → Range N x → Reaches m p x → Reaches m p y → Led (tell (AddChild p x y (Ok b))) m m'
  adds p x y false m' e f i r g k = led_same m m' s (f ∙ ap (λ (t : Bool). cond t (with_cell m x (with_child (cell m x) y)) m) (sym e))
  adds p x y true m' e f i r g k =
      let o = ok x r in let low : (cell m x).arity < length (cell m x).places = (let z = o.0 in grind (arith, nat_tests)) in
      subst (Led (tell (AddChild p x y (Ok true))) m) (sym (f ∙ ap (λ (t : Bool). cond t (with_cell m x (with_child (cell m x) y)) m) (sym e)))
      (leads_to (tell (AddChild p x y (Ok true))) (with_cell m x (with_child (cell m x) y)) (called (view m) (add C x y) (view m).roots (view m).box) refl refl
      (cell_shape m s x (with_child (cell m x) y) (length-set (cell m x).places (cell m x).arity y ∙ o.0, o.1, (let z = o.0 in omega arith), o.3, o.4))
      (cell_view m s (view m) x (with_child (cell m x) y) (add C x y) refl (see_add m.round m.cells x (in_table x r) y low))
      (append_child p x y i (reach_seen m p x g) (reach_seen m p y k))
      (λ j. record {
        roots = (view m).roots;
        boxes = (view m).box;
        children = kids_set C x (suc (C.arity x)) (upd (C.place x) (suc (C.arity x)) y) (kids_of C x ++ (y ∷ [])) (copies_more (C.place x) y 1 (C.arity x) (suc (C.arity x)) (omega arith)) j;
      }))

  pub adds_child : (p x y : ℕ) (a : Result Bool Refusal) (m' : State) → AddsChild m p x y a m' → Led (tell (AddChild p x y a)) m m'
  adds_child p x y (Err e) m' h = led_same m m' s h.1
  adds_child p x y (Ok a) m' h = let k = h.0 in adds p x y a m' h.1.0 h.1.1 k.0 k.1.1.0.0 k.1.1.1.0.0 k.1.1.1.0.1

  pub gets_child : (p x j : ℕ) (a : Result ℕ Refusal) (m' : State) → GetsChild m p x j a m' → Led (tell (GetChild p x j a)) m m'
  gets_child p x j (Err e) m' h = led_same m m' s h.1
  gets_child p x j (Ok a) m' h = led_same m m' s h.1.1

  pub protects : (p x : ℕ) (a : Result (Unit {0}) Refusal) (m' : State) → Protects m p x a m' → Led (tell (Protect p x a)) m m'
  protects p x (Err e) m' h = led_same m m' s h.1
  protects p x (Ok a) m' h =
      let k = h.0 in let i = k.0 in let r = k.1.1.0 in let l = in_workers m s p i in let m1 = set_root m p x true in let q = with_sources (cell m x) ((cell m x).sources + 1) in
      let d = counts C (more C.sources x) C.putoff in let f = tell (Protect p x (Ok a)) in let few = k.1.1.1.1.1.0 in
      subst (Led f m) (sym h.1)
      (leads_to f (with_cell m1 x q) (called (view m) d (root (view m) p x true) (view m).box) refl refl
      (cell_shape m1 (root_shape m s p x true l) x q ((ok x r).0, omega arith, (ok x r).2, (ok x r).3, (ok x r).4))
      (cell_view m1 (root_shape m s p x true l) (called (view m) C (root (view m) p x true) (view m).box) x q d (root_view m s p x true l (in_cells m s x r)) (see_source m.round m.cells x (in_table x r)))
      (protect p x i r (reach_seen m p x k.1.1.1.0) k.1.1.1.1.0)
      refl)

  pub unprotects : (p x : ℕ) (a : Result (Unit {0}) Refusal) (m' : State) → UnProtects m p x a m' → Led (tell (UnProtect p x a)) m m'
  unprotects p x (Err e) m' h = led_same m m' s h.1
  unprotects p x (Ok a) m' h =
      let k = h.0 in let i = k.0 in let r = k.1.1.0 in let l = in_workers m s p i in let m1 = set_root m p x false in let q = with_putoff (cell m x) (risen (cell m x).putoff) in
      let d = counts C C.sources (more C.putoff x) in let f = tell (UnProtect p x (Ok a)) in
      let fits = unprotect_fits N m.nworkers (view m) v p x i r.0 k.1.1.1.0 in let few = (ok x r).1 in
      subst (Led f m) (sym h.1)
      (leads_to f (with_cell m1 x q) (called (view m) d (root (view m) p x false) (view m).box) refl refl
      (cell_shape m1 (root_shape m s p x false l) x q (ok x r))
      (cell_view m1 (root_shape m s p x false l) (called (view m) C (root (view m) p x false) (view m).box) x q d (root_view m s p x false l (in_cells m s x r)) (see_putoff m.round m.cells x (in_table x r) (risen (cell m x).putoff) (risen_is _ (omega arith))))
      (un_protect p x i r k.1.1.1.0)
      refl)

  pub sends : (p x r : ℕ) (a : Result (Unit {0}) Refusal) (m' : State) → Sends m p x r a m' → Led (tell (Send p x r a)) m m'
  sends p x r (Err e) m' h = led_same m m' s h.1
  sends p x r (Ok a) m' h =
      let k = h.0 in let i = k.0.0 in let j = k.0.1 in let c = k.1.1.0 in let l = in_workers m s p i in let m1 = fill_box m p r x in let q = with_sources (cell m x) ((cell m x).sources + 1) in
      let d = counts C (more C.sources x) C.putoff in let f = tell (Send p x r (Ok a)) in let few = k.1.1.1.1.1.0 in
      subst (Led f m) (sym h.1)
      (leads_to f (with_cell m1 x q) (called (view m) d (view m).roots (boxed (view m) p r x)) refl refl
      (cell_shape m1 (box_shape m s p r x l) x q ((ok x c).0, omega arith, (ok x c).2, (ok x c).3, (ok x c).4))
      (cell_view m1 (box_shape m s p r x l) (called (view m) C (view m).roots (boxed (view m) p r x)) x q d (box_view m s p r x l (in_workers m s r j)) (see_source m.round m.cells x (in_table x c)))
      (send p x r i j c (reach_seen m p x k.1.1.1.0) k.1.1.1.1.0)
      refl)

  -- what a box holds is a cell of the store
  box_in : (p r : ℕ) → Range m.nworkers p → Range m.nworkers r → (in-box m p r ≡ 0 → ⊥) → Range N (in-box m p r)
  box_in p r i j n = v.global.inside (in-box m p r) (λ e. live_kept N m.nworkers (view m) v (live_box p r i j refl (low (in-box m p r) n)) e)
    where
      low : (x : ℕ) → (x ≡ 0 → ⊥) → 1 ≤ x
      low zero h = absurd (h refl)
      low (suc x) h = omega arith

  receives_at : (p r x : ℕ) (b : Bool) (m' : State) → is-root m p x ≡ b → in-box m r p ≡ x → Range m.nworkers p → Range m.nworkers r → Range N x
      → m' ≡ cond b (one_putoff_more (fill_box m r p 0) x) (add_root (fill_box m r p 0) p x) → Led (λ t. told_root (told_box t r p 0) p x true) m m'
  receives_at p r x true m' y e i j c h =
      let l = in_workers m s r j in let m1 = fill_box m r p 0 in let q = with_putoff (cell m x) (risen (cell m x).putoff) in
      let d = counts C C.sources (more C.putoff x) in let f : Told → Told = (λ t. told_root (told_box t r p 0) p x true) in
      let fits = receive_fits N m.nworkers (view m) v r p x j i c.0 e in let few = (ok x c).1 in
      let same = upd_same (view m).roots p (upd ((view m).roots p) x true) (upd_same ((view m).roots p) x true (sym y)) in
      subst (Led f m) (sym h)
      (leads_to f (with_cell m1 x q) (called (view m) d (view m).roots (boxed (view m) r p 0)) refl refl
      (cell_shape m1 (box_shape m s r p 0 l) x q (ok x c))
      (cell_view m1 (box_shape m s r p 0 l) (called (view m) C (view m).roots (boxed (view m) r p 0)) x q d (box_view m s r p 0 l (in_workers m s p i)) (see_putoff m.round m.cells x (in_table x c) (risen (cell m x).putoff) (risen_is _ (omega arith))))
      (receive_again p r x i j c e y)
      (λ z. record { roots = sym same z; boxes = boxed (view m) r p 0; children = kids_of C }))
  receives_at p r x false m' y e i j c h =
      let l = in_workers m s r j in let m1 = fill_box m r p 0 in let f : Told → Told = (λ t. told_root (told_box t r p 0) p x true) in
      let s1 = box_shape m s r p 0 l in let b = box_view m s r p 0 l (in_workers m s p i) in let lp = in_workers m s p i in
      subst (Led f m) (sym h)
      (leads_to f (set_root m1 p x true) (called (view m) C (root (view m) p x true) (boxed (view m) r p 0)) refl refl
      (root_shape m1 s1 p x true lp)
      (root_view m1 s1 p x true lp (in_cells m s x c) ∙ ap (λ (t : View). called t t.cells (root t p x true) t.box) b)
      (receive p r x i j c e y)
      refl)

  pub receives : (p r : ℕ) (a : Result ℕ Refusal) (m' : State) → Receives m p r a m' → Led (tell (Receive p r a)) m m'
  receives p r (Err e) m' h = led_same m m' s h.1
  receives p r (Ok a) m' h =
      let k = h.0 in let i = k.0.0 in let j = k.0.1 in let e = h.1.0 in
      receives_at p r a (is-root m p a) m' refl (sym e) i j (subst (Range N) (sym e) (box_in r p j i k.1.1.0)) (h.1.1 ∙ ap (received m p r) (sym e))

  pub begins : (p : ℕ) (a : Result (Unit {0}) Refusal) (m' : State) → Begins m p a m' → Led (λ t. t) m m'
  begins p (Err e) m' h = led_same m m' s h.1
  begins p (Ok a) m' h =
      let k = h.0 in let i = k.0 in let l = in_workers m s p i in let w = worker m p in
      let all : ℕ → Bool = (λ c. in_range c m.ncells) in
      let u = at_label (with_own w m.round) L101 in let t = filled m.sets p Check m.ncells in
      let q = moved_view m p u (let z = s.workers.0 in omega arith) m.cells m.round t refl refl (λ z n. off_set m.sets p Check all z n) in
      let e : seen_worker (t p) u ≡ begun ((view m).workers p) m.round all = ap (λ (ss : Set → ℕ → Bool). seen_worker ss u) (at_set m.sets p Check all) in
      let eq = q ∙ ap (λ (z : Walker). moved (view m) (view m).cells (upd (view m).workers p z)) e in
      let o = s.workers.1 p l in
      subst (Led (λ t. t) m) (sym (h.1 ∙ ap (with_sets (with_worker m p u)) (all_ok m s v p i Check m.sets)))
      (leads_to (λ t. t) (with_sets (with_worker m p u) t) (moved (view m) (view m).cells (upd (view m).workers p (begun ((view m).workers p) m.round all))) refl refl
      (record {
        some = s.some;
        few = s.few;
        carried = s.carried;
        crew = s.crew;
        rounds = s.rounds;
        cells = s.cells;
        workers = each_set (WorkerOk m.ncells) no_worker 9 m.workers p u (o.0, tt, o.2, o.3, o.4, k.1.1.0) s.workers;
        sets = filled_ok m.ncells m.sets p Check s.sets;
      })
      eq
      (begin p all (λ x r. range_in x m.ncells r) i (idle_is w.label w k.1.0))
      refl)

  pub steps_led : (p : ℕ) → AllApart m.ncells (view m).workers → (a : Result Label Refusal) (m' : State) → Steps m p a m' → Led (λ t. t) m m'
  steps_led p aa (Err e) m' h = led_same m m' s h.1
  steps_led p aa (Ok next) m' h = steps m s v p h.0.0 aa (worker m p).label next m' refl h.1
