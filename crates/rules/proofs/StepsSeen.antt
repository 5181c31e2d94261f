-- A step or a call on the model is a move of the theory.
use Rattle.std.proofs.Common.{◌≡◌, ℕ, zero, suc, ◌+◌, ◌-◌, ◌<◌, ◌≤◌, Bool, true, false, cond, not, ◌&&◌, ◌||◌, eqb, ltb, leb, ◌⊎◌, List, [], ◌∷◌, length, get_or, set, Some, None, MatchBool, Option, sym, refl, ap, ◌∙◌, subst, inl, inr, add-one, arith, length-set, get_or-set_other, get_or-set_same}
use Rattle.std.proofs.lemmas.Bool.Decides.{nat_tests, leb_tells}
use Rattle.lists.specs.Sets.{Sets, filled, struck, cleared, added, takes, Took}
use Rattle.lists.specs.Sets.{in_range}
use Rattle.lists.specs.declared.waiting.Set.{Set}
use Rattle.lists.specs.declared.waiting.Set.TheVariants.{Check, Start, Follow}
use Rattle.rules.specs.declared.cell.Cell.{Cell}
use Rattle.rules.specs.declared.cell.Colour.{Colour}
use Rattle.rules.specs.declared.cell.Colour.TheVariants.{White, Black, Grey}
use Rattle.rules.specs.declared.cell.Father.{Father}
use Rattle.rules.specs.declared.cell.Father.TheVariants.{Nobody, Source, Under}
use Rattle.rules.specs.declared.worker.Worker.{Worker}
use Rattle.rules.specs.declared.worker.Label.{Label}
use Rattle.rules.specs.declared.worker.Label.TheVariants.{Idle, L101, L108, L121, L122, L126, L150, L151, L157, L158, L163, L168, L175, L180, L129, L134, L135, L137}
use Rattle.rules.specs.Cells.{no_cell}
use Rattle.rules.specs.Workers.{no_worker}
use Rattle.rules.specs.States.{State, cell, worker, with_cell, with_worker, with_sets, with_round}
use Rattle.rules.specs.Cells.{is_grey, is_source, with_colour, with_father}
use Rattle.rules.specs.Workers.{at_label, holding_x, holding_w, holding_y, at_copy, with_copies, with_stack}
use Rattle.rules.proofs.Seen.{view, shade, parent, stand_of, copies_from, stacked, seen_worker, seen_cells}
use Rattle.rules.specs.Rounds.{in_step, grey_and_fresh, goes, filled_with_all, drawn, next_of, Draws, scanned, scanning, copy_left, copy, looked, unclaimed, claims, claimed, stack_left, unstacked, painted, StepsAt}
use Rattle.rules.proofs.Views.{made_of, moved_view}
use Rattle.rules.proofs.SeenChanges.{see_paint, see_white, see_scan, see_claim}
use Rattle.rules.proofs.Shape.{Each, each_set, CellOk, Held, WorkerOk, SetsOk, Shape, off_set, at_set, struck_is, range_in, filled_ok, struck_ok, all_taken, put_ok, cleared_ok, put_is}
use Rattle.rules.proofs.Led.{tables, Leads, moves, Led}
use Rattle.rules.proofs.Heap.{upd, Cells, grey, none, source, under}
use Rattle.rules.proofs.HeapChanges.{claim}
use Rattle.rules.proofs.Walkers.{l101, l122, l151, l157, l158, l163, l168, l129, l137, no_cells, goto, with_check, with_start, with_walk, Worker as Walker}
use Rattle.rules.proofs.WalkerSteps.{Step, InStep, GreyFresh, a101_take, a101_none, a108_scan, a108_skip, a121, a122_take, a122_none, a126_yes, Free, a126_no, a150, a151_take, a151_none, a157_go, a157_no, a158_in, a158_out, a158_end, a163_claim, a163_no, a168_pop, a168_none, a175_paint, a175_no, a180, a129_take, a129_none, a134_white, a134_no, a135_turn, a135_no, a137}
use Rattle.rules.proofs.Moves.{Range, step}
use Rattle.rules.proofs.Copies.{copies}
use Rattle.rules.proofs.Invariant.{Inv}
use Rattle.rules.proofs.Effects.{Effect, e_same, e_scan, e_claim, e_paint, e_whiten, e_turn, step_effect}
use Rattle.rules.proofs.From1.{from1}
use Rattle.rules.proofs.Apart.{AllApart, room}

pub cases : {A : Type 0} (P : A → Type 0) (b : Bool) (x y : A) → (b ≡ true → P x) → (b ≡ false → P y) → P (cond b x y)
cases P true x y f g = f refl
cases P false x y f g = g refl

when : (b : Bool) {P Q R : Type 0} → (b ≡ true → P → R) → (b ≡ false → Q → R) → MatchBool b P Q → R
when true f g h = f refl h
when false f g h = g refl h

eq_yes : (a b : ℕ) → eqb a b ≡ true → a ≡ b
eq_yes a b e = grind arith

eq_no : (a b : ℕ) → eqb a b ≡ false → a ≡ b → ⊥
eq_no a b e p = grind arith

grey_is : (c : Colour) → is_grey c ≡ true → shade c ≡ grey
grey_is White e = absurd (grind arith)
grey_is Black e = absurd (grind arith)
grey_is Grey e = refl

grey_so : (c : Colour) → shade c ≡ grey → is_grey c ≡ true
grey_so White e = grind arith
grey_so Black e = grind arith
grey_so Grey e = refl

source_is : (f : Father) → is_source f ≡ true → parent f ≡ source
source_is Nobody e = absurd (grind arith)
source_is Source e = refl
source_is (Under w) e = absurd (grind arith)

source_not : (f : Father) → is_source f ≡ false → parent f ≡ source → ⊥
source_not Nobody e h = grind arith
source_not Source e h = grind arith
source_not (Under w) e h = grind arith

both : (a b : Bool) → (a && b) ≡ true → (a ≡ true) × (b ≡ true)
both true b e = (refl, e)
both false b e = absurd (grind arith)

not_both : (a b : Bool) → (a && b) ≡ false → a ≡ true → b ≡ true → ⊥
not_both true b e f g = grind arith
not_both false b e f g = grind arith

positive : (n : ℕ) → ltb 0 n ≡ true → 0 < n
positive n e = grind arith

nought : (n : ℕ) → (ltb 0 n ≡ true → ⊥) → n ≡ 0
nought zero h = refl
nought (suc n) h = absurd (h (grind arith))

stack_top : (xs : List ℕ) (d : ℕ) → 0 < d → stacked xs d ≡ get_or xs (d - 1) 0 ∷ stacked xs (d - 1)
stack_top xs zero h = absurd (omega arith)
stack_top xs (suc d) h = ap (λ (k : ℕ). get_or xs k 0 ∷ stacked xs k) (let e : d ≡ suc d - 1 = omega arith in e)

same_kids : {In : ℕ → Type 0} {c d : Cells} → Effect In c d → ◌≡◌ {A = ℕ → List ℕ} (λ x. copies (d.place x) 1 (d.arity x)) (λ x. copies (c.place x) 1 (c.arity x))
same_kids e_same = refl
same_kids (e_scan x i e) = refl
same_kids (e_claim v y f a b t) = refl
same_kids (e_paint y a) = refl
same_kids (e_whiten x) = refl
same_kids (e_turn a b) = refl

free_yes : (v : ℕ) (f : Father) → unclaimed v f ≡ true → (parent f ≡ none) ⊎ (parent f ≡ under v)
free_yes v Nobody e = inl refl
free_yes v Source e = absurd (grind arith)
free_yes v (Under u) e = inr (ap under (eq_yes u v e))

free_no : (v : ℕ) (f : Father) → unclaimed v f ≡ false → (parent f ≡ none) ⊎ (parent f ≡ under v) → ⊥
free_no v Nobody e h = grind arith
free_no v Source e (inl p) = grind arith
free_no v Source e (inr p) = grind arith
free_no v (Under u) e (inl p) = grind arith
free_no v (Under u) e (inr p) = eq_no u v e (grind arith)

bools : (P : Bool → Type 0) (b : Bool) → (b ≡ true → P true) → (b ≡ false → P false) → P b
bools P true f g = f refl
bools P false f g = g refl

stacked_set : (xs : List ℕ) (e v d : ℕ) → d ≤ e → stacked (set xs e v) d ≡ stacked xs d
stacked_set xs e v zero h = refl
stacked_set xs e v (suc d) h = ap (λ (z : ℕ). z ∷ stacked (set xs e v) d) (get_or-set_other xs e d v 0 (λ p. omega arith)) ∙ ap (λ (l : List ℕ). get_or xs d 0 ∷ l) (stacked_set xs e v d (omega arith))

stacked_push : (xs : List ℕ) (d v : ℕ) → d < length xs → stacked (set xs d v) (d + 1) ≡ v ∷ stacked xs d
stacked_push xs d v h = ap (stacked (set xs d v)) (add-one d) ∙ (ap (λ (z : ℕ). z ∷ stacked (set xs d v) d) (get_or-set_same xs d v 0 h) ∙ ap (λ (l : List ℕ). v ∷ l) (stacked_set xs d v d (omega arith)))

stacked_length : (xs : List ℕ) (d : ℕ) → length (stacked xs d) ≡ d
stacked_length xs zero = refl
stacked_length xs (suc d) = ap suc (stacked_length xs d)

rest_next : (u : Worker) → u.j ≤ u.copied → copies_from u u.j ≡ copy u ∷ copies_from u (u.j + 1)
rest_next u h =
    let f : ℕ → ℕ = (λ i. get_or u.copies (i - 1) 0) in
    ap (copies f u.j) (let e : suc u.copied - u.j ≡ suc (suc u.copied - (u.j + 1)) = omega arith in e)
    ∙ ap (λ (k : ℕ). f u.j ∷ copies f k (suc u.copied - (u.j + 1))) (sym (add-one u.j))

copies_same : (f g : ℕ → ℕ) → ((k : ℕ) → f (suc k) ≡ g (suc k)) → (k n : ℕ) → copies f (suc k) n ≡ copies g (suc k) n
copies_same f g e k zero = refl
copies_same f g e k (suc n) = ap (λ (z : ℕ). z ∷ copies f (suc (suc k)) n) (e k) ∙ ap (λ (l : List ℕ). g (suc k) ∷ l) (copies_same f g e (suc k) n)

copies_whole : (xs : List ℕ) (n : ℕ) → copies (from1 xs 0) 1 n ≡ copies (λ i. get_or xs (i - 1) 0) 1 (suc n - 1)
copies_whole xs n =
    copies_same (from1 xs 0) (λ i. get_or xs (i - 1) 0) (λ k. ap (λ (i : ℕ). get_or xs i 0) (let e : k ≡ suc k - 1 = omega arith in e)) 0 n
    ∙ ap (copies (λ i. get_or xs (i - 1) 0) 1) (let e : n ≡ suc n - 1 = omega arith in e)

at_most_no : (a b : ℕ) → (leb a b ≡ true → ⊥) → suc b - a ≡ 0
at_most_no a b h = elim (leb_tells a b) [ inl e ↦ absurd (h e.0) | inr e ↦ (let e1 = e.1 in omega arith) ]

at_most_yes : (a b : ℕ) → leb a b ≡ true → a ≤ b
at_most_yes a b e = grind (arith, nat_tests)

yes_less : (a b : ℕ) → a < b → ltb a b ≡ true
yes_less a b h = grind (arith, nat_tests)

module _ (m : State) (s : Shape m) (v : Inv m.ncells m.nworkers (view m)) (p : ℕ) (i : Range m.nworkers p) where
  abbrev w : Worker
  w = worker m p

  abbrev W : Walker
  W = (view m).workers p

  abbrev C : Cells
  C = (view m).cells

  abbrev Goes : Cells → Walker → Type 0
  Goes d u = Step (Range m.ncells) C W d u

  pub in9 : p < 9
  in9 = let a = i.1 in let b = s.crew in omega arith

  pub in_ws : p < length m.workers
  in_ws = let a = in9 in let b = s.workers.0 in omega arith

  pub in_cs : (x : ℕ) → Range m.ncells x → x < length m.cells
  in_cs x r = let a = r.1 in let b = s.few in let c = s.cells.0 in omega arith

  pub in256 : (x : ℕ) → Range m.ncells x → x < 256
  in256 x r = let a = r.1 in let b = s.few in omega arith

  -- the sizes of a worker's tables, and its numbers within their limits
  abbrev Fits : Worker → ℕ → Type 0
  Fits u r = (length u.stack ≡ 256) × (length u.boxes ≡ 9) × (u.depth ≤ m.ncells) × (u.own < 4294967294) × (r ≤ 4294967294)

  pub stk : Fits w m.round
  stk = ((s.workers.1 p in9).2, (s.workers.1 p in9).3, (s.workers.1 p in9).4, (s.workers.1 p in9).5, s.rounds)

  pub went : (u : Worker) (cs : List Cell) (r : ℕ) (sets : Sets) → u.roots ≡ w.roots → u.boxes ≡ w.boxes → Fits u r → ((q : ℕ) → (q ≡ p → ⊥) → ◌≡◌ {A = Set → ℕ → Bool} (sets q) (m.sets q))
      → Each CellOk no_cell 256 cs → Held m.ncells u.x u.label → SetsOk m.ncells sets
      → Goes (seen_cells r cs) (seen_worker (sets p) u) → Led (λ t. t) m (made_of m cs (set m.workers p u) r sets)
  went u cs r sets e f z o c h k a =
      let q = moved_view m p u in_ws cs r sets e f o in
      let kids = same_kids (step_effect (Range m.ncells) v.global (v.locals p) a) in
      record {
        shape = record {
          some = s.some;
          few = s.few;
          carried = s.carried;
          crew = s.crew;
          rounds = z.4;
          cells = c;
          workers = each_set (WorkerOk m.ncells) no_worker 9 m.workers p u (ap length e ∙ (s.workers.1 p in9).0, h, z.0, z.1, z.2, z.3) s.workers;
          sets = k;
        };
        cells_n = refl;
        crew_n = refl;
        leads = subst (Leads m.ncells m.nworkers (view m)) (sym q) (moves (step p i a));
        telling = ap tables q ∙ (λ j. record { roots = (view m).roots; boxes = (view m).box; children = kids j });
      }

  plain : (l : Label) → Held m.ncells w.x l → Goes C (goto W (stand_of l w)) → Led (λ t. t) m (goes m p l)
  plain l h a = went (at_label w l) m.cells m.round m.sets refl refl stk (λ q n. refl) s.cells h s.sets a

  -- a write to the cells with it
  wrote_cell : (l : Label) (x : ℕ) (q : Cell) → CellOk q → Held m.ncells w.x l → Goes (seen_cells m.round (set m.cells x q)) (goto W (stand_of l w)) → Led (λ t. t) m (goes (with_cell m x q) p l)
  wrote_cell l x q k h a = went (at_label w l) (set m.cells x q) m.round m.sets refl refl stk (λ z n. refl) (each_set CellOk no_cell 256 m.cells x q k s.cells) h s.sets a

  -- Take on check or start
  took_check : (x : ℕ) (l : Label) → Held m.ncells x l → Goes C (with_check W (upd W.check x false) (stand_of l (holding_x w x)))
      → Led (λ t. t) m (with_sets (with_worker m p (at_label (holding_x w x) l)) (struck m.sets p Check x))
  took_check x l h a =
      let u = at_label (holding_x w x) l in
      let q : with_check W (upd W.check x false) (stand_of l (holding_x w x)) ≡ seen_worker (struck m.sets p Check x p) u =
      sym (ap (λ (ss : Set → ℕ → Bool). seen_worker ss u) (at_set m.sets p Check (λ c. not (eqb c x) && m.sets p Check c))
      ∙ (λ j. record { own = w.own; label = stand_of l (holding_x w x); check = struck_is (m.sets p Check) x j; start = m.sets p Start; follow = m.sets p Follow; stack = W.stack })) in
      went u m.cells m.round (struck m.sets p Check x) refl refl stk (λ z n. off_set m.sets p Check _ z n) s.cells h (struck_ok m.ncells m.sets p Check x s.sets)
      (subst (Goes C) q a)

  took_start : (x : ℕ) (l : Label) → Held m.ncells x l → Goes C (with_start W W.check (upd W.start x false) (stand_of l (holding_x w x)))
      → Led (λ t. t) m (with_sets (with_worker m p (at_label (holding_x w x) l)) (struck m.sets p Start x))
  took_start x l h a =
      let u = at_label (holding_x w x) l in
      let q : with_start W W.check (upd W.start x false) (stand_of l (holding_x w x)) ≡ seen_worker (struck m.sets p Start x p) u =
      sym (ap (λ (ss : Set → ℕ → Bool). seen_worker ss u) (at_set m.sets p Start (λ c. not (eqb c x) && m.sets p Start c))
      ∙ (λ j. record { own = w.own; label = stand_of l (holding_x w x); check = m.sets p Check; start = struck_is (m.sets p Start) x j; follow = m.sets p Follow; stack = W.stack })) in
      went u m.cells m.round (struck m.sets p Start x) refl refl stk (λ z n. off_set m.sets p Start _ z n) s.cells h (struck_ok m.ncells m.sets p Start x s.sets)
      (subst (Goes C) q a)

  abbrev To : State → Type 0
  To k = Led (λ t. t) m k

  retold : (k : State) (m' : State) → m' ≡ k → To k → To m'
  retold k m' e l = subst To (sym e) l

  resets : (k m' : State) (t : Sets) → m' ≡ with_sets k m'.sets → m'.sets ≡ t → m' ≡ with_sets k t
  resets k m' t e f = e ∙ ap (with_sets k) f

  takes_check : (l l' : Label) (next : Label) (m' : State) → ((x : ℕ) → Range m.ncells x → Held m.ncells x l) → Held m.ncells w.x l'
      → ((x : ℕ) → InStep C W → Range m.ncells x → W.check x ≡ true → Goes C (with_check W (upd W.check x false) (stand_of l (holding_x w x))))
      → ((InStep C W → (x : ℕ) → Range m.ncells x → W.check x ≡ false) → Goes C (goto W (stand_of l' w)))
      → Draws Check holding_x l l' m p next m' → To m'
  takes_check l l' next m' hl hl' f g = when (in_step m p)
      (λ b h. taken b h.0 h.1)
      (λ b h. retold (goes m p l') m' h.0 (plain l' hl' (g (λ q. absurd (eq_no _ _ b q)))))
    where
      taken : (in_step m p ≡ true) → (o : Option ℕ) → Took m.sets p Check o m'.sets × (m' ≡ with_sets (drawn holding_x m p o l l') m'.sets) × (next ≡ next_of o l l') → To m'
      taken b None h = retold (goes m p l') m' (resets (goes m p l') m' m.sets h.1 h.0.1) (plain l' hl' (g (λ _ x _. h.0.0 x)))
      taken b (Some x) h = let r = s.sets p Check x h.0.0 in
          retold _ m' (resets (with_worker m p (at_label (holding_x w x) l)) m' (struck m.sets p Check x) h.1 h.0.1) (took_check x l (hl x r) (f x (eq_yes _ _ b) r h.0.0))

  takes_start : (l l' : Label) (next : Label) (m' : State) → ((x : ℕ) → Range m.ncells x → Held m.ncells x l) → Held m.ncells w.x l'
      → ((x : ℕ) → InStep C W → Range m.ncells x → W.start x ≡ true → Goes C (with_start W W.check (upd W.start x false) (stand_of l (holding_x w x))))
      → ((InStep C W → (x : ℕ) → Range m.ncells x → W.start x ≡ false) → Goes C (goto W (stand_of l' w)))
      → Draws Start holding_x l l' m p next m' → To m'
  takes_start l l' next m' hl hl' f g = when (in_step m p)
      (λ b h. taken b h.0 h.1)
      (λ b h. retold (goes m p l') m' h.0 (plain l' hl' (g (λ q. absurd (eq_no _ _ b q)))))
    where
      taken : (in_step m p ≡ true) → (o : Option ℕ) → Took m.sets p Start o m'.sets × (m' ≡ with_sets (drawn holding_x m p o l l') m'.sets) × (next ≡ next_of o l l') → To m'
      taken b None h = retold (goes m p l') m' (resets (goes m p l') m' m.sets h.1 h.0.1) (plain l' hl' (g (λ _ x _. h.0.0 x)))
      taken b (Some x) h = let r = s.sets p Start x h.0.0 in
          retold _ m' (resets (with_worker m p (at_label (holding_x w x) l)) m' (struck m.sets p Start x) h.1 h.0.1) (took_start x l (hl x r) (f x (eq_yes _ _ b) r h.0.0))

  pub all_ok : (k : Set) (t : Sets) → filled_with_all m p k t ≡ filled t p k m.ncells
  all_ok k t = ap (λ (b : Bool). cond b (filled t p k m.ncells) t) (all_taken m.top p m.ncells (i.0, (let a = i.1 in let b = s.crew in omega arith)) (s.some, s.carried))

  abbrev cells_all : ℕ → Bool
  cells_all c = in_range c m.ncells

  to121 : w.label ≡ L121 → To (goes (with_sets m (filled (filled m.sets p Check m.ncells) p Start m.ncells)) p L122)
  to121 e =
      let t1 = filled m.sets p Check m.ncells in let t2 = filled t1 p Start m.ncells in let u = at_label w L122 in
      let in1 = at_set m.sets p Check cells_all in
      let q : with_start W cells_all cells_all l122 ≡ seen_worker (t2 p) u =
      sym (ap (λ (ss : Set → ℕ → Bool). seen_worker ss u) (at_set t1 p Start cells_all)
      ∙ (λ j. record { own = w.own; label = l122; check = in1 j Check; start = cells_all; follow = in1 j Follow; stack = W.stack })) in
      went u m.cells m.round t2 refl refl stk (λ z n. off_set t1 p Start cells_all z n ∙ off_set m.sets p Check cells_all z n) s.cells tt
      (filled_ok m.ncells t1 p Start (filled_ok m.ncells m.sets p Check s.sets))
      (subst (Goes C) q (a121 cells_all (λ x r. range_in x m.ncells r) (ap (λ (l : Label). stand_of l w) e)))

  fresh_yes : (x : ℕ) → grey_and_fresh m p x ≡ true → GreyFresh C W x
  fresh_yes x e = let b = both (is_grey (cell m x).colour) (eqb (cell m x).round (w.own + 1)) e in (grey_is _ b.0, eq_yes _ _ b.1 ∙ add-one w.own)

  fresh_no : (x : ℕ) → grey_and_fresh m p x ≡ false → GreyFresh C W x → ⊥
  fresh_no x e h = not_both (is_grey (cell m x).colour) (eqb (cell m x).round (w.own + 1)) e (grey_so _ h.0) (let q = h.1 ∙ sym (add-one w.own) in grind arith)

  grey_in : (x : ℕ) → GreyFresh C W x → Range m.ncells x
  grey_in x h = v.global.inside x (λ e. let a = h.0 in grind arith)

  taken_all : (x : ℕ) → Range m.ncells x → takes m.top p x ≡ true
  taken_all x r = all_taken m.top p x (i.0, (let a = i.1 in let b = s.crew in omega arith)) (r.0, (let a = r.1 in let b = s.carried in omega arith))

  is_fresh : (x : ℕ) → GreyFresh C W x → grey_and_fresh m p x ≡ true
  is_fresh x g = bools (λ (b : Bool). grey_and_fresh m p x ≡ b → b ≡ true) (grey_and_fresh m p x) (λ t q. refl) (λ t q. absurd (fresh_no x t g)) refl

  is_free : (u : ℕ) (f : Father) → (parent f ≡ none) ⊎ (parent f ≡ under u) → unclaimed u f ≡ true
  is_free u f h = bools (λ (b : Bool). unclaimed u f ≡ b → b ≡ true) (unclaimed u f) (λ t q. refl) (λ t q. absurd (free_no u f t h)) refl

  abbrev past : List ℕ
  past = copies_from w (w.j + 1)

  took151 : W.label ≡ l151 w.x → (next : Label) (m' : State) → in_step m p ≡ true → (o : Option ℕ) → Took m.sets p Follow o m'.sets × (m' ≡ with_sets (drawn holding_w m p o L157 L168) m'.sets) × (next ≡ next_of o L157 L168) → To m'
  took151 lab next m' b None h = retold (goes m p L168) m' (resets (goes m p L168) m' m.sets h.1 h.0.1) (plain L168 tt (a151_none lab (λ _ z. h.0.0 z)))
  took151 lab next m' b (Some x) h =
      let u = at_label (holding_w w x) L157 in
      let q : with_walk W W.check (upd W.follow x false) W.stack (l157 w.x x) ≡ seen_worker (struck m.sets p Follow x p) u =
      sym (ap (λ (ss : Set → ℕ → Bool). seen_worker ss u) (at_set m.sets p Follow (λ c. not (eqb c x) && m.sets p Follow c))
      ∙ (λ j. record { own = w.own; label = l157 w.x x; check = m.sets p Check; start = m.sets p Start; follow = struck_is (m.sets p Follow) x j; stack = W.stack })) in
      retold _ m' (resets (with_worker m p u) m' (struck m.sets p Follow x) h.1 h.0.1)
      (went u m.cells m.round (struck m.sets p Follow x) refl refl stk (λ z n. off_set m.sets p Follow _ z n) s.cells tt (struck_ok m.ncells m.sets p Follow x s.sets)
      (subst (Goes C) q (a151_take lab (eq_yes _ _ b) h.0.0)))

  abbrev pushed : Worker
  pushed = at_label (at_copy (with_copies (with_stack w (w.depth + 1) (set w.stack w.depth w.w)) (cell m w.w).first (cell m w.w).places) 1) L158

  pushed157 : W.label ≡ l157 w.x w.w → GreyFresh C W w.w → (w.depth < 255) × (w.depth + 1 ≤ m.ncells) → To (with_worker m p pushed)
  pushed157 lab g d =
      let c = cell m w.w in let k = stk.0 in let d0 = d.0 in
      let st = stacked_push w.stack w.depth w.w (omega arith) in
      let cs = copies_whole c.places c.first in
      let q : with_walk W W.check W.follow (w.w ∷ W.stack) (l158 w.x w.w (copies (C.place w.w) 1 (C.first w.w))) ≡ seen_worker (m.sets p) pushed =
      (λ j. record { own = w.own; label = l158 w.x w.w (cs j); check = W.check; start = W.start; follow = W.follow; stack = sym st j }) in
      went pushed m.cells m.round m.sets refl refl (length-set w.stack w.depth w.w ∙ stk.0, stk.1, d.1, stk.3, stk.4) (λ z n. refl) s.cells tt s.sets (subst (Goes C) q (a157_go lab g))

  abbrev looked163 : Worker
  looked163 = at_label (at_copy w (w.j + 1)) L158

  claimed163 : W.label ≡ l163 w.x w.w w.y past → GreyFresh C W w.y → Free C w.w w.y → Range m.ncells w.y
      → To (with_worker (with_sets (with_cell m w.y (with_father (cell m w.y) (Under w.w))) (struck (added m.sets p Follow w.y) p Check w.y)) p looked163)
  claimed163 lab g f r =
      let y = w.y in let u = looked163 in let s1 = added m.sets p Follow y in let s2 = struck s1 p Check y in
      let q1 = at_set m.sets p Follow (λ c. eqb c y || m.sets p Follow c) in
      let q : seen_worker (s2 p) u ≡ with_walk W (upd W.check y false) (upd W.follow y true) W.stack (l158 w.x w.w past) =
      ap (λ (ss : Set → ℕ → Bool). seen_worker ss u) (at_set s1 p Check (λ c. not (eqb c y) && s1 p Check c))
      ∙ ((λ j. record { own = w.own; label = l158 w.x w.w past; check = λ c. not (eqb c y) && q1 j Check c; start = q1 j Start; follow = q1 j Follow; stack = W.stack })
      ∙ (λ j. record { own = w.own; label = l158 w.x w.w past; check = struck_is (m.sets p Check) y j; start = W.start; follow = put_is (m.sets p Follow) y j; stack = W.stack })) in
      went u (set m.cells y (with_father (cell m y) (Under w.w))) m.round s2 refl refl stk (λ z n. off_set s1 p Check _ z n ∙ off_set m.sets p Follow _ z n)
      (each_set CellOk no_cell 256 m.cells y (with_father (cell m y) (Under w.w)) (s.cells.1 y (in256 y r)) s.cells) tt
      (struck_ok m.ncells s1 p Check y (put_ok m.ncells m.sets p Follow y r s.sets))
      (subst (λ (d : Cells). Goes d (seen_worker (s2 p) u)) (sym (see_claim m.round m.cells y (in_cs y r) w.w)) (subst (Goes (claim C w.w y)) (sym q) (a163_claim lab g f)))

  pub steps : AllApart m.ncells (view m).workers → (l : Label) (next : Label) (m' : State) → w.label ≡ l → StepsAt l m p next m' → To m'
  steps aa Idle next m' e h = absurd h
  steps aa L101 next m' e h = takes_check L108 L121 next m' (λ x r. r) tt (λ x a r t. a101_take (ap (λ (l : Label). stand_of l w) e) a r t) (λ n. a101_none (ap (λ (l : Label). stand_of l w) e) n) h
  steps aa L108 next m' e h =
      let lab = ap (λ (l : Label). stand_of l w) e in
      let held : Range m.ncells w.x = subst (Held m.ncells w.x) e (s.workers.1 p in9).1 in
      retold (goes (scanning m p w.x) p L101) m' h.0 (cases (λ (k : State). To (goes k p L101)) (eqb (cell m w.x).round w.own) (with_cell m w.x (scanned (cell m w.x) w.own)) m
      (λ b. let o = s.cells.1 w.x (in256 w.x held) in wrote_cell L101 w.x (scanned (cell m w.x) w.own) (o.0, o.1, o.2, o.2, (let z = stk.3 in omega arith)) tt
      (subst (λ (d : Cells). Goes d (goto W l101)) (sym (see_scan m.round m.cells w.x (in_cs w.x held) w.own)) (a108_scan lab held (eq_yes _ _ b))))
      (λ b. plain L101 tt (a108_skip lab held (eq_no _ _ b))))
  steps aa L121 next m' e h = retold _ m' (h.0 ∙ ap (λ (t : Sets). goes (with_sets m t) p L122) (all_ok Start (filled_with_all m p Check m.sets) ∙ ap (λ (t : Sets). filled t p Start m.ncells) (all_ok Check m.sets))) (to121 e)
  steps aa L122 next m' e h = takes_start L126 L129 next m' (λ x r. r) tt (λ x a r t. a122_take (ap (λ (l : Label). stand_of l w) e) a r t) (λ n. a122_none (ap (λ (l : Label). stand_of l w) e) n) h
  steps aa L126 next m' e h =
      let lab = ap (λ (l : Label). stand_of l w) e in
      retold _ m' h.0 (cases (λ (k : Label). To (goes m p k)) (is_source (cell m w.x).father) L150 L122
      (λ b. plain L150 (subst (Held m.ncells w.x) e (s.workers.1 p in9).1) (a126_yes lab (source_is _ b))) (λ b. plain L122 tt (a126_no lab (source_not _ b))))
  steps aa L150 next m' e h =
      let x = w.x in let r : Range m.ncells x = subst (Held m.ncells x) e (s.workers.1 p in9).1 in
      let s1 = struck m.sets p Check x in let s2 = cleared s1 p Follow in let s3 = added s2 p Follow x in
      let u = at_label (with_stack w 0 w.stack) L151 in
      let q1 = at_set m.sets p Check (λ c. not (eqb c x) && m.sets p Check c) in let q2 = at_set s1 p Follow (λ c. false) in
      let q : seen_worker (s3 p) u ≡ with_walk W (upd W.check x false) (upd no_cells x true) [] (l151 x) =
      ap (λ (ss : Set → ℕ → Bool). seen_worker ss u) (at_set s2 p Follow (λ c. eqb c x || s2 p Follow c))
      ∙ ((λ j. record { own = w.own; label = l151 x; check = q2 j Check; start = q2 j Start; follow = λ c. eqb c x || q2 j Follow c; stack = [] })
      ∙ ((λ j. record { own = w.own; label = l151 x; check = q1 j Check; start = q1 j Start; follow = λ c. eqb c x || false; stack = [] })
      ∙ (λ j. record { own = w.own; label = l151 x; check = struck_is (m.sets p Check) x j; start = m.sets p Start; follow = put_is no_cells x j; stack = [] }))) in
      retold _ m' (h.0 ∙ ap (λ (b : Bool). with_sets (with_worker m p u) (cond b s3 s2)) (taken_all x r))
      (went u m.cells m.round s3 refl refl (stk.0, stk.1, omega arith, stk.3, stk.4) (λ z n. off_set s2 p Follow _ z n ∙ (off_set s1 p Follow _ z n ∙ off_set m.sets p Check _ z n)) s.cells tt
      (put_ok m.ncells s2 p Follow x r (cleared_ok m.ncells s1 p Follow (struck_ok m.ncells m.sets p Check x s.sets)))
      (subst (Goes C) (sym q) (a150 (ap (λ (l : Label). stand_of l w) e))))
  steps aa L151 next m' e h = when (in_step m p)
      (λ b k. took151 (ap (λ (l : Label). stand_of l w) e) next m' b k.0 k.1)
      (λ b k. retold (goes m p L168) m' k.0 (plain L168 tt (a151_none (ap (λ (l : Label). stand_of l w) e) (λ q. absurd (eq_no _ _ b q))))) h
  steps aa L157 next m' e h =
      let lab = ap (λ (l : Label). stand_of l w) e in
      when (grey_and_fresh m p w.w)
      (λ b k. let g = fresh_yes w.w b in
      let l = room m.ncells C W w.x w.w v.global lab (aa p) g in
      let d : w.depth < 255 = (let z = stacked_length w.stack w.depth in let y = s.few in omega arith) in
      retold _ m' (k.0 ∙ ap (λ (t : Bool). with_worker m p (at_label (at_copy (with_copies (cond t (with_stack w (w.depth + 1) (set w.stack w.depth w.w)) w) (cell m w.w).first (cell m w.w).places) 1) L158)) (yes_less _ _ d))
      (pushed157 lab g (d, (let z = stacked_length w.stack w.depth in omega arith))))
      (λ b k. retold _ m' k.0 (plain L151 tt (a157_no lab (fresh_no w.w b)))) h
  steps aa L158 next m' e h =
      let lab = ap (λ (l : Label). stand_of l w) e in
      when (copy_left m p)
      (λ b k. let c = both (in_step m p) (leb w.j w.copied) b in let ins = eq_yes _ _ c.0 in
      let lab2 = lab ∙ ap (l158 w.x w.w) (rest_next w (at_most_yes _ _ c.1)) in
      retold _ m' k.0 (bools (λ (k : Bool). To (looked m p k)) (m.sets p Check (copy w))
      (λ t. went (at_label (holding_y w (copy w)) L163) m.cells m.round m.sets refl refl stk (λ z n. refl) s.cells tt s.sets (a158_in lab2 ins t))
      (λ t. went (at_label (at_copy (holding_y w (copy w)) (w.j + 1)) L158) m.cells m.round m.sets refl refl stk (λ z n. refl) s.cells tt s.sets (a158_out lab2 ins t))))
      (λ b k. retold _ m' k.0 (plain L151 tt (a158_end lab
      (λ q. ap (copies (λ i. get_or w.copies (i - 1) 0) w.j) (at_most_no w.j w.copied (λ t. not_both (in_step m p) (leb w.j w.copied) b (grind arith) t)))))) h
  steps aa L163 next m' e h =
      let lab = ap (λ (l : Label). stand_of l w) e in let y = w.y in
      retold _ m' h.0 (cases (λ (k : State). To (with_worker k p looked163)) (claims m p) (claimed m p y) m
      (λ b. let c = both (grey_and_fresh m p y) (unclaimed w.w (cell m y).father) b in let g = fresh_yes y c.0 in let r = grey_in y g in
      retold _ _ (ap (λ (t : Bool). with_worker (with_sets (with_cell m y (with_father (cell m y) (Under w.w))) (struck (cond t (added m.sets p Follow y) m.sets) p Check y)) p looked163) (taken_all y r))
      (claimed163 lab g (free_yes w.w _ c.1) r))
      (λ b. went looked163 m.cells m.round m.sets refl refl stk (λ z n. refl) s.cells tt s.sets
      (a163_no lab (λ g f. not_both (grey_and_fresh m p y) (unclaimed w.w (cell m y).father) b (is_fresh y g) (is_free w.w _ f)))))
  steps aa L168 next m' e h =
      let lab = ap (λ (l : Label). stand_of l w) e in
      when (stack_left m p)
      (λ b k. let c = both (in_step m p) (ltb 0 w.depth) b in
      retold _ m' k.0 (went (at_label (unstacked w) L175) m.cells m.round m.sets refl refl (stk.0, stk.1, (let z = stk.2 in omega arith), stk.3, stk.4) (λ z n. refl) s.cells tt s.sets (a168_pop lab (eq_yes _ _ c.0) (stack_top w.stack w.depth (positive _ c.1)))))
      (λ b k. retold _ m' k.0 (plain L180 tt (a168_none lab (λ q. ap (stacked w.stack) (nought w.depth (λ t. not_both (in_step m p) (ltb 0 w.depth) b (grind arith) t)))))) h
  steps aa L175 next m' e h =
      let lab = ap (λ (l : Label). stand_of l w) e in
      retold _ m' h.0 (cases (λ (k : State). To (goes k p L168)) (grey_and_fresh m p w.y) (with_cell m w.y (painted (cell m w.y))) m
      (λ b. let g = fresh_yes w.y b in let r = grey_in w.y g in let o = s.cells.1 w.y (in256 w.y r) in
      wrote_cell L168 w.y (painted (cell m w.y)) (o.0, (let c = o.1 in omega arith), o.2, o.3, o.4) tt
      (subst (λ (d : Cells). Goes d (goto W (l168 w.x))) (sym (see_paint m.round m.cells w.y (in_cs w.y r))) (a175_paint lab g)))
      (λ b. plain L168 tt (a175_no lab (fresh_no w.y b))))
  steps aa L180 next m' e h = retold _ m' h.0 (plain L122 tt (a180 (ap (λ (l : Label). stand_of l w) e)))
  steps aa L129 next m' e h = takes_check L134 L135 next m' (λ x r. tt) tt (λ x a r t. a129_take (ap (λ (l : Label). stand_of l w) e) a r t) (λ n. a129_none (ap (λ (l : Label). stand_of l w) e) n) h
  steps aa L134 next m' e h =
      let lab = ap (λ (l : Label). stand_of l w) e in
      retold _ m' h.0 (cases (λ (k : State). To (goes k p L129)) (grey_and_fresh m p w.x) (with_cell m w.x (with_colour (cell m w.x) White)) m
      (λ b. let g = fresh_yes w.x b in let r = grey_in w.x g in
      wrote_cell L129 w.x (with_colour (cell m w.x) White) (s.cells.1 w.x (in256 w.x r)) tt
      (subst (λ (d : Cells). Goes d (goto W l129)) (sym (see_white m.round m.cells w.x (in_cs w.x r))) (a134_white lab g)))
      (λ b. plain L129 tt (a134_no lab (fresh_no w.x b))))
  steps aa L135 next m' e h =
      let lab = ap (λ (l : Label). stand_of l w) e in
      retold _ m' h.0 (cases (λ (k : State). To (goes k p L137)) (in_step m p) (with_round m (m.round + 1)) m
      (λ b. went (at_label w L137) m.cells (m.round + 1) m.sets refl refl (stk.0, stk.1, stk.2, stk.3, (let z = stk.3 in let q = eq_yes _ _ b in omega arith)) (λ z n. refl) s.cells tt s.sets
      (subst (λ (r : ℕ). Goes (seen_cells r m.cells) (goto W l137)) (sym (add-one m.round)) (a135_turn lab (eq_yes _ _ b))))
      (λ b. plain L137 tt (a135_no lab (eq_no _ _ b))))
  steps aa L137 next m' e h = retold _ m' h.0 (plain Idle tt (a137 (ap (λ (l : Label). stand_of l w) e)))
