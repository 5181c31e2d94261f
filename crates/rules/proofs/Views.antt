-- A write to a table, seen as functions.
use Rattle.std.proofs.Common.{◌≡◌, ℕ, ◌<◌, Bool, false, List, length, get_or, set, sym, ap, ◌∙◌, inl, inr, get_or-set_other, get_or-set_same}
use mathlib.Core.Path.{fun_ext}
use Rattle.lists.specs.Sets.{Sets}
use Rattle.lists.specs.declared.waiting.Set.{Set}
use Rattle.rules.specs.declared.cell.Cell.{Cell}
use Rattle.rules.specs.declared.worker.Worker.{Worker}
use Rattle.rules.specs.Cells.{no_cell}
use Rattle.rules.specs.Workers.{no_worker}
use Rattle.rules.specs.States.{State, worker}
use Rattle.rules.proofs.Seen.{shade, parent, seen_worker, seen_cells, seen_workers, root_of, box_of, view}
use Rattle.rules.proofs.Heap.{upd, Cells}
use Rattle.rules.proofs.From1.{from1}
use Rattle.rules.proofs.Moves.{moved, called}
use Rattle.rules.proofs.Basics.{upd_other, same?, upd_at}

pub wrote : {A B : Type 0} (xs : List A) (d : A) (k : ℕ) (v : A) → k < length xs → (f : ℕ → A → B) → ◌≡◌ {A = ℕ → B} (λ z. f z (get_or (set xs k v) z d)) (upd (λ z. f z (get_or xs z d)) k (f k v))
wrote xs d k v h f = fun_ext (λ z. elim (same? z k) [
  | inl p ↦ ap (f z) (ap (λ (y : ℕ). get_or (set xs k v) y d) p ∙ get_or-set_same xs k v d h) ∙ (ap (λ (y : ℕ). f y v) p ∙ sym (upd_at (λ y. f y (get_or xs y d)) k (f k v) z p))
  | inr n ↦ ap (f z) (get_or-set_other xs k z v d n) ∙ sym (upd_other (λ y. f y (get_or xs y d)) k (f k v) z n)
])

pub upd_same : {A : Type 0} (f : ℕ → A) (k : ℕ) (v : A) → v ≡ f k → ◌≡◌ {A = ℕ → A} (upd f k v) f
upd_same f k v e = fun_ext (λ z. elim (same? z k) [ inl p ↦ upd_at f k v z p ∙ (e ∙ ap f (sym p)) | inr n ↦ upd_other f k v z n ])

-- two functions that agree but at k, written at k
pub upd_off : {A : Type 0} (f g : ℕ → A) (k : ℕ) (v : A) → ((z : ℕ) → (z ≡ k → ⊥) → f z ≡ g z) → ◌≡◌ {A = ℕ → A} (upd f k v) (upd g k v)
upd_off f g k v e = fun_ext (λ z. elim (same? z k) [ inl p ↦ upd_at f k v z p ∙ sym (upd_at g k v z p) | inr n ↦ upd_other f k v z n ∙ (e z n ∙ sym (upd_other g k v z n)) ])

abbrev pub put : Cells → ℕ → Cell → Cells
put c k v = record {
  colour = upd c.colour k (shade v.colour);
  arity = upd c.arity k v.arity;
  place = upd c.place k (from1 v.places 0);
  sources = upd c.sources k v.sources;
  putoff = upd c.putoff k v.putoff;
  first = upd c.first k v.first;
  round = upd c.round k v.round;
  father = upd c.father k (parent v.father);
  rnd = c.rnd;
}

pub seen_put : (r : ℕ) (xs : List Cell) (k : ℕ) (v : Cell) → k < length xs → seen_cells r (set xs k v) ≡ put (seen_cells r xs) k v
seen_put r xs k v h = λ i. record {
  colour = wrote xs no_cell k v h (λ _ q. shade q.colour) i;
  arity = wrote xs no_cell k v h (λ _ q. q.arity) i;
  place = wrote xs no_cell k v h (λ _ q. from1 q.places 0) i;
  sources = wrote xs no_cell k v h (λ _ q. q.sources) i;
  putoff = wrote xs no_cell k v h (λ _ q. q.putoff) i;
  first = wrote xs no_cell k v h (λ _ q. q.first) i;
  round = wrote xs no_cell k v h (λ _ q. q.round) i;
  father = wrote xs no_cell k v h (λ _ q. parent q.father) i;
  rnd = r;
}

abbrev pub made_of : State → List Cell → List Worker → ℕ → Sets → State
made_of m cs ws r sets = record { cells = cs; workers = ws; ncells = m.ncells; nworkers = m.nworkers; round = r; sets = sets; top = m.top }

module _ (m : State) (p : ℕ) (w : Worker) (h : p < length m.workers) (cs : List Cell) (r : ℕ) where
  -- a step of p: its record, its sets and the cells
  pub moved_view : (sets : Sets) → w.roots ≡ (worker m p).roots → w.boxes ≡ (worker m p).boxes → ((q : ℕ) → (q ≡ p → ⊥) → ◌≡◌ {A = Set → ℕ → Bool} (sets q) (m.sets q))
      → view (made_of m cs (set m.workers p w) r sets) ≡ moved (view m) (seen_cells r cs) (upd (view m).workers p (seen_worker (sets p) w))
  moved_view sets e f o = λ i. record {
    cells = seen_cells r cs;
    workers = (wrote m.workers no_worker p w h (λ z v. seen_worker (sets z) v)
        ∙ upd_off (seen_workers sets m.workers) (seen_workers m.sets m.workers) p (seen_worker (sets p) w) (λ z n. ap (λ (s : Set → ℕ → Bool). seen_worker s (worker m z)) (o z n))) i;
    roots = (wrote m.workers no_worker p w h (λ _ v. root_of v) ∙ upd_same (λ z. root_of (worker m z)) p (root_of w) (ap (λ (rs : List Bool). λ x. get_or rs x false) e)) i;
    box = (wrote m.workers no_worker p w h (λ _ v. box_of v) ∙ upd_same (λ z. box_of (worker m z)) p (box_of w) (ap (λ (bs : List ℕ). λ x. get_or bs x 0) f)) i;
  }

  -- a call of p: its roots and the cells
  pub rooted_view : (x : ℕ) (b : Bool) → x < length (worker m p).roots → w.roots ≡ set (worker m p).roots x b → w.boxes ≡ (worker m p).boxes → seen_worker (m.sets p) w ≡ seen_worker (m.sets p) (worker m p)
      → view (made_of m cs (set m.workers p w) r m.sets) ≡ called (view m) (seen_cells r cs) (upd (view m).roots p (upd ((view m).roots p) x b)) (view m).box
  rooted_view x b l e f k = λ i. record {
    cells = seen_cells r cs;
    workers = (wrote m.workers no_worker p w h (λ z v. seen_worker (m.sets z) v) ∙ upd_same (view m).workers p (seen_worker (m.sets p) w) k) i;
    roots = (wrote m.workers no_worker p w h (λ _ v. root_of v)
        ∙ ap (upd (view m).roots p) (ap (λ (rs : List Bool). λ y. get_or rs y false) e ∙ wrote (worker m p).roots false x b l (λ _ v. v))) i;
    box = (wrote m.workers no_worker p w h (λ _ v. box_of v) ∙ upd_same (λ z. box_of (worker m z)) p (box_of w) (ap (λ (bs : List ℕ). λ y. get_or bs y 0) f)) i;
  }

  -- a call of p: its boxes and the cells
  pub boxed_view : (q x : ℕ) → q < length (worker m p).boxes → w.boxes ≡ set (worker m p).boxes q x → w.roots ≡ (worker m p).roots → seen_worker (m.sets p) w ≡ seen_worker (m.sets p) (worker m p)
      → view (made_of m cs (set m.workers p w) r m.sets) ≡ called (view m) (seen_cells r cs) (view m).roots (upd (view m).box p (upd ((view m).box p) q x))
  boxed_view q x l e f k = λ i. record {
    cells = seen_cells r cs;
    workers = (wrote m.workers no_worker p w h (λ z v. seen_worker (m.sets z) v) ∙ upd_same (view m).workers p (seen_worker (m.sets p) w) k) i;
    roots = (wrote m.workers no_worker p w h (λ _ v. root_of v) ∙ upd_same (λ z. root_of (worker m z)) p (root_of w) (ap (λ (rs : List Bool). λ x. get_or rs x false) f)) i;
    box = (wrote m.workers no_worker p w h (λ _ v. box_of v)
        ∙ ap (upd (view m).box p) (ap (λ (bs : List ℕ). λ y. get_or bs y 0) e ∙ wrote (worker m p).boxes 0 q x l (λ _ v. v))) i;
  }
