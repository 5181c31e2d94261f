-- The laws hold of one moment more.
use Rattle.std.proofs.Common.{◌≡◌, ℕ, zero, suc, ◌+◌, ◌<◌, ◌≤◌, Bool, true, false, eqb, ◌⊎◌, List, [], ◌∷◌, length, get_or, replicate, sym, refl, ap, ◌∙◌, subst, inl, inr, arith}
use mathlib.Core.Path.{fun_ext}
use Rattle.std.proofs.lemmas.Bool.Decides.{leb_tells}
use Rattle.rules.specs.declared.cell.Colour.{Colour}
use Rattle.rules.specs.declared.cell.Colour.TheVariants.{White, Black, Grey}
use Rattle.rules.specs.States.{State, cell, worker}
use Rattle.rules.proofs.Seen.{view, shade}
use Rattle.rules.specs.Laws.{Told, Live, by_root, by_box, by_child, Moment, moment, LiveAt, DeadAt, FreeAt, NoFreeCellLive, CountsBalance, AtMoment, AtEveryMoment, here, before, FreedBetween, FreedAfterRises, one, sum}
use Rattle.rules.specs.Limits.{CountsWithin, ChildrenWithin, StacksFit, RoundsWithin}
use Rattle.rules.proofs.Shape.{Shape, CellOk, WorkerOk}
use Rattle.rules.proofs.Led.{tables, Leads, stays, moves, Led, led_same}
use Rattle.rules.proofs.Heap.{white, Is}
use Rattle.rules.proofs.Moves.{View, Range, Live as Lives, live_root, live_box, live_child}
use Rattle.rules.proofs.Invariant.{Inv, bit, sum as total, root_count, box_count}
use Rattle.rules.proofs.Dying.{Track}
use Rattle.rules.proofs.Copies.{copies}
use Rattle.rules.proofs.WalkerInvariant.{Mem}
use lib.ListN.{get_or-replicate}
use Rattle.rules.specs.Cells.{no_cell}
use Rattle.rules.specs.Workers.{no_worker}
use Rattle.rules.specs.declared.cell.Cell.{Cell}
use Rattle.rules.proofs.Seen.{stand_of}
use Rattle.rules.specs.Cells.{free}
use Rattle.rules.specs.Workers.{resting}
use Rattle.rules.specs.States.{opened}
use Rattle.rules.specs.Laws.{nothing}
use Rattle.graph.specs.Nets.{Within}
use Rattle.rules.proofs.Walkers.{idle}
use Rattle.rules.proofs.Moves.{Starts}
use Rattle.rules.proofs.Safety.{starts_inv}
use Rattle.rules.proofs.Apart.{ApartAt, AllApart, apart_move}
use Rattle.rules.proofs.Mover.{mem_copies}
use Rattle.rules.proofs.Safety.{live_kept, move_kept}
use Rattle.rules.proofs.Promptness.{Still, track_here, track_move, track_weaken}

-- live by the tables, and live in the theory

into_copies : (at : ℕ → ℕ) (k n j : ℕ) → k ≤ j → j < k + n → Mem (at j) (copies at k n)
into_copies at k zero j l h = absurd (omega arith)
into_copies at k (suc n) j l h = elim (leb_tells j k)
    [ inl a ↦ (let a1 = a.1 in inl (ap at (omega arith))) | inr a ↦ (let a1 = a.1 in inr (into_copies at (suc k) n j (omega arith) (omega arith))) ]

module _ (n w : ℕ) (s : View) (v : Inv n w s) where
  lives : {x : ℕ} → Live w (tables s) x → Lives w s x
  lives (by_root {x} p i e) = live_root p i e (v.roots_low p x e)
  lives (by_box p r i j e l) = live_box p r i j e l
  lives (by_child {x} {z} a b) = live_child (lives a) (let r = mem_copies (s.cells.place x) 1 (s.cells.arity x) z b in
      record { at = r.0; low = r.1; high = (let h = r.2 in omega arith); here = r.3 })

  told_live : {x : ℕ} → Lives w s x → Live w (tables s) x
  told_live (live_root p i e l) = by_root p i e
  told_live (live_box p r i j e l) = by_box p r i j e l
  told_live (live_child {x} {z} a b) = by_child (told_live a) (subst (λ (y : ℕ). Mem y (copies (s.cells.place x) 1 (s.cells.arity x))) b.here
      (let l = b.low in let h = b.high in into_copies (s.cells.place x) 1 (s.cells.arity x) b.at l (omega arith)))

shade_white : (c : Colour) → shade c ≡ white → c ≡ White
shade_white White e = refl
shade_white Black e = absurd (grind arith)
shade_white Grey e = absurd (grind arith)

white? : (c : Colour) → (c ≡ White) ⊎ (c ≡ White → ⊥)
white? White = inl refl
white? Black = inr (λ e. grind arith)
white? Grey = inr (λ e. grind arith)

-- moments
pub at_low : {ms : List Moment} {i : ℕ} {a : Moment} → AtMoment ms i a → i < length ms
at_low here = omega arith
at_low (before p) = let l = at_low p in omega arith

abbrev Since : List Moment → ℕ → Moment → ℕ → Type 0
Since ms i a z = (LiveAt a z → ⊥) × ((j : ℕ) (b : Moment) → i ≤ j → AtMoment ms j b → FreeAt b z → ⊥)

abbrev Found : List Moment → ℕ → ℕ → Type 0
Found ms i x = (j : ℕ) × (b : Moment) × (AtMoment ms j b) × (i ≤ j) × FreeAt b x

other : {a b : Moment} {ms : List Moment} (i x : ℕ) {j : ℕ} → ((j : ℕ) (b : Moment) → i ≤ j → AtMoment ms j b → FreeAt b x → ⊥) → (FreeAt a x → ⊥) → i ≤ j → AtMoment (a ∷ ms) j b → FreeAt b x → ⊥
other i x none bad q here e = bad e
other i x {j} none bad q (before {m} p) e = none j m q p e

find : (ms : List Moment) (i x : ℕ) → Found ms i x ⊎ ((j : ℕ) (b : Moment) → i ≤ j → AtMoment ms j b → FreeAt b x → ⊥)
find [] i x = inr (λ j b l p e. let h = at_low p in omega arith)
find (a ∷ ms) i x = elim (find ms i x) [
  | inl f ↦ inl (f.0, f.1, before f.2, f.3, f.4)
  | inr none ↦ elim (white? (cell a.store x).colour) [
    | inl e ↦ elim (leb_tells i (length ms)) [
      | inl l ↦ inl (length ms, a, here, l.1, e)
      | inr l ↦ inr (λ j b q p e'. let h = at_low p in let l1 = l.1 in omega arith)
    ]
    | inr e ↦ inr (λ j b q p e'. other i x none e q p e')
  ]
]

-- a store's numbers are within their limits
abbrev pub Bounded : Moment → Type 0
Bounded m = CountsWithin 65535 m × ChildrenWithin 8 m × StacksFit m × RoundsWithin 4294967294 m

-- the laws and the limits
pub record Laws (ms : List Moment) : Type 0 where
  pub safe : AtEveryMoment NoFreeCellLive ms
  pub balanced : AtEveryMoment CountsBalance ms
  pub prompt : FreedAfterRises 3 ms
  pub bounded : AtEveryMoment Bounded ms

-- all that is known along a history
pub record Good (ms : List Moment) (t : Told) (m : State) : Type 0 where
  pub shape : Shape m
  pub inv : Inv m.ncells m.nworkers (view m)
  pub apart : AllApart m.ncells (view m).workers
  pub tells : t ≡ tables (view m)
  pub laws : Laws ms
  pub track : {i : ℕ} {a : Moment} → AtMoment ms i a → Track m.nworkers a.store.round (Since ms i a) (view m)

newest : {a b : Moment} {ms : List Moment} {j : ℕ} (z : ℕ) → (FreeAt a z → ⊥) → length ms ≤ j → AtMoment (a ∷ ms) j b → FreeAt b z → ⊥
newest z bad q here e = bad e
newest z bad q (before p) e = let l = at_low p in omega arith

bit_one : (b : Bool) → bit b ≡ one b
bit_one true = refl
bit_one false = refl

sum_same : (f g : ℕ → ℕ) → ((p : ℕ) → f p ≡ g p) → (n : ℕ) → total f n ≡ sum g n
unfolding total
sum_same f g e zero = refl
sum_same f g e (suc n) = let a = sum_same f g e n in let b = e (suc n) in omega arith

held_same : (n : ℕ) (roots : ℕ → ℕ → Bool) (box : ℕ → ℕ → ℕ) (x : ℕ) → root_count n roots x + box_count n box x ≡ sum (λ p. one (roots p x)) n + sum (λ p. sum (λ r. one (eqb (box p r) x)) n) n
held_same n roots box x =
    let a = sum_same (λ p. bit (roots p x)) (λ p. one (roots p x)) (λ p. bit_one (roots p x)) n in
    let b = sum_same (λ p. total (λ r. bit (eqb (box p r) x)) n) (λ p. sum (λ r. one (eqb (box p r) x)) n) (λ p. sum_same (λ r. bit (eqb (box p r) x)) (λ r. one (eqb (box p r) x)) (λ r. bit_one (eqb (box p r) x)) n) n in
    omega arith

module _ (m : State) (v : Inv m.ncells m.nworkers (view m)) where
  abbrev now : Moment
  now = moment (tables (view m)) m

  limits_now : Shape m → Bounded now
  limits_now s =
      let c : (x : ℕ) → Range m.ncells x → CellOk (cell m x) = (λ x r. s.cells.1 x (let a = r.1 in let b = s.few in omega arith)) in
      let w : (p : ℕ) → Range m.nworkers p → WorkerOk m.ncells (worker m p) = (λ p i. s.workers.1 p (let a = i.1 in let b = s.crew in omega arith)) in (
        (λ x r. ((c x r).1, (let b = v.balance x r.0 in omega arith))),
        (λ x r. ((c x r).2, (c x r).3)),
        (λ p i. (w p i).4),
        (s.rounds, (λ x r. (c x r).4), (λ p i. let o = (w p i).5 in omega arith)),
      )

  safe_now : NoFreeCellLive now
  safe_now x a e = live_kept m.ncells m.nworkers (view m) v (lives m.ncells m.nworkers (view m) v a) (ap shade e)

  balanced_now : CountsBalance now
  balanced_now x r = v.balance x r.0 ∙ ap (λ (k : ℕ). (cell m x).putoff + k) (held_same m.nworkers (view m).roots (view m).box x)

  track_now : (ms : List Moment) → Track m.nworkers m.round (Since (now ∷ ms) (length ms) now) (view m)
  track_now ms = track_weaken m.nworkers m.round (λ z. (Lives m.nworkers (view m) z → ⊥) × (Is (view m).cells white z → ⊥)) (Since (now ∷ ms) (length ms) now) (view m)
      (λ z d. (λ a. d.0 (lives m.ncells m.nworkers (view m) v a), λ j b q p e. newest z (λ e2. d.1 (ap shade e2)) q p e))
      (λ z d. (λ a. d.0 (told_live m.ncells m.nworkers (view m) v a), λ e. d.1 (length ms) now (omega arith) here (shade_white _ e)))
      (track_here m.ncells m.nworkers (view m) v)

track_on : (n w r : ℕ) (D : ℕ → Type 0) {s u : View} → Inv n w s → Track w r D s → Leads n w s u → Track w r (Still D u.cells) u
track_on n w r D {s} v t stays = track_weaken w r D (Still D s.cells) s (λ z d. (d, t.nonwhite z d)) (λ z d. d.0) t
track_on n w r D v t (moves a) = track_move n w r D v t a

inv_on : (n w : ℕ) {s u : View} → Inv n w s → Leads n w s u → Inv n w u
inv_on n w v stays = v
inv_on n w v (moves a) = move_kept n w v a

apart_on : (n w : ℕ) {s u : View} → Inv n w s → Leads n w s u → AllApart n s.workers → AllApart n u.workers
apart_on n w v stays h = h
apart_on n w v (moves a) h = apart_move n w v a h

at_all : {ms : List Moment} {new : Moment} (P : Moment → Type 0) → P new → ((i : ℕ) (a : Moment) → AtMoment ms i a → P a) → {i : ℕ} {a : Moment} → AtMoment (new ∷ ms) i a → P a
at_all P n o here = n
at_all P n o {i} {a} (before p) = o i a p

later : {ms : List Moment} {new : Moment} {i k x : ℕ} → FreedBetween ms i k x → FreedBetween (new ∷ ms) i k x
later f = record { when = f.when; then = f.then; is = before f.is; from = f.from; by = f.by; free = f.free }

prompt_on : {ms : List Moment} {new : Moment} → Laws ms
    → ((i : ℕ) (a : Moment) → AtMoment (new ∷ ms) i a → (x : ℕ) → (LiveAt a x → ⊥) → a.store.round + 3 ≤ new.store.round → FreedBetween (new ∷ ms) i (length ms) x)
    → {i k : ℕ} {a b : Moment} → AtMoment (new ∷ ms) i a → AtMoment (new ∷ ms) k b → i ≤ k → (x : ℕ) → DeadAt a x → a.store.round + 3 ≤ b.store.round → FreedBetween (new ∷ ms) i k x
prompt_on l nw {i} {a} p here le x d h = nw i a p x d.1 h
prompt_on l nw here (before q) le x d h = absurd (let c = at_low q in omega arith)
prompt_on l nw {i} {k} {a} {b} (before p) (before q) le x d h = later (l.prompt i k a b p q le x d h)

module _ (f : Told → Told) (ms : List Moment) (t : Told) (m m' : State) (g : Good ms t m) (l : Led f m m') where
  inv' : Inv m'.ncells m'.nworkers (view m')
  inv' = subst (λ (n : ℕ). Inv n m'.nworkers (view m')) (sym l.cells_n) (subst (λ (w : ℕ). Inv m.ncells w (view m')) (sym l.crew_n) (inv_on m.ncells m.nworkers g.inv l.leads))

  abbrev new : Moment
  new = moment (tables (view m')) m'

  old_track : {i : ℕ} {a : Moment} → AtMoment ms i a → Track m'.nworkers a.store.round (Since (new ∷ ms) i a) (view m')
  old_track {i} {a} p = subst (λ (w : ℕ). Track w a.store.round (Since (new ∷ ms) i a) (view m')) (sym l.crew_n)
      (track_weaken m.nworkers a.store.round (Still (Since ms i a) (view m').cells) (Since (new ∷ ms) i a) (view m')
      (λ z d. (d.0.0, λ j b q p2 e. other i z d.0.1 (λ e2. d.1 (ap shade e2)) q p2 e))
      (λ z d. ((d.0, λ j b q p2 e. d.1 j b q (before p2) e), λ e. d.1 (length ms) new (let c = at_low p in omega arith) here (shade_white _ e)))
      (track_on m.ncells m.nworkers a.store.round (Since ms i a) g.inv (g.track p) l.leads))

  all_track : {i : ℕ} {a : Moment} → AtMoment (new ∷ ms) i a → Track m'.nworkers a.store.round (Since (new ∷ ms) i a) (view m')
  all_track here = track_now m' inv' ms
  all_track (before p) = old_track p

  newest_prompt : {i : ℕ} {a : Moment} → AtMoment (new ∷ ms) i a → (x : ℕ) → (LiveAt a x → ⊥) → a.store.round + 3 ≤ m'.round → FreedBetween (new ∷ ms) i (length ms) x
  newest_prompt {i} {a} p x d h = elim (find (new ∷ ms) i x) [
    | inl u ↦ record { when = u.0; then = u.1; is = u.2; from = u.3; by = (let c = at_low u.2 in omega arith); free = u.4 }
    | inr u ↦ absurd ((all_track p).line3 h x (d, u))
  ]

  next_laws : Laws (new ∷ ms)
  next_laws = record { safe = λ i a p. at_all NoFreeCellLive (safe_now m' inv') g.laws.safe p; balanced = λ i a p. at_all CountsBalance (balanced_now m' inv') g.laws.balanced p; bounded = λ i a p. at_all Bounded (limits_now m' inv' l.shape) g.laws.bounded p; prompt = λ i k a b p q le x d h. prompt_on g.laws (λ i a r. newest_prompt r) p q le x d h }

  next_good : Good (new ∷ ms) (tables (view m')) m'
  next_good = record { shape = l.shape; inv = inv'; apart = subst (λ (n : ℕ). AllApart n (view m').workers) (sym l.cells_n) (apart_on m.ncells m.nworkers g.inv l.leads g.apart); tells = refl; laws = next_laws; track = all_track }

  pub extend : Good (moment (f t) m' ∷ ms) (f t) m'
  extend = subst (λ (u : Told). Good (moment u m' ∷ ms) u m') (l.telling ∙ ap f (sym g.tells)) next_good

-- the first moment

every : {A B : Type 0} (f : A → B) (b : B) (n : ℕ) (a d : A) → f a ≡ b → f d ≡ b → (k : ℕ) → f (get_or (replicate n a) k d) ≡ b
every f b zero a d e g k = g
every f b (suc n) a d e g zero = e
every f b (suc n) a d e g (suc k) = every f b n a d e g k

pub none_at : {A : Type 0} (d : A) (n k : ℕ) → get_or (replicate n d) k d ≡ d
none_at d n k = every (λ v. v) d n d d refl refl k

first_shape : (n w r top : ℕ) → Within 255 n → n ≤ top → Within 8 w → Within 4294967294 r → Shape (opened n w r top)
first_shape n w r top a b c d = record {
  some = a.0;
  few = a.1;
  carried = b;
  crew = c.1;
  rounds = d.1;
  cells = (refl, λ k h. subst CellOk (sym (get_or-replicate 256 k (free r) no_cell h)) (refl, omega arith, omega arith, omega arith, d.1));
  workers = (refl, λ k h. subst (WorkerOk n) (sym (get_or-replicate 9 k resting no_worker h)) (refl, tt, refl, refl, omega arith, omega arith));
  sets = λ p k c e. absurd (let z : ◌≡◌ {A = Bool} false true = e in grind arith);
}

round_low : (r n k : ℕ) → (get_or (replicate n (free r)) k no_cell).round ≤ r
round_low r zero k = omega arith
round_low r (suc n) zero = omega arith
round_low r (suc n) (suc k) = round_low r n k

first_starts : (n w r top : ℕ) → Within 255 n → n ≤ top → Within 8 w → Within 4294967294 r → Starts n (view (opened n w r top))
first_starts n w r top a b c d = record {
  all_white = λ x. every (λ c. shade c.colour) white 256 (free r) no_cell refl refl x;
  no_source = λ x. every (λ c. c.sources) 0 256 (free r) no_cell refl refl x;
  no_putoff = λ x. every (λ c. c.putoff) 0 256 (free r) no_cell refl refl x;
  rounds = λ x. round_low r 256 x;
  rounds_in = λ x i. ap (λ (c : Cell). c.round) (get_or-replicate 256 x (free r) no_cell (let i1 = i.1 in let e = a.1 in omega arith));
  all_idle = λ p. every (λ v. stand_of v.label v) idle 9 resting no_worker refl refl p;
  own = λ p. every (λ v. v.own) 0 9 resting no_worker refl refl p;
  no_root = λ p x. every (λ v. get_or v.roots x false) false 9 resting no_worker (none_at false 256 x) refl p;
  no_box = λ p q. every (λ v. get_or v.boxes q 0) 0 9 resting no_worker (none_at 0 9 q) refl p;
}

first_tells : (n w r top : ℕ) → nothing ≡ tables (view (opened n w r top))
first_tells n w r top =
    let a : (p : ℕ) → ◌≡◌ {A = ℕ → Bool} (λ x. false) ((view (opened n w r top)).roots p) = (λ p. fun_ext (λ x. sym (every (λ v. get_or v.roots x false) false 9 resting no_worker (none_at false 256 x) refl p))) in
    let b : (p : ℕ) → ◌≡◌ {A = ℕ → ℕ} (λ q. 0) ((view (opened n w r top)).box p) = (λ p. fun_ext (λ q. sym (every (λ v. get_or v.boxes q 0) 0 9 resting no_worker (none_at 0 9 q) refl p))) in
    let c : (x : ℕ) → [] ≡ copies ((view (opened n w r top)).cells.place x) 1 ((view (opened n w r top)).cells.arity x) =
    (λ x. ap (copies ((view (opened n w r top)).cells.place x) 1) (sym (every (λ q. q.arity) 0 256 (free r) no_cell refl refl x))) in
    λ i. record { roots = fun_ext a i; boxes = fun_ext b i; children = fun_ext c i }

at_nil : {i : ℕ} {a : Moment} → AtMoment [] i a → ⊥
at_nil p = let h = at_low p in omega arith

no_laws : Laws []
no_laws = record { safe = λ i a p. absurd (at_nil p); balanced = λ i a p. absurd (at_nil p); bounded = λ i a p. absurd (at_nil p); prompt = λ i k a b p q le x d h. absurd (at_nil p) }

pub first_good : (n w r top : ℕ) → Within 255 n → n ≤ top → Within 8 w → Within 4294967294 r → Good (moment nothing (opened n w r top) ∷ []) nothing (opened n w r top)
first_good n w r top a b c d =
    let m = opened n w r top in let sh = first_shape n w r top a b c d in
    let g : Good [] (tables (view m)) m = record { shape = sh; inv = starts_inv n w (view m) (first_starts n w r top a b c d); apart = λ p. subst (ApartAt (Range n) ((view m).workers p)) (sym ((first_starts n w r top a b c d).all_idle p)) tt; tells = refl; laws = no_laws; track = λ p. absurd (at_nil p) } in
    subst (λ (u : Told). Good (moment u m ∷ []) u m) (sym (first_tells n w r top)) (extend (λ u. u) [] (tables (view m)) m m g (led_same m m sh refl))
